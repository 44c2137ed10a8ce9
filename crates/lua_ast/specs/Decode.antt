-- The tree that a list of nodes decodes to. A node's parts are named by their places in the list.
-- What number a tree gets for the place of its node is the parameter `number`.
use Rattle.std.specs.Prelude.{◌≡◌, ℕ, zero, suc, ◌<◌, List, [], ◌∷◌, ◌++◌, length, Option, Some, None, option_map, slice_get, slice_index_or}
use Rattle.lua_ast.specs.declared.node.Node.{Node}
use Rattle.lua_ast.specs.declared.node.Node.TheVariants as node
use Rattle.lua_ast.specs.declared.node.Field.{Field}
use Rattle.lua_ast.specs.declared.node.Field.TheVariants as field
use Rattle.lua_ast.specs.declared.node.LinedNode.{LinedNode}
use Rattle.lua_ast.specs.Tree.{Tree, Block, Local, Assign, CallStat, Do, While, Repeat, If, NumFor, GenFor, LocalFunction, Return, Break, Goto, Label, Const, Vararg, Function, Name, Index, Call, Method, Binary, Logic, Unary, Paren, Table, Missing, Trees, none, snoc, Cases, no_case, case, Maybe, absent, present, Fields, no_field, item, named, keyed}

-- What contracts see of a chunk.
pub record ChunkNodes : Type 0 where
  pub nodes : List LinedNode
  pub root : ℕ

abbrev pub node_at : List LinedNode → ℕ → Option Node
node_at nodes i = option_map (λ n. n.node) (slice_get nodes i)

abbrev pub line_at : List LinedNode → ℕ → Option ℕ
line_at nodes i = option_map (λ n. n.line) (slice_get nodes i)

-- The trees of parts, in order, behind those that are there already.

abbrev pub list_after : (ℕ → Tree) → Trees → List ℕ → Trees
list_after part before [] = before
list_after part before (i ∷ is) = list_after part (snoc before (part i)) is

unfoldable pub list_of : (ℕ → Tree) → List ℕ → Trees
list_of part is = list_after part none is

-- A test goes with the block at its place. A test without a block, and a block without a test, is no case.
abbrev pub cases_after : (ℕ → Tree) → Cases → List ℕ → List ℕ → Cases
cases_after part before [] _ = before
cases_after part before (_ ∷ _) [] = before
cases_after part before (t ∷ ts) (b ∷ bs) = cases_after part (case before (part t) (part b)) ts bs

unfoldable pub cases_of : (ℕ → Tree) → List ℕ → List ℕ → Cases
cases_of part tests blocks = cases_after part no_case tests blocks

abbrev pub with_field : (ℕ → Tree) → Fields → Field → Fields
with_field part before (field.Item value) = item before (part value)
with_field part before (field.Named name value) = named before name (part value)
with_field part before (field.Keyed key value) = keyed before (part key) (part value)

abbrev pub fields_after : (ℕ → Tree) → Fields → List Field → Fields
fields_after part before [] = before
fields_after part before (f ∷ fs) = fields_after part (with_field part before f) fs

unfoldable pub fields_of : (ℕ → Tree) → List Field → Fields
fields_of part fs = fields_after part no_field fs

abbrev pub maybe_of : (ℕ → Tree) → Option ℕ → Maybe
maybe_of part None = absent
maybe_of part (Some i) = present (part i)

-- The tree of a node, by the trees of its parts.
abbrev pub node_tree : (part : ℕ → Tree) (number line : ℕ) → Node → Tree
node_tree part n l (node.Block stats) = Block n l (list_of part stats)
node_tree part n l (node.Local names exps) = Local n l names (list_of part exps)
node_tree part n l (node.Assign targets exps) = Assign n l (list_of part targets) (list_of part exps)
node_tree part n l (node.CallStat call) = CallStat n l (part call)
node_tree part n l (node.Do block) = Do n l (part block)
node_tree part n l (node.While test block) = While n l (part test) (part block)
node_tree part n l (node.Repeat block test) = Repeat n l (part block) (part test)
node_tree part n l (node.If tests blocks otherwise) = If n l (cases_of part tests blocks) (maybe_of part otherwise)
node_tree part n l (node.NumFor name first limit step block) = NumFor n l name (part first) (part limit) (maybe_of part step) (part block)
node_tree part n l (node.GenFor names exps block) = GenFor n l names (list_of part exps) (part block)
node_tree part n l (node.LocalFunction name function) = LocalFunction n l name (part function)
node_tree part n l (node.Return exps) = Return n l (list_of part exps)
node_tree part n l node.Break = Break n l
node_tree part n l (node.Goto label) = Goto n l label
node_tree part n l (node.Label label) = Label n l label
node_tree part n l (node.Const value) = Const n l value
node_tree part n l node.Vararg = Vararg n l
node_tree part n l (node.Function params vararg block) = Function n l params vararg (part block)
node_tree part n l (node.Name text) = Name n l text
node_tree part n l (node.Index object key) = Index n l (part object) (part key)
node_tree part n l (node.Call function args) = Call n l (part function) (list_of part args)
node_tree part n l (node.Method object name args) = Method n l (part object) name (list_of part args)
node_tree part n l (node.Binary op left right) = Binary n l op (part left) (part right)
node_tree part n l (node.Logic op left right) = Logic n l op (part left) (part right)
node_tree part n l (node.Unary op operand) = Unary n l op (part operand)
node_tree part n l (node.Paren inner) = Paren n l (part inner)
node_tree part n l (node.Table fields) = Table n l (fields_of part fields)

-- By place: the tree of the node there, to this depth.
abbrev pub tree_at : (part : ℕ → Tree) (number : ℕ) → Option LinedNode → Tree
tree_at part n None = Missing
tree_at part n (Some lined) = node_tree part n lined.line lined.node

abbrev pub tree_to : (number : ℕ → ℕ) → List LinedNode → (depth i : ℕ) → Tree
tree_to number nodes zero i = Missing
tree_to number nodes (suc depth) i = tree_at (tree_to number nodes depth) (number i) (slice_get nodes i)

-- Where parts precede wholes, a node at place i has a tree of at most i + 1 levels.
unfoldable pub tree : (number : ℕ → ℕ) → List LinedNode → ℕ → Tree
tree number nodes i = tree_to number nodes (suc i) i

-- By a fold: the trees of all nodes, each made of those before it.
abbrev pub tree_in : List Tree → ℕ → Tree
tree_in ts i = slice_index_or ts i Missing

abbrev pub trees_after : (number : ℕ → ℕ) → List Tree → List LinedNode → List Tree
trees_after number ts [] = ts
trees_after number ts (n ∷ ns) = trees_after number (ts ++ node_tree (tree_in ts) (number (length ts)) n.line n.node ∷ []) ns

unfoldable pub trees : (number : ℕ → ℕ) → List LinedNode → List Tree
trees number nodes = trees_after number [] nodes

-- Two choices of numbers: none, for a grammar, and the place, for a meaning.
abbrev pub no_number : ℕ → ℕ
no_number _ = 0

abbrev pub own_number : ℕ → ℕ
own_number i = i

-- All these places are below n.
abbrev pub AllBelow : ℕ → List ℕ → Type 0
AllBelow n [] = Unit {0}
AllBelow n (i ∷ is) = (i < n) × AllBelow n is

abbrev pub MaybeBelow : ℕ → Option ℕ → Type 0
MaybeBelow n None = Unit {0}
MaybeBelow n (Some i) = i < n

abbrev pub FieldBelow : ℕ → Field → Type 0
FieldBelow n (field.Item value) = value < n
FieldBelow n (field.Named name value) = value < n
FieldBelow n (field.Keyed key value) = (key < n) × (value < n)

abbrev pub FieldsBelow : ℕ → List Field → Type 0
FieldsBelow n [] = Unit {0}
FieldsBelow n (f ∷ fs) = FieldBelow n f × FieldsBelow n fs

-- The parts of a node stand at places below n.
abbrev pub PartsBelow : ℕ → Node → Type 0
PartsBelow n (node.Block stats) = AllBelow n stats
PartsBelow n (node.Local names exps) = AllBelow n exps
PartsBelow n (node.Assign targets exps) = AllBelow n targets × AllBelow n exps
PartsBelow n (node.CallStat call) = call < n
PartsBelow n (node.Do block) = block < n
PartsBelow n (node.While test block) = (test < n) × (block < n)
PartsBelow n (node.Repeat block test) = (block < n) × (test < n)
PartsBelow n (node.If tests blocks otherwise) = AllBelow n tests × AllBelow n blocks × MaybeBelow n otherwise
PartsBelow n (node.NumFor name first limit step block) = (first < n) × (limit < n) × MaybeBelow n step × (block < n)
PartsBelow n (node.GenFor names exps block) = AllBelow n exps × (block < n)
PartsBelow n (node.LocalFunction name function) = function < n
PartsBelow n (node.Return exps) = AllBelow n exps
PartsBelow n node.Break = Unit {0}
PartsBelow n (node.Goto label) = Unit {0}
PartsBelow n (node.Label label) = Unit {0}
PartsBelow n (node.Const value) = Unit {0}
PartsBelow n node.Vararg = Unit {0}
PartsBelow n (node.Function params vararg block) = block < n
PartsBelow n (node.Name text) = Unit {0}
PartsBelow n (node.Index object key) = (object < n) × (key < n)
PartsBelow n (node.Call function args) = (function < n) × AllBelow n args
PartsBelow n (node.Method object name args) = (object < n) × AllBelow n args
PartsBelow n (node.Binary op left right) = (left < n) × (right < n)
PartsBelow n (node.Logic op left right) = (left < n) × (right < n)
PartsBelow n (node.Unary op operand) = operand < n
PartsBelow n (node.Paren inner) = inner < n
PartsBelow n (node.Table fields) = FieldsBelow n fields

-- Parts precede wholes.
pub record Ordered (nodes : List LinedNode) : Type 0 where
  pub parts : (i : ℕ) (n : LinedNode) → slice_get nodes i ≡ Some n → PartsBelow i n.node
