-- Nodes as a text in postfix notation: each node takes the last numbers that are left as its parts, and leaves its own.
use Rattle.std.specs.Prelude.{◌≡◌, ℕ, List, [], ◌∷◌, ◌++◌, length, Option, Some, None}
use Rattle.lua_ast.specs.declared.node.Node.{Node}
use Rattle.lua_ast.specs.declared.node.Node.TheVariants as node
use Rattle.lua_ast.specs.declared.node.Field.{Field}
use Rattle.lua_ast.specs.declared.node.Field.TheVariants as field
use Rattle.lua_ast.specs.declared.node.LinedNode.{LinedNode}

-- Numbers that were left, the last first, with these in front of them.

abbrev pub list_on : List ℕ → List ℕ → List ℕ
list_on [] below = below
list_on (i ∷ is) below = list_on is (i ∷ below)

abbrev pub maybe_on : Option ℕ → List ℕ → List ℕ
maybe_on None below = below
maybe_on (Some i) below = i ∷ below

abbrev pub field_on : Field → List ℕ → List ℕ
field_on (field.Item value) below = value ∷ below
field_on (field.Named _ value) below = value ∷ below
field_on (field.Keyed key value) below = value ∷ key ∷ below

abbrev pub fields_on : List Field → List ℕ → List ℕ
fields_on [] below = below
fields_on (f ∷ fs) below = fields_on fs (field_on f below)

-- A test goes with the block at its place, as in the tree.
abbrev pub cases_on : List ℕ → List ℕ → List ℕ → List ℕ
cases_on [] _ below = below
cases_on (_ ∷ _) [] below = below
cases_on (t ∷ ts) (b ∷ bs) below = cases_on ts bs (b ∷ t ∷ below)

-- the parts of a node
abbrev pub parts_on : Node → List ℕ → List ℕ
parts_on (node.Block stats) below = list_on stats below
parts_on (node.Local _ exps) below = list_on exps below
parts_on (node.Assign targets exps) below = list_on exps (list_on targets below)
parts_on (node.CallStat call) below = call ∷ below
parts_on (node.Do block) below = block ∷ below
parts_on (node.While test block) below = block ∷ test ∷ below
parts_on (node.Repeat block test) below = test ∷ block ∷ below
parts_on (node.If tests blocks otherwise) below = maybe_on otherwise (cases_on tests blocks below)
parts_on (node.NumFor _ first limit step block) below = block ∷ maybe_on step (limit ∷ first ∷ below)
parts_on (node.GenFor _ exps block) below = block ∷ list_on exps below
parts_on (node.LocalFunction _ function) below = function ∷ below
parts_on (node.Return exps) below = list_on exps below
parts_on node.Break below = below
parts_on (node.Goto _) below = below
parts_on (node.Label _) below = below
parts_on (node.Const _) below = below
parts_on node.Vararg below = below
parts_on (node.Function _ _ block) below = block ∷ below
parts_on (node.Name _) below = below
parts_on (node.Index object key) below = key ∷ object ∷ below
parts_on (node.Call function args) below = list_on args (function ∷ below)
parts_on (node.Method object _ args) below = list_on args (object ∷ below)
parts_on (node.Binary _ left right) below = right ∷ left ∷ below
parts_on (node.Logic _ left right) below = right ∷ left ∷ below
parts_on (node.Unary _ operand) below = operand ∷ below
parts_on (node.Paren inner) below = inner ∷ below
parts_on (node.Table fields) below = fields_on fields below

-- These nodes leave these numbers, the last first.
pub data Leaves : List LinedNode → List ℕ → Type 0 where
  nothing : Leaves [] []
  one_more : {nodes : List LinedNode} {numbers : List ℕ} (before : List LinedNode) (n : LinedNode) (below : List ℕ) →
      Leaves before (parts_on n.node below) → nodes ≡ before ++ n ∷ [] → numbers ≡ length before ∷ below → Leaves nodes numbers
