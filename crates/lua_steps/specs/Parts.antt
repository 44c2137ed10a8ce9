-- The parts of a node by their numbers, and what going through them means, from the first to the last.
use Rattle.std.specs.Prelude.{ℕ, Bool, true, false, List, [], ◌∷◌, ◌++◌, length, Option, Some, None, slice_get}
use Rattle.lua_ast.specs.declared.node.Node.{Node}
use Rattle.lua_ast.specs.declared.node.Node.TheVariants as node
use Rattle.lua_ast.specs.declared.node.Field.{Field}
use Rattle.lua_ast.specs.declared.node.Field.TheVariants as field
use Rattle.lua_ast.specs.declared.node.BinOp.{BinOp}
use Rattle.lua_ast.specs.declared.node.BinOp.TheVariants as bin
use Rattle.lua_ast.specs.declared.node.LogicOp.{LogicOp}
use Rattle.lua_ast.specs.declared.node.LogicOp.TheVariants as logic_op
use Rattle.lua_ast.specs.declared.node.UnOp.{UnOp}
use Rattle.lua_ast.specs.declared.node.UnOp.TheVariants as un
use Rattle.lua_ast.specs.declared.node.LinedNode.{LinedNode}
use Rattle.lua_ast.specs.Tree.{Tree}
use Rattle.lua_ast.specs.Decode.{tree, own_number}
use Rattle.lua_meaning.specs.declared.value.Value.{Value}
use Rattle.lua_meaning.specs.declared.value.Value.TheVariants as value
use Rattle.lua_meaning.specs.declared.variable.Target.{Target}
use Rattle.lua_meaning.specs.Values.{first}
use Rattle.lua_meaning.specs.Code.{Code}
use Rattle.lua_meaning.specs.Runs.{Run, after, at_line, put}
use Rattle.lua_meaning.specs.Jobs.{Again}
use Rattle.lua_meaning.specs.Nodes.{eval, by_truth, target_of, put_items}

-- what a node has, or else `other`
abbrev pub of_node : {X : Type 0} → X → (Node → X) → Option LinedNode → X
of_node other has None = other
of_node other has (Some l) = has l.node

-- statements, expressions or arguments
abbrev pub list_in : Node → List ℕ
list_in (node.Block stats) = stats
list_in (node.Local names exps) = exps
list_in (node.Assign targets exps) = exps
list_in (node.GenFor names exps block) = exps
list_in (node.Return exps) = exps
list_in (node.Call function args) = args
list_in (node.Method object name args) = args
list_in _ = []

abbrev pub name_count_in : Node → ℕ
name_count_in (node.Local names exps) = length names
name_count_in (node.GenFor names exps block) = length names
name_count_in _ = 0

abbrev pub targets_in : Node → List ℕ
targets_in (node.Assign targets exps) = targets
targets_in _ = []

abbrev pub test_in : Node → ℕ
test_in (node.While test block) = test
test_in (node.Repeat block test) = test
test_in _ = 0

abbrev pub block_inside : Node → ℕ
block_inside (node.While test block) = block
block_inside (node.Repeat block test) = block
block_inside (node.NumFor name first limit step block) = block
block_inside (node.GenFor names exps block) = block
block_inside _ = 0

abbrev pub tests_in : Node → List ℕ
tests_in (node.If tests blocks otherwise) = tests
tests_in _ = []

abbrev pub blocks_in : Node → List ℕ
blocks_in (node.If tests blocks otherwise) = blocks
blocks_in _ = []

abbrev pub otherwise_in : Node → Option ℕ
otherwise_in (node.If tests blocks otherwise) = otherwise
otherwise_in _ = None

abbrev pub first_in : Node → ℕ
first_in (node.NumFor name first limit step block) = first
first_in _ = 0

abbrev pub limit_in : Node → ℕ
limit_in (node.NumFor name first limit step block) = limit
limit_in _ = 0

abbrev pub step_in : Node → Option ℕ
step_in (node.NumFor name first limit step block) = step
step_in _ = None

abbrev pub function_inside : Node → ℕ
function_inside (node.LocalFunction name function) = function
function_inside (node.Call function args) = function
function_inside _ = 0

abbrev pub object_in : Node → ℕ
object_in (node.Index object key) = object
object_in (node.Method object name args) = object
object_in _ = 0

abbrev pub key_in : Node → ℕ
key_in (node.Index object key) = key
key_in _ = 0

-- the name of a method, the label of a goto
abbrev pub name_in : Node → List ℕ
name_in (node.Method object name args) = name
name_in (node.Goto label) = label
name_in _ = []

abbrev pub left_in : Node → ℕ
left_in (node.Binary op left right) = left
left_in (node.Logic op left right) = left
left_in _ = 0

abbrev pub right_in : Node → ℕ
right_in (node.Binary op left right) = right
right_in (node.Logic op left right) = right
right_in _ = 0

abbrev pub operand_in : Node → ℕ
operand_in (node.Unary op operand) = operand
operand_in (node.Paren inner) = inner
operand_in _ = 0

abbrev pub binary_in : Node → BinOp
binary_in (node.Binary op left right) = op
binary_in _ = bin.Add

abbrev pub logic_in : Node → LogicOp
logic_in (node.Logic op left right) = op
logic_in _ = logic_op.And

abbrev pub unary_in : Node → UnOp
unary_in (node.Unary op operand) = op
unary_in _ = un.Not

abbrev pub fields_in : Node → List Field
fields_in (node.Table fields) = fields
fields_in _ = []

abbrev pub line_in : Option LinedNode → ℕ
line_in None = 0
line_in (Some l) = l.line

module _ (nodes : List LinedNode) where
  -- the tree of a node
  abbrev pub part : ℕ → Tree
  part i = tree own_number nodes i

  -- what the node of this number has
  abbrev pub of_part : {X : Type 0} → X → (Node → X) → ℕ → X
  of_part other has i = of_node other has (slice_get nodes i)

  abbrev pub line_number : ℕ → ℕ
  line_number i = line_in (slice_get nodes i)

  abbrev pub list_at : ℕ → List ℕ
  list_at i = of_part [] list_in i

  abbrev pub name_count_at : ℕ → ℕ
  name_count_at i = of_part 0 name_count_in i

  abbrev pub targets_at : ℕ → List ℕ
  targets_at i = of_part [] targets_in i

  abbrev pub test_at : ℕ → ℕ
  test_at i = of_part 0 test_in i

  abbrev pub block_at : ℕ → ℕ
  block_at i = of_part 0 block_inside i

  abbrev pub tests_at : ℕ → List ℕ
  tests_at i = of_part [] tests_in i

  abbrev pub blocks_at : ℕ → List ℕ
  blocks_at i = of_part [] blocks_in i

  abbrev pub otherwise_at : ℕ → Option ℕ
  otherwise_at i = of_part None otherwise_in i

  abbrev pub first_at : ℕ → ℕ
  first_at i = of_part 0 first_in i

  abbrev pub limit_at : ℕ → ℕ
  limit_at i = of_part 0 limit_in i

  abbrev pub step_at : ℕ → Option ℕ
  step_at i = of_part None step_in i

  abbrev pub function_at : ℕ → ℕ
  function_at i = of_part 0 function_inside i

  abbrev pub object_at : ℕ → ℕ
  object_at i = of_part 0 object_in i

  abbrev pub key_at : ℕ → ℕ
  key_at i = of_part 0 key_in i

  abbrev pub name_there : ℕ → List ℕ
  name_there i = of_part [] name_in i

  abbrev pub left_at : ℕ → ℕ
  left_at i = of_part 0 left_in i

  abbrev pub right_at : ℕ → ℕ
  right_at i = of_part 0 right_in i

  abbrev pub operand_at : ℕ → ℕ
  operand_at i = of_part 0 operand_in i

  abbrev pub binary_at : ℕ → BinOp
  binary_at i = of_part bin.Add binary_in i

  abbrev pub logic_at : ℕ → LogicOp
  logic_at i = of_part logic_op.And logic_in i

  abbrev pub unary_at : ℕ → UnOp
  unary_at i = of_part un.Not unary_in i

  abbrev pub fields_at : ℕ → List Field
  fields_at i = of_part [] fields_in i

abbrev pub no_field_left : List Field → Bool
no_field_left [] = true
no_field_left (f ∷ fs) = false

module _ {H : Type 0} (code : Code) (again : Again H) (part : ℕ → Tree) where
  -- the nodes in turn, and then `k`
  abbrev pub run_all : List ℕ → Run H → Run H
  run_all [] k = k
  run_all (i ∷ is) k = λ s r. after (eval code again (part i) s r) (λ vs. run_all is k)

  -- expressions in turn, behind values that are there, after the one before them has given `ws`
  abbrev pub more : List Value → List ℕ → (List Value → Run H) → List Value → Run H
  more vs [] k ws = k (vs ++ ws)
  more vs (i ∷ is) k ws = λ s r. after (eval code again (part i) s r) (more (vs ++ first ws ∷ []) is k)

  -- expressions in turn, behind values that are there
  abbrev pub begin_all : List Value → List ℕ → (List Value → Run H) → Run H
  begin_all vs [] k = k vs
  begin_all vs (i ∷ is) k = λ s r. after (eval code again (part i) s r) (more vs is k)

  -- targets in turn, behind those that are there
  abbrev pub targets_from : List Target → List ℕ → (List Target → Run H) → Run H
  targets_from ts [] k = k ts
  targets_from ts (i ∷ is) k = target_of code again (part i) (λ t. targets_from (ts ++ t ∷ []) is k)

  -- the block of the first test that holds
  abbrev pub choose_from : List ℕ → List ℕ → Run H → Run H
  choose_from [] bs otherwise = otherwise
  choose_from (t ∷ ts) [] otherwise = otherwise
  choose_from (t ∷ ts) (b ∷ bs) otherwise = λ s r. after (eval code again (part t) s r) (λ vs. by_truth (first vs) (eval code again (part b)) (choose_from ts bs otherwise))

  -- after a test has given `vs`, with its block and what follows it
  abbrev pub chose : List ℕ → List ℕ → Run H → List Value → Run H
  chose ts [] otherwise vs = otherwise
  chose ts (b ∷ bs) otherwise vs = by_truth (first vs) (eval code again (part b)) (choose_from ts bs otherwise)

  -- The values of a field without a key: all of them where it is the last field, else the first.
  abbrev pub items_by : (is_last : Bool) → (t c line : ℕ) → (rest : ℕ → Run H) → List Value → Run H
  items_by true t c l rest ws = λ s. put_items (at_line l s) t c ws rest s
  items_by false t c l rest ws = λ s. put_items (at_line l s) t c (first ws ∷ []) rest s

  -- fields in turn, `c` being the next whole number
  abbrev pub fields_from : List Field → (t c line : ℕ) → Run H → Run H
  fields_from [] t c l k = k
  fields_from (field.Item v ∷ fs) t c l k = λ s r. after (eval code again (part v) s r) (items_by (no_field_left fs) t c l (λ d. fields_from fs t d l k))
  fields_from (field.Named name v ∷ fs) t c l k = λ s r. after (eval code again (part v) s r) (λ ws s. put (at_line l s) t (value.Text name) (first ws) (fields_from fs t c l k) s)
  fields_from (field.Keyed key v ∷ fs) t c l k = λ s r. after (eval code again (part key) s r) (λ i s r. after (eval code again (part v) s r) (λ ws s. put (at_line l s) t (first i) (first ws) (fields_from fs t c l k) s))

  -- after a field without a key has given its values
  abbrev pub items_then : List Field → (t c line : ℕ) → Run H → List Value → Run H
  items_then fs t c l k = items_by (no_field_left fs) t c l (λ d. fields_from fs t d l k)
