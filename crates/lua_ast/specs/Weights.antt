-- Sums over the parts of nodes. `w` gives the weight of a part by its number.
use Rattle.std.specs.Prelude.{ℕ, zero, suc, ◌+◌, List, [], ◌∷◌, Option, Some, None}
use Rattle.lua_ast.specs.declared.node.Node.{Node}
use Rattle.lua_ast.specs.declared.node.Node.TheVariants as node
use Rattle.lua_ast.specs.declared.node.Field.{Field}
use Rattle.lua_ast.specs.declared.node.Field.TheVariants as field
use Rattle.lua_ast.specs.declared.node.LinedNode.{LinedNode}

abbrev pub list_weight : (ℕ → ℕ) → List ℕ → ℕ
list_weight w [] = 0
list_weight w (i ∷ is) = w i + list_weight w is

abbrev pub maybe_weight : (ℕ → ℕ) → Option ℕ → ℕ
maybe_weight w None = 0
maybe_weight w (Some i) = w i

abbrev pub field_weight : (ℕ → ℕ) → Field → ℕ
field_weight w (field.Item value) = w value
field_weight w (field.Named _ value) = w value
field_weight w (field.Keyed key value) = w key + w value

abbrev pub fields_weight : (ℕ → ℕ) → List Field → ℕ
fields_weight w [] = 0
fields_weight w (f ∷ fs) = field_weight w f + fields_weight w fs

-- A test goes with the block at its place, as in the tree.
abbrev pub cases_weight : (ℕ → ℕ) → List ℕ → List ℕ → ℕ
cases_weight w [] _ = 0
cases_weight w (_ ∷ _) [] = 0
cases_weight w (t ∷ ts) (b ∷ bs) = w t + w b + cases_weight w ts bs

-- the parts of a node
abbrev pub parts_weight : (ℕ → ℕ) → Node → ℕ
parts_weight w (node.Block stats) = list_weight w stats
parts_weight w (node.Local names exps) = list_weight w exps
parts_weight w (node.Assign targets exps) = list_weight w targets + list_weight w exps
parts_weight w (node.CallStat call) = w call
parts_weight w (node.Do block) = w block
parts_weight w (node.While test block) = w test + w block
parts_weight w (node.Repeat block test) = w block + w test
parts_weight w (node.If tests blocks otherwise) = cases_weight w tests blocks + maybe_weight w otherwise
parts_weight w (node.NumFor name first limit step block) = w first + w limit + maybe_weight w step + w block
parts_weight w (node.GenFor names exps block) = list_weight w exps + w block
parts_weight w (node.LocalFunction name function) = w function
parts_weight w (node.Return exps) = list_weight w exps
parts_weight w node.Break = 0
parts_weight w (node.Goto label) = 0
parts_weight w (node.Label label) = 0
parts_weight w (node.Const value) = 0
parts_weight w node.Vararg = 0
parts_weight w (node.Function params vararg block) = w block
parts_weight w (node.Name text) = 0
parts_weight w (node.Index object key) = w object + w key
parts_weight w (node.Call function args) = w function + list_weight w args
parts_weight w (node.Method object name args) = w object + list_weight w args
parts_weight w (node.Binary op left right) = w left + w right
parts_weight w (node.Logic op left right) = w left + w right
parts_weight w (node.Unary op operand) = w operand
parts_weight w (node.Paren inner) = w inner
parts_weight w (node.Table fields) = fields_weight w fields

-- the parts of all these nodes
abbrev pub nodes_weight : (ℕ → ℕ) → List LinedNode → ℕ
nodes_weight w [] = 0
nodes_weight w (n ∷ ns) = parts_weight w n.node + nodes_weight w ns

-- the first n numbers
abbrev pub total : (ℕ → ℕ) → ℕ → ℕ
total w zero = 0
total w (suc n) = total w n + w n
