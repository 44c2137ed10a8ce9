-- Numbers are labels.
use Rattle.std.specs.Prelude.{◌≡◌, ℕ, zero, suc, List, [], ◌∷◌, Option, Some, None, slice_get, refl}
use Rattle.std.proofs.Common.{ap, ◌∙◌}
use Rattle.lua_ast.specs.declared.node.Node.{Node}
use Rattle.lua_ast.specs.declared.node.Node.TheVariants as node
use Rattle.lua_ast.specs.declared.node.Field.{Field}
use Rattle.lua_ast.specs.declared.node.Field.TheVariants as field
use Rattle.lua_ast.specs.declared.node.LinedNode.{LinedNode}
use Rattle.lua_ast.specs.Tree.{Tree, Block, Local, Assign, CallStat, Do, While, Repeat, If, NumFor, GenFor, LocalFunction, Return, Function, Index, Call, Method, Binary, Logic, Unary, Paren, Table, Trees, none, snoc, Cases, no_case, case, present, Fields, no_field, item, named, keyed}
use Rattle.lua_ast.specs.Decode.{list_after, list_of, cases_after, cases_of, with_field, fields_after, fields_of, maybe_of, node_tree, tree_at, tree_to, tree, no_number}
use Rattle.lua_ast.specs.Numbers.{without_numbers, list_without, cases_without, maybe_without, fields_without}

module _ (f g : ℕ → Tree) (same : (j : ℕ) → without_numbers (f j) ≡ g j) where
  both : {A : Type 0} (k : Tree → Tree → A) (i j : ℕ) → k (without_numbers (f i)) (without_numbers (f j)) ≡ k (g i) (g j)
  both k i j = ap (λ t. k t (without_numbers (f j))) (same i) ∙ ap (λ t. k (g i) t) (same j)

  list_after-without : (before : Trees) (is : List ℕ) → list_without (list_after f before is) ≡ list_after g (list_without before) is
  list_after-without before [] = refl
  list_after-without before (i ∷ is) = list_after-without (snoc before (f i)) is ∙ ap (λ t. list_after g (snoc (list_without before) t) is) (same i)

  list_of-without : (is : List ℕ) → list_without (list_of f is) ≡ list_of g is
  unfolding list_of
  list_of-without is = list_after-without none is

  cases_after-without : (before : Cases) (ts bs : List ℕ) → cases_without (cases_after f before ts bs) ≡ cases_after g (cases_without before) ts bs
  cases_after-without before [] bs = refl
  cases_after-without before (t ∷ ts) [] = refl
  cases_after-without before (t ∷ ts) (b ∷ bs) = cases_after-without (case before (f t) (f b)) ts bs ∙ both (λ u v. cases_after g (case (cases_without before) u v) ts bs) t b

  cases_of-without : (ts bs : List ℕ) → cases_without (cases_of f ts bs) ≡ cases_of g ts bs
  unfolding cases_of
  cases_of-without ts bs = cases_after-without no_case ts bs

  with_field-without : (before : Fields) (x : Field) → fields_without (with_field f before x) ≡ with_field g (fields_without before) x
  with_field-without before (field.Item v) = ap (λ t. item (fields_without before) t) (same v)
  with_field-without before (field.Named x v) = ap (λ t. named (fields_without before) x t) (same v)
  with_field-without before (field.Keyed k v) = both (λ t u. keyed (fields_without before) t u) k v

  fields_after-without : (before : Fields) (xs : List Field) → fields_without (fields_after f before xs) ≡ fields_after g (fields_without before) xs
  fields_after-without before [] = refl
  fields_after-without before (x ∷ xs) = fields_after-without (with_field f before x) xs ∙ ap (λ t. fields_after g t xs) (with_field-without before x)

  fields_of-without : (xs : List Field) → fields_without (fields_of f xs) ≡ fields_of g xs
  unfolding fields_of
  fields_of-without xs = fields_after-without no_field xs

  maybe_of-without : (o : Option ℕ) → maybe_without (maybe_of f o) ≡ maybe_of g o
  maybe_of-without None = refl
  maybe_of-without (Some i) = ap (λ t. present t) (same i)

  pub node_tree_without : (m l : ℕ) (x : Node) → without_numbers (node_tree f m l x) ≡ node_tree g 0 l x
  node_tree_without m l (node.Block stats) = ap (λ x. Block 0 l x) (list_of-without stats)
  node_tree_without m l (node.Local names exps) = ap (λ x. Local 0 l names x) (list_of-without exps)
  node_tree_without m l (node.Assign targets exps) = ap (λ x. Assign 0 l x (list_without (list_of f exps))) (list_of-without targets) ∙ ap (λ x. Assign 0 l (list_of g targets) x) (list_of-without exps)
  node_tree_without m l (node.CallStat call) = ap (λ x. CallStat 0 l x) (same call)
  node_tree_without m l (node.Do block) = ap (λ x. Do 0 l x) (same block)
  node_tree_without m l (node.While test block) = both (λ x y. While 0 l x y) test block
  node_tree_without m l (node.Repeat block test) = both (λ x y. Repeat 0 l x y) block test
  node_tree_without m l (node.If tests blocks otherwise) = ap (λ x. If 0 l x (maybe_without (maybe_of f otherwise))) (cases_of-without tests blocks) ∙ ap (λ x. If 0 l (cases_of g tests blocks) x) (maybe_of-without otherwise)
  node_tree_without m l (node.NumFor name first limit step block) = both (λ x y. NumFor 0 l name x y (maybe_without (maybe_of f step)) (without_numbers (f block))) first limit ∙ ap (λ x. NumFor 0 l name (g first) (g limit) x (without_numbers (f block))) (maybe_of-without step) ∙ ap (λ x. NumFor 0 l name (g first) (g limit) (maybe_of g step) x) (same block)
  node_tree_without m l (node.GenFor names exps block) = ap (λ x. GenFor 0 l names x (without_numbers (f block))) (list_of-without exps) ∙ ap (λ x. GenFor 0 l names (list_of g exps) x) (same block)
  node_tree_without m l (node.LocalFunction name function) = ap (λ x. LocalFunction 0 l name x) (same function)
  node_tree_without m l (node.Return exps) = ap (λ x. Return 0 l x) (list_of-without exps)
  node_tree_without m l node.Break = refl
  node_tree_without m l (node.Goto label) = refl
  node_tree_without m l (node.Label label) = refl
  node_tree_without m l (node.Const value) = refl
  node_tree_without m l node.Vararg = refl
  node_tree_without m l (node.Function params vararg block) = ap (λ x. Function 0 l params vararg x) (same block)
  node_tree_without m l (node.Name text) = refl
  node_tree_without m l (node.Index object key) = both (λ x y. Index 0 l x y) object key
  node_tree_without m l (node.Call function args) = ap (λ x. Call 0 l x (list_without (list_of f args))) (same function) ∙ ap (λ x. Call 0 l (g function) x) (list_of-without args)
  node_tree_without m l (node.Method object name args) = ap (λ x. Method 0 l x name (list_without (list_of f args))) (same object) ∙ ap (λ x. Method 0 l (g object) name x) (list_of-without args)
  node_tree_without m l (node.Binary op left right) = both (λ x y. Binary 0 l op x y) left right
  node_tree_without m l (node.Logic op left right) = both (λ x y. Logic 0 l op x y) left right
  node_tree_without m l (node.Unary op operand) = ap (λ x. Unary 0 l op x) (same operand)
  node_tree_without m l (node.Paren inner) = ap (λ x. Paren 0 l x) (same inner)
  node_tree_without m l (node.Table fields) = ap (λ x. Table 0 l x) (fields_of-without fields)

tree_at-without : (f g : ℕ → Tree) → ((j : ℕ) → without_numbers (f j) ≡ g j) → (m : ℕ) (o : Option LinedNode) → without_numbers (tree_at f m o) ≡ tree_at g 0 o
tree_at-without f g same m None = refl
tree_at-without f g same m (Some n) = node_tree_without f g same m n.line n.node

tree_to-without : (number : ℕ → ℕ) (nodes : List LinedNode) (d i : ℕ) → without_numbers (tree_to number nodes d i) ≡ tree_to no_number nodes d i
tree_to-without number nodes zero i = refl
tree_to-without number nodes (suc d) i = tree_at-without (tree_to number nodes d) (tree_to no_number nodes d) (λ j. tree_to-without number nodes d j) (number i) (slice_get nodes i)

-- Without its numbers the tree is that of a grammar.
pub tree_without : (number : ℕ → ℕ) (nodes : List LinedNode) (i : ℕ) → without_numbers (tree number nodes i) ≡ tree no_number nodes i
unfolding tree
tree_without number nodes i = tree_to-without number nodes (suc i) i
