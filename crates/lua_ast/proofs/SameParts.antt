-- A node's tree depends on the trees of its parts alone.
use Rattle.std.specs.Prelude.{◌≡◌, ℕ, ◌<◌, List, [], ◌∷◌, Option, Some, None, refl}
use Rattle.std.proofs.Common.{ap, ◌∙◌}
use Rattle.lua_ast.specs.declared.node.Node.{Node}
use Rattle.lua_ast.specs.declared.node.Node.TheVariants as node
use Rattle.lua_ast.specs.declared.node.Field.{Field}
use Rattle.lua_ast.specs.declared.node.Field.TheVariants as field
use Rattle.lua_ast.specs.Tree.{Tree, Block, Local, Assign, CallStat, Do, While, Repeat, If, NumFor, GenFor, LocalFunction, Return, Function, Index, Call, Method, Binary, Logic, Unary, Paren, Table, Trees, none, snoc, Cases, no_case, case, present, Fields, no_field, item, named, keyed}
use Rattle.lua_ast.specs.Decode.{list_after, list_of, cases_after, cases_of, with_field, fields_after, fields_of, maybe_of, node_tree, AllBelow, MaybeBelow, FieldBelow, FieldsBelow, PartsBelow}

module _ (f g : ℕ → Tree) (n : ℕ) (same : (j : ℕ) → j < n → f j ≡ g j) where
  both : {A : Type 0} (k : Tree → Tree → A) (i j : ℕ) → (i < n) × (j < n) → k (f i) (f j) ≡ k (g i) (g j)
  both k i j b = ap (λ t. k t (f j)) (same i b.0) ∙ ap (λ t. k (g i) t) (same j b.1)

  same_list_after : (before : Trees) (is : List ℕ) → AllBelow n is → list_after f before is ≡ list_after g before is
  same_list_after before [] b = refl
  same_list_after before (i ∷ is) b = ap (λ t. list_after f (snoc before t) is) (same i b.0) ∙ same_list_after (snoc before (g i)) is b.1

  pub same_list_of : (is : List ℕ) → AllBelow n is → list_of f is ≡ list_of g is
  unfolding list_of
  same_list_of is b = same_list_after none is b

  same_cases_after : (before : Cases) (ts bs : List ℕ) → AllBelow n ts → AllBelow n bs → cases_after f before ts bs ≡ cases_after g before ts bs
  same_cases_after before [] bs p q = refl
  same_cases_after before (t ∷ ts) [] p q = refl
  same_cases_after before (t ∷ ts) (b ∷ bs) p q = both (λ u v. cases_after f (case before u v) ts bs) t b (p.0, q.0) ∙ same_cases_after (case before (g t) (g b)) ts bs p.1 q.1

  pub same_cases_of : (ts bs : List ℕ) → AllBelow n ts → AllBelow n bs → cases_of f ts bs ≡ cases_of g ts bs
  unfolding cases_of
  same_cases_of ts bs p q = same_cases_after no_case ts bs p q

  same_with_field : (before : Fields) (x : Field) → FieldBelow n x → with_field f before x ≡ with_field g before x
  same_with_field before (field.Item v) b = ap (λ t. item before t) (same v b)
  same_with_field before (field.Named x v) b = ap (λ t. named before x t) (same v b)
  same_with_field before (field.Keyed k v) b = both (λ t u. keyed before t u) k v b

  same_fields_after : (before : Fields) (xs : List Field) → FieldsBelow n xs → fields_after f before xs ≡ fields_after g before xs
  same_fields_after before [] b = refl
  same_fields_after before (x ∷ xs) b = ap (λ t. fields_after f t xs) (same_with_field before x b.0) ∙ same_fields_after (with_field g before x) xs b.1

  pub same_fields_of : (xs : List Field) → FieldsBelow n xs → fields_of f xs ≡ fields_of g xs
  unfolding fields_of
  same_fields_of xs b = same_fields_after no_field xs b

  pub same_maybe_of : (o : Option ℕ) → MaybeBelow n o → maybe_of f o ≡ maybe_of g o
  same_maybe_of None b = refl
  same_maybe_of (Some i) b = ap (λ t. present t) (same i b)

  pub same_node_tree : (m l : ℕ) (x : Node) → PartsBelow n x → node_tree f m l x ≡ node_tree g m l x
  same_node_tree m l (node.Block stats) b = ap (λ x. Block m l x) (same_list_of stats b)
  same_node_tree m l (node.Local names exps) b = ap (λ x. Local m l names x) (same_list_of exps b)
  same_node_tree m l (node.Assign targets exps) b = ap (λ x. Assign m l x (list_of f exps)) (same_list_of targets b.0) ∙ ap (λ x. Assign m l (list_of g targets) x) (same_list_of exps b.1)
  same_node_tree m l (node.CallStat call) b = ap (λ x. CallStat m l x) (same call b)
  same_node_tree m l (node.Do block) b = ap (λ x. Do m l x) (same block b)
  same_node_tree m l (node.While test block) b = both (λ x y. While m l x y) test block b
  same_node_tree m l (node.Repeat block test) b = both (λ x y. Repeat m l x y) block test b
  same_node_tree m l (node.If tests blocks otherwise) b = ap (λ x. If m l x (maybe_of f otherwise)) (same_cases_of tests blocks b.0 b.1) ∙ ap (λ x. If m l (cases_of g tests blocks) x) (same_maybe_of otherwise b.2)
  same_node_tree m l (node.NumFor name first limit step block) b = both (λ x y. NumFor m l name x y (maybe_of f step) (f block)) first limit (b.0, b.1) ∙ ap (λ x. NumFor m l name (g first) (g limit) x (f block)) (same_maybe_of step b.2) ∙ ap (λ x. NumFor m l name (g first) (g limit) (maybe_of g step) x) (same block b.3)
  same_node_tree m l (node.GenFor names exps block) b = ap (λ x. GenFor m l names x (f block)) (same_list_of exps b.0) ∙ ap (λ x. GenFor m l names (list_of g exps) x) (same block b.1)
  same_node_tree m l (node.LocalFunction name function) b = ap (λ x. LocalFunction m l name x) (same function b)
  same_node_tree m l (node.Return exps) b = ap (λ x. Return m l x) (same_list_of exps b)
  same_node_tree m l node.Break b = refl
  same_node_tree m l (node.Goto label) b = refl
  same_node_tree m l (node.Label label) b = refl
  same_node_tree m l (node.Const value) b = refl
  same_node_tree m l node.Vararg b = refl
  same_node_tree m l (node.Function params vararg block) b = ap (λ x. Function m l params vararg x) (same block b)
  same_node_tree m l (node.Name text) b = refl
  same_node_tree m l (node.Index object key) b = both (λ x y. Index m l x y) object key b
  same_node_tree m l (node.Call function args) b = ap (λ x. Call m l x (list_of f args)) (same function b.0) ∙ ap (λ x. Call m l (g function) x) (same_list_of args b.1)
  same_node_tree m l (node.Method object name args) b = ap (λ x. Method m l x name (list_of f args)) (same object b.0) ∙ ap (λ x. Method m l (g object) name x) (same_list_of args b.1)
  same_node_tree m l (node.Binary op left right) b = both (λ x y. Binary m l op x y) left right b
  same_node_tree m l (node.Logic op left right) b = both (λ x y. Logic m l op x y) left right b
  same_node_tree m l (node.Unary op operand) b = ap (λ x. Unary m l op x) (same operand b)
  same_node_tree m l (node.Paren inner) b = ap (λ x. Paren m l x) (same inner b)
  same_node_tree m l (node.Table fields) b = ap (λ x. Table m l x) (same_fields_of fields b)
