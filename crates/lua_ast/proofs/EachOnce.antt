-- Each node stands in the tree once, if root and parts together have the weight of all nodes, whatever the weights.
use Rattle.std.specs.Prelude.{◌≡◌, ℕ, zero, suc, ◌+◌, ◌<◌, ◌≤◌, ◌≢◌, ◌==◌, nat_lt, cond, Bool, List, [], ◌∷◌, ◌++◌, length, Option, Some, None, slice_get, refl}
use Rattle.std.specs.List.{sum_by, count_by}
use Rattle.std.proofs.Common.{ap, ◌∙◌, sym, subst, arith, ne_eqb, lt-ltb, le-ltb, inl, inr}
use Rattle.std.proofs.lemmas.List.Sums.{sum_by-append, sum_by-cons}
use Rattle.std.proofs.lemmas.Bool.{cases_lt}
use Rattle.std.proofs.lemmas.Bool.Decides.{eqb_tells}
use Rattle.lua_ast.specs.declared.node.Node.{Node}
use Rattle.lua_ast.specs.declared.node.Node.TheVariants as node
use Rattle.lua_ast.specs.declared.node.Field.{Field}
use Rattle.lua_ast.specs.declared.node.Field.TheVariants as field
use Rattle.lua_ast.specs.declared.node.LinedNode.{LinedNode}
use Rattle.lua_ast.specs.Tree.{Tree, Trees, none, snoc, Cases, no_case, case, Fields, no_field}
use Rattle.lua_ast.specs.Decode.{list_after, list_of, cases_after, cases_of, with_field, fields_after, fields_of, maybe_of, node_tree, tree, own_number, Ordered}
use Rattle.lua_ast.specs.Weights.{list_weight, maybe_weight, field_weight, fields_weight, cases_weight, parts_weight, nodes_weight, total}
use Rattle.lua_ast.specs.Once.{numbers_in, list_numbers, cases_numbers, maybe_numbers, fields_numbers, IsEachOnce}
use Rattle.lua_ast.proofs.Decoding.{tree_node}

module _ (v : ℕ → ℕ) where
  -- opaque, so that its argument is found by unification
  weighed : List ℕ → ℕ
  weighed xs = sum_by v xs

  weighed-none : weighed [] ≡ 0
  unfolding weighed
  weighed-none = refl

  weighed-append : (xs ys : List ℕ) → weighed (xs ++ ys) ≡ weighed xs + weighed ys
  unfolding weighed
  weighed-append xs ys = sum_by-append v xs ys

  weighed-cons : (x : ℕ) (xs : List ℕ) → weighed (x ∷ xs) ≡ v x + weighed xs
  unfolding weighed
  weighed-cons x xs = sum_by-cons v x xs

  two : (xs ys : List ℕ) {a b : ℕ} → weighed xs ≡ a → weighed ys ≡ b → weighed (xs ++ ys) ≡ a + b
  two xs ys e f = weighed-append xs ys ∙ omega (arith, e, f)

  one : (n : ℕ) (xs : List ℕ) {a : ℕ} → weighed xs ≡ a → weighed (n ∷ xs) ≡ v n + a
  one n xs e = weighed-cons n xs ∙ omega (arith, e)

  -- The numbers of a node's tree are its own and those of its parts.
  module _ (part : ℕ → Tree) where
    abbrev weight : ℕ → ℕ
    weight i = weighed (numbers_in (part i))

    part-sum : (i : ℕ) → weighed (numbers_in (part i)) ≡ weight i
    part-sum i = refl

    list_after-sum : (before : Trees) (is : List ℕ) → weighed (list_numbers (list_after part before is)) ≡ weighed (list_numbers before) + list_weight weight is
    list_after-sum before [] = omega arith
    list_after-sum before (i ∷ is) =
        let more : weighed (list_numbers (snoc before (part i))) ≡ weighed (list_numbers before) + weight i = weighed-append (list_numbers before) (numbers_in (part i))
        in list_after-sum (snoc before (part i)) is ∙ omega (arith, more)

    list-sum : (is : List ℕ) → weighed (list_numbers (list_of part is)) ≡ list_weight weight is
    unfolding list_of
    list-sum is = list_after-sum none is ∙ omega (arith, weighed-none)

    cases_after-sum : (before : Cases) (ts bs : List ℕ) → weighed (cases_numbers (cases_after part before ts bs)) ≡ weighed (cases_numbers before) + cases_weight weight ts bs
    cases_after-sum before [] bs = omega arith
    cases_after-sum before (t ∷ ts) [] = omega arith
    cases_after-sum before (t ∷ ts) (b ∷ bs) =
        let more : weighed (cases_numbers (case before (part t) (part b))) ≡ weighed (cases_numbers before) + weight t + weight b = two _ _ (weighed-append (cases_numbers before) (numbers_in (part t))) (part-sum b)
        in cases_after-sum (case before (part t) (part b)) ts bs ∙ omega (arith, more)

    cases-sum : (ts bs : List ℕ) → weighed (cases_numbers (cases_of part ts bs)) ≡ cases_weight weight ts bs
    unfolding cases_of
    cases-sum ts bs = cases_after-sum no_case ts bs ∙ omega (arith, weighed-none)

    with_field-sum : (before : Fields) (x : Field) → weighed (fields_numbers (with_field part before x)) ≡ weighed (fields_numbers before) + field_weight weight x
    with_field-sum before (field.Item value) = weighed-append (fields_numbers before) (numbers_in (part value))
    with_field-sum before (field.Named name value) = weighed-append (fields_numbers before) (numbers_in (part value))
    with_field-sum before (field.Keyed key value) = two _ _ (weighed-append (fields_numbers before) (numbers_in (part key))) (part-sum value) ∙ omega arith

    fields_after-sum : (before : Fields) (xs : List Field) → weighed (fields_numbers (fields_after part before xs)) ≡ weighed (fields_numbers before) + fields_weight weight xs
    fields_after-sum before [] = omega arith
    fields_after-sum before (x ∷ xs) = fields_after-sum (with_field part before x) xs ∙ omega (arith, with_field-sum before x)

    fields-sum : (xs : List Field) → weighed (fields_numbers (fields_of part xs)) ≡ fields_weight weight xs
    unfolding fields_of
    fields-sum xs = fields_after-sum no_field xs ∙ omega (arith, weighed-none)

    maybe-sum : (o : Option ℕ) → weighed (maybe_numbers (maybe_of part o)) ≡ maybe_weight weight o
    maybe-sum None = weighed-none
    maybe-sum (Some i) = refl

    node-sum : (n l : ℕ) (x : Node) → weighed (numbers_in (node_tree part n l x)) ≡ v n + parts_weight weight x
    node-sum n l (node.Block stats) = one n _ (list-sum stats)
    node-sum n l (node.Local names exps) = one n _ (list-sum exps)
    node-sum n l (node.Assign targets exps) = one n _ (two _ _ (list-sum targets) (list-sum exps))
    node-sum n l (node.CallStat call) = one n _ (part-sum call)
    node-sum n l (node.Do block) = one n _ (part-sum block)
    node-sum n l (node.While test block) = one n _ (two _ _ (part-sum test) (part-sum block))
    node-sum n l (node.Repeat block test) = one n _ (two _ _ (part-sum block) (part-sum test))
    node-sum n l (node.If tests blocks otherwise) = one n _ (two _ _ (cases-sum tests blocks) (maybe-sum otherwise))
    node-sum n l (node.NumFor name first limit step block) = one n _ (two _ _ (two _ _ (two _ _ (part-sum first) (part-sum limit)) (maybe-sum step)) (part-sum block))
    node-sum n l (node.GenFor names exps block) = one n _ (two _ _ (list-sum exps) (part-sum block))
    node-sum n l (node.LocalFunction name function) = one n _ (part-sum function)
    node-sum n l (node.Return exps) = one n _ (list-sum exps)
    node-sum n l node.Break = one n _ weighed-none
    node-sum n l (node.Goto label) = one n _ weighed-none
    node-sum n l (node.Label label) = one n _ weighed-none
    node-sum n l (node.Const value) = one n _ weighed-none
    node-sum n l node.Vararg = one n _ weighed-none
    node-sum n l (node.Function params vararg block) = one n _ (part-sum block)
    node-sum n l (node.Name text) = one n _ weighed-none
    node-sum n l (node.Index object key) = one n _ (two _ _ (part-sum object) (part-sum key))
    node-sum n l (node.Call function args) = one n _ (two _ _ (part-sum function) (list-sum args))
    node-sum n l (node.Method object name args) = one n _ (two _ _ (part-sum object) (list-sum args))
    node-sum n l (node.Binary op left right) = one n _ (two _ _ (part-sum left) (part-sum right))
    node-sum n l (node.Logic op left right) = one n _ (two _ _ (part-sum left) (part-sum right))
    node-sum n l (node.Unary op operand) = one n _ (part-sum operand)
    node-sum n l (node.Paren inner) = one n _ (part-sum inner)
    node-sum n l (node.Table fields) = one n _ (fields-sum fields)

  -- Where each node's weight is its own and that of its parts. `rest` are the nodes from the place k on.
  total-rest : (s : ℕ → ℕ) (nodes : List LinedNode) → ((i : ℕ) (n : LinedNode) → slice_get nodes i ≡ Some n → s i ≡ v i + parts_weight s n.node)
      → (k m : ℕ) (rest : List LinedNode) → ((j : ℕ) → slice_get nodes (k + j) ≡ slice_get rest j) → k + length rest ≡ m
      → total s m + total v k ≡ total v m + total s k + nodes_weight s rest
  total-rest s nodes each k m [] behind e =
      let same : k ≡ m = omega (arith, e)
      in subst (λ m. total s m + total v k ≡ total v m + total s k + 0) same (omega arith)
  total-rest s nodes each k m (n ∷ rest) behind e =
      let there : slice_get nodes k ≡ Some n = ap (slice_get nodes) (omega arith) ∙ behind 0
      in let more : total s m + total v (suc k) ≡ total v m + total s (suc k) + nodes_weight s rest = total-rest s nodes each (suc k) m rest (λ j. ap (slice_get nodes) (omega arith) ∙ behind (suc j)) (omega (arith, e))
      in omega (arith, more, each k n there)

  -- The tree of the root has the weight of all nodes.
  root-sum : (nodes : List LinedNode) (root : ℕ) → Ordered nodes → ((w : ℕ → ℕ) → w root + nodes_weight w nodes ≡ total w (length nodes))
      → weighed (numbers_in (tree own_number nodes root)) ≡ total v (length nodes)
  root-sum nodes root ok balance =
      let s : ℕ → ℕ = λ i. weighed (numbers_in (tree own_number nodes i))
      in let each : (i : ℕ) (n : LinedNode) → slice_get nodes i ≡ Some n → s i ≡ v i + parts_weight s n.node = λ i n e. ap (λ t. weighed (numbers_in t)) (tree_node own_number nodes ok i n e) ∙ node-sum (tree own_number nodes) i n.line n.node
      in omega (arith, balance s, total-rest s nodes each 0 (length nodes) nodes (λ j. ap (slice_get nodes) (omega arith)) (omega arith))

past : (i n : ℕ) → n ≤ i → n ≢ i → n < i
past i n g other = elim (cases_lt n i) [ inl l ↦ l | inr h ↦ absurd (other (omega (arith, g, h))) ]

abbrev bit : Bool → ℕ
bit b = cond b 1 0

-- Among the first n numbers, i stands once or not at all.
total-one : (i n : ℕ) → total (λ j. bit (j == i)) n ≡ bit (nat_lt i n)
total-one i zero = sym (ap bit (le-ltb i 0 (omega arith)))
total-one i (suc n) =
    let before : total (λ j. bit (j == i)) n ≡ bit (nat_lt i n) = total-one i n
    in elim (cases_lt i n) [
      | inl l ↦
          let here : bit (n == i) ≡ 0 = ap bit (ne_eqb n i (λ e. omega (arith, e, l)))
          in let low : bit (nat_lt i n) ≡ 1 = ap bit (lt-ltb i n l)
          in let high : bit (nat_lt i (suc n)) ≡ 1 = ap bit (lt-ltb i (suc n) (omega (arith, l)))
          in omega (arith, before, here, low, high)
      | inr g ↦
          let low : bit (nat_lt i n) ≡ 0 = ap bit (le-ltb i n g)
          in elim (eqb_tells n i) [
            | inl same ↦
                let here : bit (n == i) ≡ 1 = ap bit same.0
                in let high : bit (nat_lt i (suc n)) ≡ 1 = ap bit (lt-ltb i (suc n) (omega (arith, same.1)))
                in omega (arith, before, here, low, high)
            | inr other ↦
                let here : bit (n == i) ≡ 0 = ap bit other.0
                in let high : bit (nat_lt i (suc n)) ≡ 0 = ap bit (le-ltb i (suc n) (past i n g other.1))
                in omega (arith, before, here, low, high)
          ]
    ]

count-weighed : (i : ℕ) (xs : List ℕ) → count_by (λ j. j == i) xs ≡ weighed (λ j. bit (j == i)) xs
unfolding weighed
count-weighed i xs = refl

pub each_once : (nodes : List LinedNode) (root : ℕ) → Ordered nodes → root < length nodes
    → ((w : ℕ → ℕ) → w root + nodes_weight w nodes ≡ total w (length nodes)) → IsEachOnce (record { nodes = nodes; root = root })
each_once nodes root ok below balance i =
    count-weighed i (numbers_in (tree own_number nodes root)) ∙ root-sum (λ j. bit (j == i)) nodes root ok balance ∙ total-one i (length nodes)
