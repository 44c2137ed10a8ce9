-- The tree of a chunk tells the tree of each of its nodes: they stand in it in the order of their numbers in it.
use Rattle.std.specs.Prelude.{◌≡◌, ℕ, zero, suc, ◌+◌, ◌<◌, ◌≤◌, ◌==◌, ◌||◌, nat_lt, cond, Bool, true, false, List, [], ◌∷◌, ◌++◌, length, map, Option, Some, None, slice_get, refl}
use Rattle.std.specs.List.{list_any, count_by}
use Rattle.std.proofs.Common.{ap, ◌∙◌, sym, subst, arith, inl, inr}
use Rattle.std.proofs.lemmas.Bool.Decides.{nat_tests, eqb_tells}
use Rattle.std.proofs.lemmas.List.{map-append}
use Rattle.lua_ast.specs.declared.node.Node.{Node}
use Rattle.lua_ast.specs.declared.node.Node.TheVariants as node
use Rattle.lua_ast.specs.declared.node.Field.{Field}
use Rattle.lua_ast.specs.declared.node.Field.TheVariants as field
use Rattle.lua_ast.specs.declared.node.LinedNode.{LinedNode}
use Rattle.lua_ast.specs.Tree.{Tree, Block, Local, Assign, CallStat, Do, While, Repeat, If, NumFor, GenFor, LocalFunction, Return, Break, Goto, Label, Const, Vararg, Function, Name, Index, Call, Method, Binary, Logic, Unary, Paren, Table, Missing, Trees, none, snoc, Cases, no_case, case, Maybe, absent, present, Fields, no_field, item, named, keyed}
use Rattle.lua_ast.specs.Decode.{ChunkNodes, list_after, list_of, cases_after, cases_of, with_field, fields_after, fields_of, maybe_of, node_tree, tree, own_number, AllBelow, MaybeBelow, FieldBelow, FieldsBelow, PartsBelow, Ordered}
use Rattle.lua_ast.specs.Once.{numbers_in, list_numbers, cases_numbers, maybe_numbers, fields_numbers, IsEachOnce}
use Rattle.lua_ast.proofs.Decoding.{tree_node, tree_past}
use Rattle.lua_scope.proofs.ToldOnce.{hits, hits_count}

-- a tree and its parts, and theirs, in the order of the numbers in it
abbrev mutual
  trees_in : Tree → List Tree
  trees_in (Block n l stats) = Block n l stats ∷ list_trees stats
  trees_in (Local n l names exps) = Local n l names exps ∷ list_trees exps
  trees_in (Assign n l targets exps) = Assign n l targets exps ∷ (list_trees targets ++ list_trees exps)
  trees_in (CallStat n l call) = CallStat n l call ∷ trees_in call
  trees_in (Do n l block) = Do n l block ∷ trees_in block
  trees_in (While n l test block) = While n l test block ∷ (trees_in test ++ trees_in block)
  trees_in (Repeat n l block test) = Repeat n l block test ∷ (trees_in block ++ trees_in test)
  trees_in (If n l cases otherwise) = If n l cases otherwise ∷ (cases_trees cases ++ maybe_trees otherwise)
  trees_in (NumFor n l name first limit step block) = NumFor n l name first limit step block ∷ (trees_in first ++ trees_in limit ++ maybe_trees step ++ trees_in block)
  trees_in (GenFor n l names exps block) = GenFor n l names exps block ∷ (list_trees exps ++ trees_in block)
  trees_in (LocalFunction n l name function) = LocalFunction n l name function ∷ trees_in function
  trees_in (Return n l exps) = Return n l exps ∷ list_trees exps
  trees_in (Break n l) = Break n l ∷ []
  trees_in (Goto n l label) = Goto n l label ∷ []
  trees_in (Label n l label) = Label n l label ∷ []
  trees_in (Const n l value) = Const n l value ∷ []
  trees_in (Vararg n l) = Vararg n l ∷ []
  trees_in (Function n l params vararg block) = Function n l params vararg block ∷ trees_in block
  trees_in (Name n l text) = Name n l text ∷ []
  trees_in (Index n l object key) = Index n l object key ∷ (trees_in object ++ trees_in key)
  trees_in (Call n l function args) = Call n l function args ∷ (trees_in function ++ list_trees args)
  trees_in (Method n l object name args) = Method n l object name args ∷ (trees_in object ++ list_trees args)
  trees_in (Binary n l op left right) = Binary n l op left right ∷ (trees_in left ++ trees_in right)
  trees_in (Logic n l op left right) = Logic n l op left right ∷ (trees_in left ++ trees_in right)
  trees_in (Unary n l op operand) = Unary n l op operand ∷ trees_in operand
  trees_in (Paren n l inner) = Paren n l inner ∷ trees_in inner
  trees_in (Table n l fields) = Table n l fields ∷ fields_trees fields
  trees_in Missing = []

  list_trees : Trees → List Tree
  list_trees none = []
  list_trees (snoc ts t) = list_trees ts ++ trees_in t

  cases_trees : Cases → List Tree
  cases_trees no_case = []
  cases_trees (case cs test block) = cases_trees cs ++ trees_in test ++ trees_in block

  maybe_trees : Maybe → List Tree
  maybe_trees absent = []
  maybe_trees (present t) = trees_in t

  fields_trees : Fields → List Tree
  fields_trees no_field = []
  fields_trees (item fs value) = fields_trees fs ++ trees_in value
  fields_trees (named fs _ value) = fields_trees fs ++ trees_in value
  fields_trees (keyed fs key value) = fields_trees fs ++ trees_in key ++ trees_in value

module _ (part : ℕ → Tree) where
  -- These are the trees of these numbers.
  record AreOf (ts : List Tree) (ns : List ℕ) : Type 0 where
    are : ts ≡ map part ns

  nothing : AreOf [] []
  nothing = record { are = refl }

  two : {ts us : List Tree} {ms ns : List ℕ} → AreOf ts ms → AreOf us ns → AreOf (ts ++ us) (ms ++ ns)
  two {us = us} {ms = ms} {ns = ns} p q = record {
    are = ap (λ (vs : List Tree). vs ++ us) p.are ∙ (ap (λ (vs : List Tree). map part ms ++ vs) q.are ∙ sym (map-append part ms ns));
  }

  module _ (n : ℕ) (parts : (j : ℕ) → j < n → AreOf (trees_in (part j)) (numbers_in (part j))) where
    list_after_are : (before : Trees) → AreOf (list_trees before) (list_numbers before) → (is : List ℕ) → AllBelow n is → AreOf (list_trees (list_after part before is)) (list_numbers (list_after part before is))
    list_after_are before h [] below = h
    list_after_are before h (j ∷ js) below = list_after_are (snoc before (part j)) (two h (parts j below.0)) js below.1

    list_are : (is : List ℕ) → AllBelow n is → AreOf (list_trees (list_of part is)) (list_numbers (list_of part is))
    unfolding list_of
    list_are is below = list_after_are none nothing is below

    cases_after_are : (before : Cases) → AreOf (cases_trees before) (cases_numbers before) → (ts bs : List ℕ) → AllBelow n ts → AllBelow n bs → AreOf (cases_trees (cases_after part before ts bs)) (cases_numbers (cases_after part before ts bs))
    cases_after_are before h [] bs p q = h
    cases_after_are before h (t ∷ ts) [] p q = h
    cases_after_are before h (t ∷ ts) (b ∷ bs) p q = cases_after_are (case before (part t) (part b)) (two (two h (parts t p.0)) (parts b q.0)) ts bs p.1 q.1

    cases_are : (ts bs : List ℕ) → AllBelow n ts → AllBelow n bs → AreOf (cases_trees (cases_of part ts bs)) (cases_numbers (cases_of part ts bs))
    unfolding cases_of
    cases_are ts bs p q = cases_after_are no_case nothing ts bs p q

    maybe_are : (o : Option ℕ) → MaybeBelow n o → AreOf (maybe_trees (maybe_of part o)) (maybe_numbers (maybe_of part o))
    maybe_are None below = nothing
    maybe_are (Some j) below = parts j below

    field_are : (before : Fields) (x : Field) → AreOf (fields_trees before) (fields_numbers before) → FieldBelow n x → AreOf (fields_trees (with_field part before x)) (fields_numbers (with_field part before x))
    field_are before (field.Item value) h below = two h (parts value below)
    field_are before (field.Named name value) h below = two h (parts value below)
    field_are before (field.Keyed key value) h below = two (two h (parts key below.0)) (parts value below.1)

    fields_after_are : (before : Fields) → AreOf (fields_trees before) (fields_numbers before) → (xs : List Field) → FieldsBelow n xs → AreOf (fields_trees (fields_after part before xs)) (fields_numbers (fields_after part before xs))
    fields_after_are before h [] below = h
    fields_after_are before h (x ∷ xs) below = fields_after_are (with_field part before x) (field_are before x h below.0) xs below.1

    fields_are : (xs : List Field) → FieldsBelow n xs → AreOf (fields_trees (fields_of part xs)) (fields_numbers (fields_of part xs))
    unfolding fields_of
    fields_are xs below = fields_after_are no_field nothing xs below

    -- a node in front of its parts
    one : {t : Tree} {ts : List Tree} {ns : List ℕ} → t ≡ part n → AreOf ts ns → AreOf (t ∷ ts) (n ∷ ns)
    one {ts = ts} same h = record { are = ap (λ (u : Tree). u ∷ ts) same ∙ ap (λ (us : List Tree). part n ∷ us) h.are }

    node_are : (l : ℕ) (x : Node) → PartsBelow n x → node_tree part n l x ≡ part n → AreOf (trees_in (node_tree part n l x)) (numbers_in (node_tree part n l x))
    node_are l (node.Block stats) p e = one e (list_are stats p)
    node_are l (node.Local names exps) p e = one e (list_are exps p)
    node_are l (node.Assign targets exps) p e = one e (two (list_are targets p.0) (list_are exps p.1))
    node_are l (node.CallStat call) p e = one e (parts call p)
    node_are l (node.Do block) p e = one e (parts block p)
    node_are l (node.While test block) p e = one e (two (parts test p.0) (parts block p.1))
    node_are l (node.Repeat block test) p e = one e (two (parts block p.0) (parts test p.1))
    node_are l (node.If tests blocks otherwise) p e = one e (two (cases_are tests blocks p.0 p.1) (maybe_are otherwise p.2))
    node_are l (node.NumFor name first limit step block) p e = one e (two (two (two (parts first p.0) (parts limit p.1)) (maybe_are step p.2)) (parts block p.3))
    node_are l (node.GenFor names exps block) p e = one e (two (list_are exps p.0) (parts block p.1))
    node_are l (node.LocalFunction name function) p e = one e (parts function p)
    node_are l (node.Return exps) p e = one e (list_are exps p)
    node_are l node.Break p e = one e nothing
    node_are l (node.Goto label) p e = one e nothing
    node_are l (node.Label label) p e = one e nothing
    node_are l (node.Const value) p e = one e nothing
    node_are l node.Vararg p e = one e nothing
    node_are l (node.Function params vararg block) p e = one e (parts block p)
    node_are l (node.Name text) p e = one e nothing
    node_are l (node.Index object key) p e = one e (two (parts object p.0) (parts key p.1))
    node_are l (node.Call function args) p e = one e (two (parts function p.0) (list_are args p.1))
    node_are l (node.Method object name args) p e = one e (two (parts object p.0) (list_are args p.1))
    node_are l (node.Binary op left right) p e = one e (two (parts left p.0) (parts right p.1))
    node_are l (node.Logic op left right) p e = one e (two (parts left p.0) (parts right p.1))
    node_are l (node.Unary op operand) p e = one e (parts operand p)
    node_are l (node.Paren inner) p e = one e (parts inner p)
    node_are l (node.Table fields) p e = one e (fields_are fields p)

-- ---- all nodes of a chunk

missing_are : (part : ℕ → Tree) (t : Tree) → t ≡ Missing → AreOf part (trees_in t) (numbers_in t)
missing_are part t e = subst (λ (u : Tree). AreOf part (trees_in u) (numbers_in u)) (sym e) (nothing part)

no_node : (nodes : List LinedNode) (i : ℕ) → slice_get nodes i ≡ None → length nodes ≤ i
no_node [] i e = omega arith
no_node (n ∷ nodes) zero e = absurd cc
no_node (n ∷ nodes) (suc i) e = let less : length nodes ≤ i = no_node nodes i e in omega arith

node_there : (nodes : List LinedNode) → Ordered nodes → (i : ℕ)
    → ((j : ℕ) → j < i → AreOf (tree own_number nodes) (trees_in (tree own_number nodes j)) (numbers_in (tree own_number nodes j)))
    → (o : Option LinedNode) → slice_get nodes i ≡ o → AreOf (tree own_number nodes) (trees_in (tree own_number nodes i)) (numbers_in (tree own_number nodes i))
node_there nodes ok i parts None e = missing_are (tree own_number nodes) (tree own_number nodes i) (tree_past own_number nodes i (no_node nodes i e))
node_there nodes ok i parts (Some n) e =
    let same : tree own_number nodes i ≡ node_tree (tree own_number nodes) i n.line n.node = tree_node own_number nodes ok i n e in
    subst (λ (u : Tree). AreOf (tree own_number nodes) (trees_in u) (numbers_in u)) (sym same)
    (node_are (tree own_number nodes) i parts n.line n.node (ok.parts i n e) (sym same))

nodes_are : (nodes : List LinedNode) → Ordered nodes → (bound i : ℕ) → i < bound → AreOf (tree own_number nodes) (trees_in (tree own_number nodes i)) (numbers_in (tree own_number nodes i))
nodes_are nodes ok zero i less = absurd (omega arith)
nodes_are nodes ok (suc bound) i less = node_there nodes ok i (λ j l. nodes_are nodes ok bound j (omega arith)) (slice_get nodes i) refl

-- ---- two chunks with one tree

first_same : (x y : Tree) (xs ys : List Tree) → (x ∷ xs) ≡ (y ∷ ys) → x ≡ y
first_same x y xs ys e = cc

rest_same : (x y : Tree) (xs ys : List Tree) → (x ∷ xs) ≡ (y ∷ ys) → xs ≡ ys
rest_same x y xs ys e = cc

alike_step : (f g : ℕ → Tree) (n : ℕ) (ns : List ℕ) (k : ℕ) (b : Bool) → (n == k) ≡ b → f n ≡ g n → (list_any (λ j. j == k) ns ≡ true → f k ≡ g k)
    → list_any (λ j. j == k) (n ∷ ns) ≡ true → f k ≡ g k
alike_step f g n ns k true is first later h = elim (eqb_tells n k) [
  | inl same ↦ subst (λ (j : ℕ). f j ≡ g j) same.1 first
  | inr apart ↦ absurd (let no : false ≡ true = sym apart.0 ∙ is in cc)
]
alike_step f g n ns k false is first later h = later (sym (ap (λ (c : Bool). c || list_any (λ j. j == k) ns) is) ∙ h)

alike_at : (f g : ℕ → Tree) (ns : List ℕ) → map f ns ≡ map g ns → (k : ℕ) → list_any (λ j. j == k) ns ≡ true → f k ≡ g k
alike_at f g [] e k h = absurd (let no : false ≡ true = h in cc)
alike_at f g (n ∷ ns) e k h =
    alike_step f g n ns k (n == k) refl (first_same (f n) (g n) (map f ns) (map g ns) e)
    (λ later. alike_at f g ns (rest_same (f n) (g n) (map f ns) (map g ns) e) k later) h

-- a number that is counted once is there, and one that isn't has no node
first_or_later : (i x : ℕ) (xs : List ℕ) (b : Bool) → (x == i) ≡ b → hits i (x ∷ xs) ≡ 1 → (hits i xs ≡ 1 → list_any (λ j. j == i) xs ≡ true) → list_any (λ j. j == i) (x ∷ xs) ≡ true
first_or_later i x xs true is e later = ap (λ (b : Bool). b || list_any (λ j. j == i) xs) is
first_or_later i x xs false is e later =
    let rest : hits i xs ≡ 1 = omega (arith, ap (λ (b : Bool). cond b 1 0 + hits i xs) (sym is) ∙ e) in
    ap (λ (b : Bool). b || list_any (λ j. j == i) xs) is ∙ later rest

counted : (i : ℕ) (xs : List ℕ) → hits i xs ≡ 1 → list_any (λ j. j == i) xs ≡ true
counted i [] e = absurd (omega (arith, e))
counted i (x ∷ xs) e = first_or_later i x xs (x == i) refl e (counted i xs)

not_less : (a b : ℕ) → nat_lt a b ≡ false → b ≤ a
not_less a b e = grind (arith, nat_tests)

abbrev pub one_if : Bool → ℕ
one_if b = cond b 1 0

cond_zero : (b : Bool) → one_if b ≡ 0 → b ≡ false
cond_zero true e = absurd (omega (arith, e))
cond_zero false e = refl

module _ (c d : ChunkNodes) (ordered : Ordered c.nodes) (also : Ordered d.nodes) (once : IsEachOnce c) (as_well : IsEachOnce d) (same : tree own_number c.nodes c.root ≡ tree own_number d.nodes d.root) where
  all_alike : map (tree own_number c.nodes) (numbers_in (tree own_number c.nodes c.root)) ≡ map (tree own_number d.nodes) (numbers_in (tree own_number c.nodes c.root))
  all_alike =
      let left : AreOf (tree own_number c.nodes) (trees_in (tree own_number c.nodes c.root)) (numbers_in (tree own_number c.nodes c.root)) = nodes_are c.nodes ordered (suc c.root) c.root (omega arith) in
      let right : AreOf (tree own_number d.nodes) (trees_in (tree own_number d.nodes d.root)) (numbers_in (tree own_number d.nodes d.root)) = nodes_are d.nodes also (suc d.root) d.root (omega arith) in
      let moved : AreOf (tree own_number d.nodes) (trees_in (tree own_number c.nodes c.root)) (numbers_in (tree own_number c.nodes c.root)) =
      subst (λ (u : Tree). AreOf (tree own_number d.nodes) (trees_in u) (numbers_in u)) (sym same) right in
      sym left.are ∙ moved.are

  by_count : (i : ℕ) (b : Bool) → nat_lt i (length c.nodes) ≡ b → tree own_number c.nodes i ≡ tree own_number d.nodes i
  by_count i true is = alike_at (tree own_number c.nodes) (tree own_number d.nodes) (numbers_in (tree own_number c.nodes c.root)) all_alike i
      (counted i (numbers_in (tree own_number c.nodes c.root)) (hits_count i (numbers_in (tree own_number c.nodes c.root)) ∙ (once i ∙ ap (λ (b : Bool). cond b 1 0) is)))
  by_count i false is =
      let none_here : count_by (λ j. j == i) (numbers_in (tree own_number c.nodes c.root)) ≡ 0 = once i ∙ ap (λ (b : Bool). cond b 1 0) is in
      let none_there : one_if (nat_lt i (length d.nodes)) ≡ 0 = sym (as_well i) ∙ (ap (λ (u : Tree). count_by (λ j. j == i) (numbers_in u)) (sym same) ∙ none_here) in
      tree_past own_number c.nodes i (not_less i (length c.nodes) is)
      ∙ sym (tree_past own_number d.nodes i (not_less i (length d.nodes) (cond_zero (nat_lt i (length d.nodes)) none_there)))

  pub same_trees : (i : ℕ) → tree own_number c.nodes i ≡ tree own_number d.nodes i
  same_trees i = by_count i (nat_lt i (length c.nodes)) refl
