-- The walk through a text meets what each of its nodes has of its own.
use Rattle.std.specs.Prelude.{◌≡◌, ℕ, zero, suc, ◌<◌, ◌==◌, Bool, true, false, List, [], ◌∷◌, ◌++◌, length, Option, Some, None, option_map, slice_get, refl}
use Rattle.std.specs.List.{list_any}
use Rattle.std.proofs.Common.{ap, ◌∙◌, sym, subst, arith, inl, inr}
use Rattle.std.proofs.lemmas.Bool.{or_cases}
use Rattle.std.proofs.lemmas.Bool.Decides.{eqb_tells}
use Rattle.std.proofs.lemmas.List.Folds.{list_any-append}
use Rattle.lua_ast.specs.declared.node.Node.{Node}
use Rattle.lua_ast.specs.declared.node.Node.TheVariants as node
use Rattle.lua_ast.specs.declared.node.Field.{Field}
use Rattle.lua_ast.specs.declared.node.Field.TheVariants as field
use Rattle.lua_ast.specs.declared.node.LinedNode.{LinedNode}
use Rattle.lua_ast.specs.Tree.{Tree, Missing, Trees, none, snoc, Cases, no_case, case, Maybe, Fields, no_field}
use Rattle.lua_ast.specs.Decode.{ChunkNodes, node_at, list_after, list_of, cases_after, cases_of, with_field, fields_after, fields_of, maybe_of, node_tree, tree_at, tree_to, tree, own_number, AllBelow, MaybeBelow, FieldBelow, FieldsBelow, PartsBelow, Ordered}
use Rattle.lua_ast.specs.Once.{numbers_in, list_numbers, cases_numbers, maybe_numbers, fields_numbers}
use Rattle.lua_ast.proofs.Decoding.{tree_node}
use Rattle.lua_scope.specs.declared.occurrence.Occurrence.{Occurrence}
use Rattle.lua_scope.specs.declared.occurrence.Occurrence.TheVariants as occurrence
use Rattle.lua_scope.specs.declared.occurrence.ScopeKind.TheVariants as kind
use Rattle.lua_scope.specs.Walk.{opens, walked, list_walked, stats_walked, body_walked, cases_walked, maybe_walked, fields_walked}
use Rattle.lua_scope.specs.OfChunk.{occurrences_of}
use Rattle.lua_scope.specs.Meets.{Meets, occurrence_at}
use Rattle.lua_scope.proofs.Bodies.{IsBlock, HasBlocks, HaveBlocks, CasesHaveBlocks, MaybeHasBlocks, FieldsHaveBlocks}
use Rattle.lua_scope.proofs.StaysMet.{Met, met_now, later, met_statement, stays, stays_list, stays_maybe}

-- ---- the occurrence e is that of the node i

module _ (i : ℕ) (e : Occurrence) where
  -- i stands among these numbers
  record Among (xs : List ℕ) : Type 0 where
    found : list_any (λ j. j == i) xs ≡ true

  either : {A : Type 0} (xs ys : List ℕ) → Among (xs ++ ys) → (Among xs → A) → (Among ys → A) → A
  either xs ys a f g = elim (or_cases (list_any (λ j. j == i) xs) (list_any (λ j. j == i) ys) (sym (list_any-append (λ j. j == i) xs ys) ∙ a.found)) [
    | inl here ↦ f (record { found = here })
    | inr there ↦ g (record { found = there })
  ]

  nowhere : {A : Type 0} → Among [] → A
  nowhere a = absurd (let no : false ≡ true = a.found in cc)

  -- The walk through a tree that has i meets e. The body of a repeat is walked through in its own way.
  record Finds (t : Tree) : Type 0 where
    whole : HasBlocks t → Among (numbers_in t) → (h : List Occurrence) → Met e (walked h t)
    body : IsBlock t → HasBlocks t → Among (numbers_in t) → (repeats : Bool) (h : List Occurrence) → Met e (body_walked repeats h t)

  record ListFinds (ts : Trees) : Type 0 where
    list : HaveBlocks ts → Among (list_numbers ts) → (h : List Occurrence) → Met e (list_walked h ts)
    stats : HaveBlocks ts → Among (list_numbers ts) → (h : List Occurrence) → Met e (stats_walked h ts)

  record CasesFind (cs : Cases) : Type 0 where
    cases : CasesHaveBlocks cs → Among (cases_numbers cs) → (h : List Occurrence) → Met e (cases_walked h cs)

  record MaybeFinds (o : Maybe) : Type 0 where
    maybe : MaybeHasBlocks o → Among (maybe_numbers o) → (h : List Occurrence) → Met e (maybe_walked h o)

  record FieldsFind (fs : Fields) : Type 0 where
    fields : FieldsHaveBlocks fs → Among (fields_numbers fs) → (h : List Occurrence) → Met e (fields_walked h fs)

  missing_finds : Finds Missing
  missing_finds = record { whole = λ blocks a h. nowhere a; body = λ is blocks a repeats h. absurd is }

  -- ---- lists of parts

  module _ (part : ℕ → Tree) (n : ℕ) (parts : (j : ℕ) → j < n → Finds (part j)) where
    snoc_finds : (ts : Trees) (t : Tree) → ListFinds ts → Finds t → ListFinds (snoc ts t)
    unfolding walked
    snoc_finds ts t before last = record {
      list = λ blocks a h. either (list_numbers ts) (numbers_in t) a (λ b. stays t (before.list blocks.0 b h)) (λ b. last.whole blocks.1 b (list_walked h ts));
      stats = λ blocks a h. either (list_numbers ts) (numbers_in t) a
          (λ b. met_statement h t ts (stays t (before.stats blocks.0 b h)))
          (λ b. met_statement h t ts (last.whole blocks.1 b (stats_walked h ts)));
    }

    list_after_finds : (before : Trees) → ListFinds before → (is : List ℕ) → AllBelow n is → ListFinds (list_after part before is)
    list_after_finds before finds [] below = finds
    list_after_finds before finds (j ∷ js) below = list_after_finds (snoc before (part j)) (snoc_finds before (part j) finds (parts j below.0)) js below.1

    list_finds : (is : List ℕ) → AllBelow n is → ListFinds (list_of part is)
    unfolding list_of
    list_finds is below = list_after_finds none (record { list = λ blocks a h. nowhere a; stats = λ blocks a h. nowhere a }) is below

    case_finds : (cs : Cases) (test block : Tree) → CasesFind cs → Finds test → Finds block → CasesFind (case cs test block)
    unfolding walked
    case_finds cs test block before t b = record {
      cases = λ blocks a h. either (cases_numbers cs ++ numbers_in test) (numbers_in block) a
          (λ a. either (cases_numbers cs) (numbers_in test) a (λ a. stays block (stays test (before.cases blocks.0 a h))) (λ a. stays block (t.whole blocks.1 a (cases_walked h cs))))
          (λ a. b.whole blocks.2 a (walked (cases_walked h cs) test));
    }

    cases_after_find : (before : Cases) → CasesFind before → (ts bs : List ℕ) → AllBelow n ts → AllBelow n bs → CasesFind (cases_after part before ts bs)
    cases_after_find before finds [] bs p q = finds
    cases_after_find before finds (t ∷ ts) [] p q = finds
    cases_after_find before finds (t ∷ ts) (b ∷ bs) p q =
        cases_after_find (case before (part t) (part b)) (case_finds before (part t) (part b) finds (parts t p.0) (parts b q.0)) ts bs p.1 q.1

    cases_find : (ts bs : List ℕ) → AllBelow n ts → AllBelow n bs → CasesFind (cases_of part ts bs)
    unfolding cases_of
    cases_find ts bs p q = cases_after_find no_case (record { cases = λ blocks a h. nowhere a }) ts bs p q

    maybe_finds : (o : Option ℕ) → MaybeBelow n o → MaybeFinds (maybe_of part o)
    unfolding walked
    maybe_finds None below = record { maybe = λ blocks a h. nowhere a }
    maybe_finds (Some j) below = record { maybe = λ blocks a h. (parts j below).whole blocks a h }

    field_finds : (before : Fields) (x : Field) → FieldsFind before → FieldBelow n x → FieldsFind (with_field part before x)
    unfolding walked
    field_finds before (field.Item value) finds below = record {
      fields = λ blocks a h. either (fields_numbers before) (numbers_in (part value)) a (λ a. stays (part value) (finds.fields blocks.0 a h)) (λ a. (parts value below).whole blocks.1 a (fields_walked h before));
    }
    field_finds before (field.Named name value) finds below = record {
      fields = λ blocks a h. either (fields_numbers before) (numbers_in (part value)) a (λ a. stays (part value) (finds.fields blocks.0 a h)) (λ a. (parts value below).whole blocks.1 a (fields_walked h before));
    }
    field_finds before (field.Keyed key value) finds below = record {
      fields = λ blocks a h. either (fields_numbers before ++ numbers_in (part key)) (numbers_in (part value)) a
          (λ a. either (fields_numbers before) (numbers_in (part key)) a (λ a. stays (part value) (stays (part key) (finds.fields blocks.0 a h))) (λ a. stays (part value) ((parts key below.0).whole blocks.1 a (fields_walked h before))))
          (λ a. (parts value below.1).whole blocks.2 a (walked (fields_walked h before) (part key)));
    }

    fields_after_find : (before : Fields) → FieldsFind before → (xs : List Field) → FieldsBelow n xs → FieldsFind (fields_after part before xs)
    fields_after_find before finds [] below = finds
    fields_after_find before finds (x ∷ xs) below = fields_after_find (with_field part before x) (field_finds before x finds below.0) xs below.1

    fields_find : (xs : List Field) → FieldsBelow n xs → FieldsFind (fields_of part xs)
    unfolding fields_of
    fields_find xs below = fields_after_find no_field (record { fields = λ blocks a h. nowhere a }) xs below

    -- ---- a node, by its parts; n is its own number

    abbrev HasOccurrence : Node → Type 0
    HasOccurrence x = (n == i) ≡ true → occurrence_at n x ≡ Some e

    first_or : {A : Type 0} (xs : List ℕ) → Among (n ∷ xs) → ((n == i) ≡ true → A) → (Among xs → A) → A
    first_or xs a f g = elim (or_cases (n == i) (list_any (λ j. j == i) xs) a.found) [ inl here ↦ f here | inr there ↦ g (record { found = there }) ]

    -- a node that has no occurrence of its own
    behind : (xs : List ℕ) → ((n == i) ≡ true → None ≡ Some e) → Among (n ∷ xs) → Among xs
    behind xs tells a = first_or xs a (λ same. let no : None ≡ Some e = tells same in absurd cc) (λ there. there)

    node_whole : (l : ℕ) (x : Node) → PartsBelow n x → HasOccurrence x → HasBlocks (node_tree part n l x) → Among (numbers_in (node_tree part n l x)) → (h : List Occurrence) → Met e (walked h (node_tree part n l x))
    unfolding walked
    node_whole l (node.Block stats) p tells blocks a h = later ((list_finds stats p).stats blocks (behind _ tells a) (opens false (list_of part stats) ∷ h))
    node_whole l (node.Local names exps) p tells blocks a h = first_or _ a
        (λ same. later (stays_list (list_of part exps) (met_now (occurrence.Declare n (length names)) (tells same))))
        (λ a. later ((list_finds exps p).list blocks a (occurrence.Declare n (length names) ∷ h)))
    node_whole l (node.Assign targets exps) p tells blocks a h = either (list_numbers (list_of part targets)) (list_numbers (list_of part exps)) (behind _ tells a)
        (λ a. stays_list (list_of part exps) ((list_finds targets p.0).list blocks.0 a h))
        (λ a. (list_finds exps p.1).list blocks.1 a (list_walked h (list_of part targets)))
    node_whole l (node.CallStat call) p tells blocks a h = (parts call p).whole blocks (behind _ tells a) h
    node_whole l (node.Do block) p tells blocks a h = (parts block p).whole blocks (behind _ tells a) h
    node_whole l (node.While test block) p tells blocks a h = either (numbers_in (part test)) (numbers_in (part block)) (behind _ tells a)
        (λ a. later (stays (part block) (later ((parts test p.0).whole blocks.0 a h))))
        (λ a. later ((parts block p.1).whole blocks.1 a (occurrence.Open kind.Loop ∷ walked h (part test))))
    node_whole l (node.Repeat block test) p tells blocks a h = either (numbers_in (part block)) (numbers_in (part test)) (behind _ tells a)
        (λ a. later (later (stays (part test) ((parts block p.0).body blocks.0 blocks.1 a true (occurrence.Open kind.Loop ∷ h)))))
        (λ a. later (later ((parts test p.1).whole blocks.2 a (body_walked true (occurrence.Open kind.Loop ∷ h) (part block)))))
    node_whole l (node.If tests blocks otherwise) p tells has a h = either (cases_numbers (cases_of part tests blocks)) (maybe_numbers (maybe_of part otherwise)) (behind _ tells a)
        (λ a. stays_maybe (maybe_of part otherwise) ((cases_find tests blocks p.0 p.1).cases has.0 a h))
        (λ a. (maybe_finds otherwise p.2).maybe has.1 a (cases_walked h (cases_of part tests blocks)))
    node_whole l (node.NumFor name first limit step block) p tells blocks a h =
        let declared : List Occurrence = occurrence.Declare n 1 ∷ h in
        let begun : List Occurrence = maybe_walked (walked (walked declared (part first)) (part limit)) (maybe_of part step) in
        let on : Met e begun → Met e (occurrence.Close ∷ walked (occurrence.Enter n (name ∷ []) ∷ occurrence.Open kind.Loop ∷ begun) (part block)) = λ m. later (stays (part block) (later (later m))) in
        first_or _ a
        (λ same. on (stays_maybe (maybe_of part step) (stays (part limit) (stays (part first) (met_now (occurrence.Declare n 1) (tells same))))))
        (λ a. either (numbers_in (part first) ++ numbers_in (part limit) ++ maybe_numbers (maybe_of part step)) (numbers_in (part block)) a
        (λ a. either (numbers_in (part first) ++ numbers_in (part limit)) (maybe_numbers (maybe_of part step)) a
        (λ a. either (numbers_in (part first)) (numbers_in (part limit)) a
        (λ a. on (stays_maybe (maybe_of part step) (stays (part limit) ((parts first p.0).whole blocks.0 a declared))))
        (λ a. on (stays_maybe (maybe_of part step) ((parts limit p.1).whole blocks.1 a (walked declared (part first))))))
        (λ a. on ((maybe_finds step p.2).maybe blocks.2 a (walked (walked declared (part first)) (part limit)))))
        (λ a. later ((parts block p.3).whole blocks.3 a (occurrence.Enter n (name ∷ []) ∷ occurrence.Open kind.Loop ∷ begun))))
    node_whole l (node.GenFor names exps block) p tells blocks a h =
        let declared : List Occurrence = occurrence.Declare n (length names) ∷ h in
        let begun : List Occurrence = list_walked declared (list_of part exps) in
        first_or _ a
        (λ same. later (stays (part block) (later (later (stays_list (list_of part exps) (met_now (occurrence.Declare n (length names)) (tells same)))))))
        (λ a. either (list_numbers (list_of part exps)) (numbers_in (part block)) a
        (λ a. later (stays (part block) (later (later ((list_finds exps p.0).list blocks.0 a declared)))))
        (λ a. later ((parts block p.1).whole blocks.1 a (occurrence.Enter n names ∷ occurrence.Open kind.Loop ∷ begun))))
    node_whole l (node.LocalFunction name function) p tells blocks a h = first_or _ a
        (λ same. stays (part function) (later (met_now (occurrence.Declare n 1) (tells same))))
        (λ a. (parts function p).whole blocks a (occurrence.Enter n (name ∷ []) ∷ occurrence.Declare n 1 ∷ h))
    node_whole l (node.Return exps) p tells blocks a h = (list_finds exps p).list blocks (behind _ tells a) h
    node_whole l node.Break p tells blocks a h = nowhere (behind _ tells a)
    node_whole l (node.Goto label) p tells blocks a h = nowhere (behind _ tells a)
    node_whole l (node.Label label) p tells blocks a h = nowhere (behind _ tells a)
    node_whole l (node.Const value) p tells blocks a h = nowhere (behind _ tells a)
    node_whole l node.Vararg p tells blocks a h = nowhere (behind _ tells a)
    node_whole l (node.Function params vararg block) p tells blocks a h = first_or _ a
        (λ same. later (stays (part block) (later (met_now (occurrence.Declare n (length params)) (tells same)))))
        (λ a. later ((parts block p).whole blocks a (occurrence.Enter n params ∷ occurrence.Declare n (length params) ∷ occurrence.Open (kind.Function n vararg) ∷ h)))
    node_whole l (node.Name text) p tells blocks a h = first_or _ a (λ same. met_now (occurrence.Use n text) (tells same)) (λ a. nowhere a)
    node_whole l (node.Index object key) p tells blocks a h = either (numbers_in (part object)) (numbers_in (part key)) (behind _ tells a)
        (λ a. stays (part key) ((parts object p.0).whole blocks.0 a h))
        (λ a. (parts key p.1).whole blocks.1 a (walked h (part object)))
    node_whole l (node.Call function args) p tells blocks a h = either (numbers_in (part function)) (list_numbers (list_of part args)) (behind _ tells a)
        (λ a. stays_list (list_of part args) ((parts function p.0).whole blocks.0 a h))
        (λ a. (list_finds args p.1).list blocks.1 a (walked h (part function)))
    node_whole l (node.Method object name args) p tells blocks a h = either (numbers_in (part object)) (list_numbers (list_of part args)) (behind _ tells a)
        (λ a. stays_list (list_of part args) ((parts object p.0).whole blocks.0 a h))
        (λ a. (list_finds args p.1).list blocks.1 a (walked h (part object)))
    node_whole l (node.Binary op left right) p tells blocks a h = either (numbers_in (part left)) (numbers_in (part right)) (behind _ tells a)
        (λ a. stays (part right) ((parts left p.0).whole blocks.0 a h))
        (λ a. (parts right p.1).whole blocks.1 a (walked h (part left)))
    node_whole l (node.Logic op left right) p tells blocks a h = either (numbers_in (part left)) (numbers_in (part right)) (behind _ tells a)
        (λ a. stays (part right) ((parts left p.0).whole blocks.0 a h))
        (λ a. (parts right p.1).whole blocks.1 a (walked h (part left)))
    node_whole l (node.Unary op operand) p tells blocks a h = (parts operand p).whole blocks (behind _ tells a) h
    node_whole l (node.Paren inner) p tells blocks a h = (parts inner p).whole blocks (behind _ tells a) h
    node_whole l (node.Table fields) p tells blocks a h = (fields_find fields p).fields blocks (behind _ tells a) h

    node_body : (l : ℕ) (x : Node) → PartsBelow n x → HasOccurrence x → IsBlock (node_tree part n l x) → HasBlocks (node_tree part n l x) → Among (numbers_in (node_tree part n l x)) → (repeats : Bool) (h : List Occurrence) → Met e (body_walked repeats h (node_tree part n l x))
    unfolding walked
    node_body l (node.Block stats) p tells is blocks a repeats h = (list_finds stats p).stats blocks (behind _ tells a) (opens repeats (list_of part stats) ∷ h)
    node_body l x p tells is blocks a repeats h = absurd is

    node_finds : (l : ℕ) (x : Node) → PartsBelow n x → HasOccurrence x → Finds (node_tree part n l x)
    node_finds l x p tells = record { whole = node_whole l x p tells; body = node_body l x p tells }

-- ---- all nodes of a chunk, by their places

module _ (i : ℕ) (e : Occurrence) (nodes : List LinedNode) (ok : Ordered nodes) (here : (x : LinedNode) → slice_get nodes i ≡ Some x → occurrence_at i x.node ≡ Some e) where
  tells_there : (r : ℕ) (x : LinedNode) → slice_get nodes r ≡ Some x → (r == i) ≡ true → occurrence_at r x.node ≡ Some e
  tells_there r x is same = elim (eqb_tells r i) [
    | inl t ↦ subst (λ (k : ℕ). occurrence_at k x.node ≡ Some e) (sym t.1) (here x (ap (slice_get nodes) (sym t.1) ∙ is))
    | inr f ↦ absurd (let no : false ≡ true = sym f.0 ∙ same in cc)
  ]

  by_node : (r : ℕ) (o : Option LinedNode) → slice_get nodes r ≡ o → ((j : ℕ) → j < r → Finds i e (tree own_number nodes j)) → Finds i e (tree own_number nodes r)
  unfolding tree
  by_node r None is parts = subst (Finds i e) (sym (ap (tree_at (tree_to own_number nodes r) r) is)) (missing_finds i e)
  by_node r (Some x) is parts = subst (Finds i e) (sym (tree_node own_number nodes ok r x is))
      (node_finds i e (tree own_number nodes) r parts x.line x.node (ok.parts r x is) (tells_there r x is))

  tree_finds : (m r : ℕ) → r < m → Finds i e (tree own_number nodes r)
  tree_finds zero r below = absurd (omega arith)
  tree_finds (suc m) r below = by_node r (slice_get nodes r) refl (λ j before. tree_finds m j (omega arith))

node_is : (o : Option LinedNode) (x : LinedNode) (n : Node) → o ≡ Some x → option_map (λ m. m.node) o ≡ Some n → x.node ≡ n
node_is o x n is at = let there : Some x.node ≡ Some n = ap (λ (k : Option LinedNode). option_map (λ m. m.node) k) (sym is) ∙ at in cc

pub node_met : (c : ChunkNodes) → Ordered c.nodes → HasBlocks (tree own_number c.nodes c.root) → (i : ℕ) (n : Node) (e : Occurrence) → list_any (λ j. j == i) (numbers_in (tree own_number c.nodes c.root)) ≡ true → node_at c.nodes i ≡ Some n → occurrence_at i n ≡ Some e → (before : List Occurrence) × Meets (occurrences_of c) before e
node_met c ok blocks i n e among at told =
    let here : (x : LinedNode) → slice_get c.nodes i ≡ Some x → occurrence_at i x.node ≡ Some e = λ x is. ap (occurrence_at i) (node_is (slice_get c.nodes i) x n is at) ∙ told in
    let finds : Finds i e (tree own_number c.nodes c.root) = tree_finds i e c.nodes ok here (suc c.root) c.root (omega arith) in
    let met : Met e (walked [] (tree own_number c.nodes c.root)) = finds.whole blocks (record { found = among }) [] in
    (met.before, met.meets)
