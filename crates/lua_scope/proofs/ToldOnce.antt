-- What a walk through a text tells of is in its tree, so no node is told of twice where each node stands once.
use Rattle.std.specs.Prelude.{◌≡◌, ℕ, ◌+◌, ◌≤◌, ◌==◌, nat_lt, cond, Bool, true, false, List, [], ◌∷◌, ◌++◌, length, Option, Some, None, if◌then◌else◌, refl}
use Rattle.std.specs.List.{AllByRecursion, IsDistinct, count_by, cons_option}
use Rattle.std.proofs.Common.{ap, subst, arith, inl, inr}
use Rattle.std.proofs.lemmas.Bool.Decides.{eqb_tells}
use Rattle.std.proofs.lemmas.List.Recursion.{is_sum_by}
use Rattle.std.proofs.lemmas.Map.Keys.{IsDistinct-from_apart, IsDistinct-cons}
use Rattle.lua_ast.specs.Tree.{Tree, Block, Local, Assign, CallStat, Do, While, Repeat, If, NumFor, GenFor, LocalFunction, Return, Break, Goto, Label, Const, Vararg, Function, Name, Index, Call, Method, Binary, Logic, Unary, Paren, Table, Missing, Trees, none, snoc, Cases, no_case, case, Maybe, absent, present, Fields, no_field, item, named, keyed}
use Rattle.lua_ast.specs.Decode.{ChunkNodes, tree, own_number}
use Rattle.lua_ast.specs.Once.{numbers_in, list_numbers, cases_numbers, maybe_numbers, fields_numbers, IsEachOnce}
use Rattle.lua_scope.specs.declared.occurrence.Occurrence.{Occurrence}
use Rattle.lua_scope.specs.declared.occurrence.Occurrence.TheVariants as occurrence
use Rattle.lua_scope.specs.declared.occurrence.ScopeKind.TheVariants as kind
use Rattle.lua_scope.specs.Labels.{has_label}
use Rattle.lua_scope.specs.Walk.{opens, label_in, walked, list_walked, stats_walked, body_walked, cases_walked, maybe_walked, fields_walked}
use Rattle.lua_scope.specs.OfChunk.{occurrences_of}
use Rattle.lua_scope.proofs.TellsOnce.{node_of, nodes_of, same_number, same_itself, TellsOnce}

-- ---- how often a number stands in a list

abbrev pub hit : ℕ → ℕ → ℕ
hit i j = cond (j == i) 1 0

-- `count_by`, but it computes at a list's first number
abbrev pub hits : ℕ → List ℕ → ℕ
hits i [] = 0
hits i (j ∷ js) = hit i j + hits i js

pub hits_count : (i : ℕ) (xs : List ℕ) → hits i xs ≡ count_by (λ j. j == i) xs
hits_count i xs = is_sum_by (hits i) (hit i) refl (λ j js. refl) xs

hits_append : (i : ℕ) (xs ys : List ℕ) → hits i (xs ++ ys) ≡ hits i xs + hits i ys
hits_append i [] ys = omega arith
hits_append i (x ∷ xs) ys = omega (arith, hits_append i xs ys)

hit_itself : (i : ℕ) → hit i i ≡ 1
hit_itself i = ap (λ (b : Bool). cond b 1 0) (same_itself i)

apart : (i : ℕ) (xs : List ℕ) → hits i xs ≤ 0 → AllByRecursion (λ j. (i == j) ≡ false) xs
apart i [] h = tt
apart i (j ∷ js) h = (differs, apart i js (omega arith))
  where
    differs : (i == j) ≡ false
    differs = elim (eqb_tells i j) [
      | inl e ↦ let itself : hit i j ≡ 1 = subst (λ (k : ℕ). hit i k ≡ 1) e.1 (hit_itself i) in absurd (omega arith)
      | inr e ↦ e.0
    ]

distinct : (xs : List ℕ) → ((i : ℕ) → hits i xs ≤ 1) → IsDistinct same_number xs
distinct [] h = IsDistinct-from_apart same_number [] (λ i j d before below. absurd (omega arith))
distinct (x ∷ xs) h =
    IsDistinct-cons same_number x xs (apart x xs (omega (arith, h x, hit_itself x))) (distinct xs (λ i. omega (arith, h i)))

-- ---- what a tree adds to what a walk has seen

-- `after` tells of the node i at most as often as `before` does and as i stands in xs, together
record Adds (i : ℕ) (before : List Occurrence) (xs : List ℕ) (after : List Occurrence) : Type 0 where
  few : hits i (nodes_of after) ≤ hits i (nodes_of before) + hits i xs

tells_one : (i : ℕ) (e : Occurrence) (h : List Occurrence) (n : ℕ) → node_of e ≡ Some n → hits i (nodes_of (e ∷ h)) ≡ hit i n + hits i (nodes_of h)
tells_one i e h n is = ap (λ (o : Option ℕ). hits i (cons_option o (nodes_of h))) is

tells_none : (i : ℕ) (e : Occurrence) (h : List Occurrence) → node_of e ≡ None → hits i (nodes_of (e ∷ h)) ≡ hits i (nodes_of h)
tells_none i e h is = ap (λ (o : Option ℕ). hits i (cons_option o (nodes_of h))) is

nothing : (i : ℕ) (h : List Occurrence) → Adds i h [] h
nothing i h = record { few = omega arith }

-- a node's own number need not be told
own : {i : ℕ} {g h : List Occurrence} {xs : List ℕ} (n : ℕ) → Adds i g xs h → Adds i g (n ∷ xs) h
own {i = i} {xs = xs} n a = record { few = omega (arith, a.few) }

-- an occurrence that tells of no node, last and first
last : {i : ℕ} {g h : List Occurrence} {xs : List ℕ} (e : Occurrence) → node_of e ≡ None → Adds i g xs h → Adds i g xs (e ∷ h)
last {i = i} {h = h} e is a = record { few = omega (arith, a.few, tells_none i e h is) }

first_occurrence : {i : ℕ} {g h : List Occurrence} {xs : List ℕ} (e : Occurrence) → node_of e ≡ None → Adds i (e ∷ g) xs h → Adds i g xs h
first_occurrence {i = i} {g = g} e is a = record { few = omega (arith, a.few, tells_none i e g is) }

-- an occurrence that tells of the node itself comes first
told : {i : ℕ} {g h : List Occurrence} {xs : List ℕ} (n : ℕ) (e : Occurrence) → node_of e ≡ Some n → Adds i (e ∷ g) xs h → Adds i g (n ∷ xs) h
told {i = i} {g = g} {xs = xs} n e is a = record { few = omega (arith, a.few, tells_one i e g n is) }

both : {i : ℕ} {g h k : List Occurrence} {xs ys : List ℕ} → Adds i g xs h → Adds i h ys k → Adds i g (xs ++ ys) k
both {i = i} {xs = xs} {ys = ys} a b = record { few = omega (arith, a.few, b.few, hits_append i xs ys) }

second : (i l : ℕ) (again : Bool) (g h : List Occurrence) (xs : List ℕ) → Adds i g xs h → Adds i g xs (if again then occurrence.SecondLabel l ∷ h else h)
second i l true g h xs a = last (occurrence.SecondLabel l) refl a
second i l false g h xs a = a

-- what is no block is as an empty one
scope_opened : (i : ℕ) (repeats : Bool) (t : Tree) (h : List Occurrence) → Adds i h (numbers_in t) (opens repeats none ∷ h)
scope_opened i repeats t h = record { few = omega (arith, tells_none i (opens repeats none) h refl) }

-- a statement, given what its tree adds
statement : (i : ℕ) (t : Tree) (ts : Trees) (h : List Occurrence) → ((g : List Occurrence) → Adds i g (numbers_in t) (walked g t)) → Adds i h (list_numbers ts) (stats_walked h ts) → Adds i h (list_numbers (snoc ts t)) (stats_walked h (snoc ts t))
unfolding walked
statement i (Block n l stats) ts h whole a = both a (whole (stats_walked h ts))
statement i (Local n l names exps) ts h whole a = both a (whole (stats_walked h ts))
statement i (Assign n l targets exps) ts h whole a = both a (whole (stats_walked h ts))
statement i (CallStat n l call) ts h whole a = both a (whole (stats_walked h ts))
statement i (Do n l block) ts h whole a = both a (whole (stats_walked h ts))
statement i (While n l test block) ts h whole a = both a (whole (stats_walked h ts))
statement i (Repeat n l block test) ts h whole a = both a (whole (stats_walked h ts))
statement i (If n l cases otherwise) ts h whole a = both a (whole (stats_walked h ts))
statement i (NumFor n l name first limit step block) ts h whole a = both a (whole (stats_walked h ts))
statement i (GenFor n l names exps block) ts h whole a = both a (whole (stats_walked h ts))
statement i (LocalFunction n l name function) ts h whole a = both a (whole (stats_walked h ts))
statement i (Return n l exps) ts h whole a = both a (whole (stats_walked h ts))
statement i (Break n l) ts h whole a = both a (whole (stats_walked h ts))
statement i (Goto n l label) ts h whole a = both a (whole (stats_walked h ts))
statement i (Label n l label) ts h whole a = both (second i l (has_label label ts) h (stats_walked h ts) (list_numbers ts) a) (own n (nothing i (label_in l label ts (stats_walked h ts))))
statement i (Const n l value) ts h whole a = both a (whole (stats_walked h ts))
statement i (Vararg n l) ts h whole a = both a (whole (stats_walked h ts))
statement i (Function n l params vararg block) ts h whole a = both a (whole (stats_walked h ts))
statement i (Name n l text) ts h whole a = both a (whole (stats_walked h ts))
statement i (Index n l object key) ts h whole a = both a (whole (stats_walked h ts))
statement i (Call n l function args) ts h whole a = both a (whole (stats_walked h ts))
statement i (Method n l object name args) ts h whole a = both a (whole (stats_walked h ts))
statement i (Binary n l op left right) ts h whole a = both a (whole (stats_walked h ts))
statement i (Logic n l op left right) ts h whole a = both a (whole (stats_walked h ts))
statement i (Unary n l op operand) ts h whole a = both a (whole (stats_walked h ts))
statement i (Paren n l inner) ts h whole a = both a (whole (stats_walked h ts))
statement i (Table n l fields) ts h whole a = both a (whole (stats_walked h ts))
statement i Missing ts h whole a = both a (whole (stats_walked h ts))

mutual
  unfolding walked

  adds : (i : ℕ) (t : Tree) (h : List Occurrence) → Adds i h (numbers_in t) (walked h t)
  adds i (Block n l stats) h = own n (last occurrence.Close refl (first_occurrence (opens false stats) refl (adds_stats i stats (opens false stats ∷ h))))
  adds i (Local n l names exps) h = told n (occurrence.Declare n (length names)) refl (last (occurrence.Enter n names) refl (adds_list i exps (occurrence.Declare n (length names) ∷ h)))
  adds i (Assign n l targets exps) h = own n (both (adds_list i targets h) (adds_list i exps (list_walked h targets)))
  adds i (CallStat n l call) h = own n (adds i call h)
  adds i (Do n l block) h = own n (adds i block h)
  adds i (While n l test block) h = own n (both (adds i test h) (last occurrence.Close refl (first_occurrence (occurrence.Open kind.Loop) refl (adds i block (occurrence.Open kind.Loop ∷ walked h test)))))
  adds i (Repeat n l block test) h = own n (both (first_occurrence (occurrence.Open kind.Loop) refl (adds_body i true block (occurrence.Open kind.Loop ∷ h))) (last occurrence.Close refl (last occurrence.Close refl (adds i test (body_walked true (occurrence.Open kind.Loop ∷ h) block)))))
  adds i (If n l cases otherwise) h = own n (both (adds_cases i cases h) (adds_maybe i otherwise (cases_walked h cases)))
  adds i (NumFor n l name first limit step block) h =
      let a = adds i first (occurrence.Declare n 1 ∷ h) in
      let b = adds i limit (walked (occurrence.Declare n 1 ∷ h) first) in
      let c = adds_maybe i step (walked (walked (occurrence.Declare n 1 ∷ h) first) limit) in
      let d = adds i block (occurrence.Enter n (name ∷ []) ∷ occurrence.Open kind.Loop ∷ maybe_walked (walked (walked (occurrence.Declare n 1 ∷ h) first) limit) step) in
      told n (occurrence.Declare n 1) refl (both (both (both a b) c) (last occurrence.Close refl (first_occurrence (occurrence.Open kind.Loop) refl (first_occurrence (occurrence.Enter n (name ∷ [])) refl d))))
  adds i (GenFor n l names exps block) h =
      let a = adds_list i exps (occurrence.Declare n (length names) ∷ h) in
      let b = adds i block (occurrence.Enter n names ∷ occurrence.Open kind.Loop ∷ list_walked (occurrence.Declare n (length names) ∷ h) exps) in
      told n (occurrence.Declare n (length names)) refl (both a (last occurrence.Close refl (first_occurrence (occurrence.Open kind.Loop) refl (first_occurrence (occurrence.Enter n names) refl b))))
  adds i (LocalFunction n l name function) h = told n (occurrence.Declare n 1) refl (first_occurrence (occurrence.Enter n (name ∷ [])) refl (adds i function (occurrence.Enter n (name ∷ []) ∷ occurrence.Declare n 1 ∷ h)))
  adds i (Return n l exps) h = own n (adds_list i exps h)
  adds i (Break n l) h = own n (last (occurrence.Break l) refl (nothing i h))
  adds i (Goto n l label) h = own n (last (occurrence.Goto l label) refl (nothing i h))
  adds i (Label n l label) h = own n (nothing i h)
  adds i (Const n l value) h = own n (nothing i h)
  adds i (Vararg n l) h = own n (last (occurrence.Vararg l) refl (nothing i h))
  adds i (Function n l params vararg block) h =
      let a = adds i block (occurrence.Enter n params ∷ occurrence.Declare n (length params) ∷ occurrence.Open (kind.Function n vararg) ∷ h) in
      let b = told n (occurrence.Declare n (length params)) refl (first_occurrence (occurrence.Enter n params) refl a) in
      first_occurrence (occurrence.Open (kind.Function n vararg)) refl (last occurrence.Close refl b)
  adds i (Name n l text) h = told n (occurrence.Use n text) refl (nothing i (occurrence.Use n text ∷ h))
  adds i (Index n l object key) h = own n (both (adds i object h) (adds i key (walked h object)))
  adds i (Call n l function args) h = own n (both (adds i function h) (adds_list i args (walked h function)))
  adds i (Method n l object name args) h = own n (both (adds i object h) (adds_list i args (walked h object)))
  adds i (Binary n l op left right) h = own n (both (adds i left h) (adds i right (walked h left)))
  adds i (Logic n l op left right) h = own n (both (adds i left h) (adds i right (walked h left)))
  adds i (Unary n l op operand) h = own n (adds i operand h)
  adds i (Paren n l inner) h = own n (adds i inner h)
  adds i (Table n l fields) h = own n (adds_fields i fields h)
  adds i Missing h = nothing i h

  adds_list : (i : ℕ) (ts : Trees) (h : List Occurrence) → Adds i h (list_numbers ts) (list_walked h ts)
  adds_list i none h = nothing i h
  adds_list i (snoc ts t) h = both (adds_list i ts h) (adds i t (list_walked h ts))

  adds_stats : (i : ℕ) (ts : Trees) (h : List Occurrence) → Adds i h (list_numbers ts) (stats_walked h ts)
  adds_stats i none h = nothing i h
  adds_stats i (snoc ts t) h = statement i t ts h (λ g. adds i t g) (adds_stats i ts h)

  adds_body : (i : ℕ) (repeats : Bool) (t : Tree) (h : List Occurrence) → Adds i h (numbers_in t) (body_walked repeats h t)
  adds_body i repeats (Block n l stats) h = own n (first_occurrence (opens repeats stats) refl (adds_stats i stats (opens repeats stats ∷ h)))
  adds_body i repeats (Local n l names exps) h = scope_opened i repeats (Local n l names exps) h
  adds_body i repeats (Assign n l targets exps) h = scope_opened i repeats (Assign n l targets exps) h
  adds_body i repeats (CallStat n l call) h = scope_opened i repeats (CallStat n l call) h
  adds_body i repeats (Do n l block) h = scope_opened i repeats (Do n l block) h
  adds_body i repeats (While n l test block) h = scope_opened i repeats (While n l test block) h
  adds_body i repeats (Repeat n l block test) h = scope_opened i repeats (Repeat n l block test) h
  adds_body i repeats (If n l cases otherwise) h = scope_opened i repeats (If n l cases otherwise) h
  adds_body i repeats (NumFor n l name first limit step block) h = scope_opened i repeats (NumFor n l name first limit step block) h
  adds_body i repeats (GenFor n l names exps block) h = scope_opened i repeats (GenFor n l names exps block) h
  adds_body i repeats (LocalFunction n l name function) h = scope_opened i repeats (LocalFunction n l name function) h
  adds_body i repeats (Return n l exps) h = scope_opened i repeats (Return n l exps) h
  adds_body i repeats (Break n l) h = scope_opened i repeats (Break n l) h
  adds_body i repeats (Goto n l label) h = scope_opened i repeats (Goto n l label) h
  adds_body i repeats (Label n l label) h = scope_opened i repeats (Label n l label) h
  adds_body i repeats (Const n l value) h = scope_opened i repeats (Const n l value) h
  adds_body i repeats (Vararg n l) h = scope_opened i repeats (Vararg n l) h
  adds_body i repeats (Function n l params vararg block) h = scope_opened i repeats (Function n l params vararg block) h
  adds_body i repeats (Name n l text) h = scope_opened i repeats (Name n l text) h
  adds_body i repeats (Index n l object key) h = scope_opened i repeats (Index n l object key) h
  adds_body i repeats (Call n l function args) h = scope_opened i repeats (Call n l function args) h
  adds_body i repeats (Method n l object name args) h = scope_opened i repeats (Method n l object name args) h
  adds_body i repeats (Binary n l op left right) h = scope_opened i repeats (Binary n l op left right) h
  adds_body i repeats (Logic n l op left right) h = scope_opened i repeats (Logic n l op left right) h
  adds_body i repeats (Unary n l op operand) h = scope_opened i repeats (Unary n l op operand) h
  adds_body i repeats (Paren n l inner) h = scope_opened i repeats (Paren n l inner) h
  adds_body i repeats (Table n l fields) h = scope_opened i repeats (Table n l fields) h
  adds_body i repeats Missing h = scope_opened i repeats Missing h

  adds_cases : (i : ℕ) (cs : Cases) (h : List Occurrence) → Adds i h (cases_numbers cs) (cases_walked h cs)
  adds_cases i no_case h = nothing i h
  adds_cases i (case cs test block) h = both (both (adds_cases i cs h) (adds i test (cases_walked h cs))) (adds i block (walked (cases_walked h cs) test))

  adds_maybe : (i : ℕ) (m : Maybe) (h : List Occurrence) → Adds i h (maybe_numbers m) (maybe_walked h m)
  adds_maybe i absent h = nothing i h
  adds_maybe i (present t) h = adds i t h

  adds_fields : (i : ℕ) (fs : Fields) (h : List Occurrence) → Adds i h (fields_numbers fs) (fields_walked h fs)
  adds_fields i no_field h = nothing i h
  adds_fields i (item fs value) h = both (adds_fields i fs h) (adds i value (fields_walked h fs))
  adds_fields i (named fs name value) h = both (adds_fields i fs h) (adds i value (fields_walked h fs))
  adds_fields i (keyed fs key value) h = both (both (adds_fields i fs h) (adds i key (fields_walked h fs))) (adds i value (walked (fields_walked h fs) key))

at_most_one : (b : Bool) → cond b 1 0 ≤ 1
at_most_one true = omega arith
at_most_one false = omega arith

pub told_once : (c : ChunkNodes) → IsEachOnce c → TellsOnce (occurrences_of c)
told_once c once = distinct (nodes_of (occurrences_of c)) few_told
  where
    few_told : (i : ℕ) → hits i (nodes_of (occurrences_of c)) ≤ 1
    few_told i =
        let whole = tree own_number c.nodes c.root in
        let occurrence_at : Adds i [] (numbers_in whole) (walked [] whole) = adds i whole [] in
        omega (arith, occurrence_at.few, hits_count i (numbers_in whole), once i, at_most_one (nat_lt i (length c.nodes)))
