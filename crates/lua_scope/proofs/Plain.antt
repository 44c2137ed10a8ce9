-- The numbers of nodes are labels: a text is refused in the same way without them.
use Rattle.std.proofs.Common.{◌≡◌, ℕ, ◌+◌, Bool, true, false, if◌then◌else◌, List, [], ◌∷◌, length, map, refl, ap, ◌∙◌}
use Rattle.lua_ast.specs.Tree.{Tree, Block, Local, Assign, CallStat, Do, While, Repeat, If, NumFor, GenFor, LocalFunction, Return, Break, Goto, Label, Const, Vararg, Function, Name, Index, Call, Method, Binary, Logic, Unary, Paren, Table, Missing, Trees, none, snoc, Cases, no_case, case, Maybe, absent, present, Fields, no_field, item, named, keyed}
use Rattle.std.specs.List.{list_any}
use Rattle.lua_ast.specs.Numbers.{without_numbers, list_without, cases_without, maybe_without, fields_without}
use Rattle.lua_scope.specs.declared.occurrence.Occurrence.{Occurrence}
use Rattle.lua_scope.specs.declared.occurrence.Occurrence.TheVariants as occurrence
use Rattle.lua_scope.specs.declared.occurrence.ScopeKind.{ScopeKind}
use Rattle.lua_scope.specs.declared.occurrence.ScopeKind.TheVariants as kind
use Rattle.lua_scope.specs.declared.occurrence.Label.{Label as BlockLabel}
use Rattle.lua_scope.specs.Labels.{labels_of, with_labels, locals_left, locals_at, inside_of, inside_with, has_label, has_name}
use Rattle.lua_scope.specs.Walk.{opens, label_in, walked, list_walked, stats_walked, body_walked, cases_walked, maybe_walked, fields_walked}

pub ap-both : {A B C : Type 0} (f : A → B → C) {a x : A} {b y : B} → a ≡ x → b ≡ y → f a b ≡ f x y
ap-both {B = B} f {x = x} {b = b} d e = ap (λ z. f z b) d ∙ ap (f x) e

-- An occurrence without the number of its node.
abbrev pub plain_kind : ScopeKind → ScopeKind
plain_kind (kind.Block labels inside) = kind.Block labels inside
plain_kind kind.Loop = kind.Loop
plain_kind (kind.Function _ vararg) = kind.Function 0 vararg

abbrev pub plain : Occurrence → Occurrence
plain (occurrence.Open o) = occurrence.Open (plain_kind o)
plain occurrence.Close = occurrence.Close
plain (occurrence.Declare _ count) = occurrence.Declare 0 count
plain (occurrence.Enter _ names) = occurrence.Enter 0 names
plain (occurrence.Use _ x) = occurrence.Use 0 x
plain (occurrence.Goto l x) = occurrence.Goto l x
plain (occurrence.SecondLabel l) = occurrence.SecondLabel l
plain (occurrence.Break l) = occurrence.Break l
plain (occurrence.Vararg l) = occurrence.Vararg l

-- ---- labels

same-with-labels : (before : List BlockLabel) (locals : ℕ) (t : Tree) → with_labels before locals (without_numbers t) ≡ with_labels before locals t
same-with-labels before locals (Block i l stats) = refl
same-with-labels before locals (Local i l names exps) = refl
same-with-labels before locals (Assign i l targets exps) = refl
same-with-labels before locals (CallStat i l call) = refl
same-with-labels before locals (Do i l block) = refl
same-with-labels before locals (While i l test block) = refl
same-with-labels before locals (Repeat i l block test) = refl
same-with-labels before locals (If i l cases otherwise) = refl
same-with-labels before locals (NumFor i l name first limit step block) = refl
same-with-labels before locals (GenFor i l names exps block) = refl
same-with-labels before locals (LocalFunction i l name function) = refl
same-with-labels before locals (Return i l exps) = refl
same-with-labels before locals (Break i l) = refl
same-with-labels before locals (Goto i l label) = refl
same-with-labels before locals (Label i l label) = refl
same-with-labels before locals (Const i l value) = refl
same-with-labels before locals (Vararg i l) = refl
same-with-labels before locals (Function i l params vararg block) = refl
same-with-labels before locals (Name i l text) = refl
same-with-labels before locals (Index i l object key) = refl
same-with-labels before locals (Call i l function args) = refl
same-with-labels before locals (Method i l object name args) = refl
same-with-labels before locals (Binary i l op left right) = refl
same-with-labels before locals (Logic i l op left right) = refl
same-with-labels before locals (Unary i l op operand) = refl
same-with-labels before locals (Paren i l inner) = refl
same-with-labels before locals (Table i l fields) = refl
same-with-labels before locals Missing = refl

same-locals-at : (t : Tree) → locals_at (without_numbers t) ≡ locals_at t
same-locals-at (Block i l stats) = refl
same-locals-at (Local i l names exps) = refl
same-locals-at (Assign i l targets exps) = refl
same-locals-at (CallStat i l call) = refl
same-locals-at (Do i l block) = refl
same-locals-at (While i l test block) = refl
same-locals-at (Repeat i l block test) = refl
same-locals-at (If i l cases otherwise) = refl
same-locals-at (NumFor i l name first limit step block) = refl
same-locals-at (GenFor i l names exps block) = refl
same-locals-at (LocalFunction i l name function) = refl
same-locals-at (Return i l exps) = refl
same-locals-at (Break i l) = refl
same-locals-at (Goto i l label) = refl
same-locals-at (Label i l label) = refl
same-locals-at (Const i l value) = refl
same-locals-at (Vararg i l) = refl
same-locals-at (Function i l params vararg block) = refl
same-locals-at (Name i l text) = refl
same-locals-at (Index i l object key) = refl
same-locals-at (Call i l function args) = refl
same-locals-at (Method i l object name args) = refl
same-locals-at (Binary i l op left right) = refl
same-locals-at (Logic i l op left right) = refl
same-locals-at (Unary i l op operand) = refl
same-locals-at (Paren i l inner) = refl
same-locals-at (Table i l fields) = refl
same-locals-at Missing = refl

same-inside-with : (inside labels : ℕ) (t : Tree) → inside_with inside labels (without_numbers t) ≡ inside_with inside labels t
same-inside-with inside labels (Block i l stats) = refl
same-inside-with inside labels (Local i l names exps) = refl
same-inside-with inside labels (Assign i l targets exps) = refl
same-inside-with inside labels (CallStat i l call) = refl
same-inside-with inside labels (Do i l block) = refl
same-inside-with inside labels (While i l test block) = refl
same-inside-with inside labels (Repeat i l block test) = refl
same-inside-with inside labels (If i l cases otherwise) = refl
same-inside-with inside labels (NumFor i l name first limit step block) = refl
same-inside-with inside labels (GenFor i l names exps block) = refl
same-inside-with inside labels (LocalFunction i l name function) = refl
same-inside-with inside labels (Return i l exps) = refl
same-inside-with inside labels (Break i l) = refl
same-inside-with inside labels (Goto i l label) = refl
same-inside-with inside labels (Label i l label) = refl
same-inside-with inside labels (Const i l value) = refl
same-inside-with inside labels (Vararg i l) = refl
same-inside-with inside labels (Function i l params vararg block) = refl
same-inside-with inside labels (Name i l text) = refl
same-inside-with inside labels (Index i l object key) = refl
same-inside-with inside labels (Call i l function args) = refl
same-inside-with inside labels (Method i l object name args) = refl
same-inside-with inside labels (Binary i l op left right) = refl
same-inside-with inside labels (Logic i l op left right) = refl
same-inside-with inside labels (Unary i l op operand) = refl
same-inside-with inside labels (Paren i l inner) = refl
same-inside-with inside labels (Table i l fields) = refl
same-inside-with inside labels Missing = refl

same-locals : (ts : Trees) → locals_left (list_without ts) ≡ locals_left ts
same-locals none = refl
same-locals (snoc ts t) = ap-both (λ (a b : ℕ). a + b) (same-locals ts) (same-locals-at t)

same-labels : (ts : Trees) → labels_of (list_without ts) ≡ labels_of ts
unfolding labels_of
same-labels none = refl
same-labels (snoc ts t) = ap-both (λ (ls : List BlockLabel) (n : ℕ). with_labels ls n (without_numbers t)) (same-labels ts) (same-locals ts) ∙ same-with-labels (labels_of ts) (locals_left ts) t

same-inside : (ts : Trees) → inside_of (list_without ts) ≡ inside_of ts
unfolding inside_of
same-inside none = refl
same-inside (snoc ts t) = ap-both (λ (a b : ℕ). inside_with a b (without_numbers t)) (same-inside ts) (ap length (same-labels ts)) ∙ same-inside-with (inside_of ts) (length (labels_of ts)) t

same-opens : (repeats : Bool) (ts : Trees) → opens repeats (list_without ts) ≡ plain (opens repeats ts)
same-opens true ts = ap (λ (ls : List BlockLabel). occurrence.Open (kind.Block ls (length ls))) (same-labels ts)
same-opens false ts = ap-both (λ (ls : List BlockLabel) (n : ℕ). occurrence.Open (kind.Block ls n)) (same-labels ts) (same-inside ts)

-- ---- walks

abbrev pub Alike : List Occurrence → List Occurrence → Type 0
Alike g h = g ≡ map plain h

one-more : (a b : Occurrence) (g h : List Occurrence) → a ≡ plain b → g ≡ map plain h → a ∷ g ≡ map plain (b ∷ h)
one-more a b g h e f = ap-both (λ (x : Occurrence) (xs : List Occurrence). x ∷ xs) e f

second : (l : ℕ) (b : Bool) (g h : List Occurrence) → g ≡ map plain h → Alike (if b then occurrence.SecondLabel l ∷ g else g) (if b then occurrence.SecondLabel l ∷ h else h)
second l true g h e = one-more (occurrence.SecondLabel l) (occurrence.SecondLabel l) g h refl e
second l false g h e = e

same-label-in : (l : ℕ) (x : List ℕ) (ts : Trees) (g h : List Occurrence) → Alike g h → Alike (label_in l x (list_without ts) g) (label_in l x ts h)
same-label-in l x ts g h e = ap (λ (ls : List BlockLabel). if list_any (has_name x) ls then occurrence.SecondLabel l ∷ g else g) (same-labels ts) ∙ second l (has_label x ts) g h e

-- a statement, given that its tree keeps walks alike
statement : (t : Tree) (ts : Trees) (g h : List Occurrence) → ((a b : List Occurrence) → Alike a b → Alike (walked a (without_numbers t)) (walked b t)) → Alike (stats_walked g (list_without ts)) (stats_walked h ts) → Alike (stats_walked g (snoc (list_without ts) (without_numbers t))) (stats_walked h (snoc ts t))
unfolding walked
statement (Block i l stats) ts g h whole e = whole _ _ e
statement (Local i l names exps) ts g h whole e = whole _ _ e
statement (Assign i l targets exps) ts g h whole e = whole _ _ e
statement (CallStat i l call) ts g h whole e = whole _ _ e
statement (Do i l block) ts g h whole e = whole _ _ e
statement (While i l test block) ts g h whole e = whole _ _ e
statement (Repeat i l block test) ts g h whole e = whole _ _ e
statement (If i l cases otherwise) ts g h whole e = whole _ _ e
statement (NumFor i l name first limit step block) ts g h whole e = whole _ _ e
statement (GenFor i l names exps block) ts g h whole e = whole _ _ e
statement (LocalFunction i l name function) ts g h whole e = whole _ _ e
statement (Return i l exps) ts g h whole e = whole _ _ e
statement (Break i l) ts g h whole e = whole _ _ e
statement (Goto i l label) ts g h whole e = whole _ _ e
statement (Label i l label) ts g h whole e = same-label-in l label ts _ _ e
statement (Const i l value) ts g h whole e = whole _ _ e
statement (Vararg i l) ts g h whole e = whole _ _ e
statement (Function i l params vararg block) ts g h whole e = whole _ _ e
statement (Name i l text) ts g h whole e = whole _ _ e
statement (Index i l object key) ts g h whole e = whole _ _ e
statement (Call i l function args) ts g h whole e = whole _ _ e
statement (Method i l object name args) ts g h whole e = whole _ _ e
statement (Binary i l op left right) ts g h whole e = whole _ _ e
statement (Logic i l op left right) ts g h whole e = whole _ _ e
statement (Unary i l op operand) ts g h whole e = whole _ _ e
statement (Paren i l inner) ts g h whole e = whole _ _ e
statement (Table i l fields) ts g h whole e = whole _ _ e
statement Missing ts g h whole e = whole _ _ e

mutual
  unfolding walked

  pub alike : (t : Tree) (g h : List Occurrence) → Alike g h → Alike (walked g (without_numbers t)) (walked h t)
  alike (Block i l stats) g h e = one-more occurrence.Close occurrence.Close _ _ refl (alike-stats stats _ _ (one-more (opens false (list_without stats)) (opens false stats) _ _ (same-opens false stats) e))
  alike (Local i l names exps) g h e = one-more (occurrence.Enter 0 names) (occurrence.Enter i names) _ _ refl (alike-list exps _ _ (one-more (occurrence.Declare 0 (length names)) (occurrence.Declare i (length names)) _ _ refl e))
  alike (Assign i l targets exps) g h e = alike-list exps _ _ (alike-list targets g h e)
  alike (CallStat i l call) g h e = alike call g h e
  alike (Do i l block) g h e = alike block g h e
  alike (While i l test block) g h e =
      let before : Alike (walked g (without_numbers test)) (walked h test) = alike test g h e in
      one-more occurrence.Close occurrence.Close _ _ refl (alike block (occurrence.Open kind.Loop ∷ walked g (without_numbers test)) (occurrence.Open kind.Loop ∷ walked h test) (one-more (occurrence.Open kind.Loop) (occurrence.Open kind.Loop) _ _ refl before))
  alike (Repeat i l block test) g h e =
      let a = alike-body true block (occurrence.Open kind.Loop ∷ g) (occurrence.Open kind.Loop ∷ h) (one-more (occurrence.Open kind.Loop) (occurrence.Open kind.Loop) g h refl e) in
      one-more occurrence.Close occurrence.Close _ (occurrence.Close ∷ walked (body_walked true (occurrence.Open kind.Loop ∷ h) block) test) refl (one-more occurrence.Close occurrence.Close _ (walked (body_walked true (occurrence.Open kind.Loop ∷ h) block) test) refl (alike test _ (body_walked true (occurrence.Open kind.Loop ∷ h) block) a))
  alike (If i l cases otherwise) g h e = alike-maybe otherwise _ _ (alike-cases cases g h e)
  alike (NumFor i l name first limit step block) g h e =
      let a : Alike (walked (occurrence.Declare 0 1 ∷ g) (without_numbers first)) (walked (occurrence.Declare i 1 ∷ h) first) = alike first (occurrence.Declare 0 1 ∷ g) (occurrence.Declare i 1 ∷ h) (one-more (occurrence.Declare 0 1) (occurrence.Declare i 1) g h refl e) in
      let b = alike limit _ (walked (occurrence.Declare i 1 ∷ h) first) a in
      let c = alike-maybe step _ (walked (walked (occurrence.Declare i 1 ∷ h) first) limit) b in
      one-more occurrence.Close occurrence.Close _ _ refl (alike block _ (occurrence.Enter i (name ∷ []) ∷ occurrence.Open kind.Loop ∷ maybe_walked (walked (walked (occurrence.Declare i 1 ∷ h) first) limit) step) (one-more (occurrence.Enter 0 (name ∷ [])) (occurrence.Enter i (name ∷ [])) _ (occurrence.Open kind.Loop ∷ maybe_walked (walked (walked (occurrence.Declare i 1 ∷ h) first) limit) step) refl (one-more (occurrence.Open kind.Loop) (occurrence.Open kind.Loop) _ (maybe_walked (walked (walked (occurrence.Declare i 1 ∷ h) first) limit) step) refl c)))
  alike (GenFor i l names exps block) g h e =
      let a = alike-list exps (occurrence.Declare 0 (length names) ∷ g) (occurrence.Declare i (length names) ∷ h) (one-more (occurrence.Declare 0 (length names)) (occurrence.Declare i (length names)) g h refl e) in
      one-more occurrence.Close occurrence.Close _ _ refl (alike block _ (occurrence.Enter i names ∷ occurrence.Open kind.Loop ∷ list_walked (occurrence.Declare i (length names) ∷ h) exps) (one-more (occurrence.Enter 0 names) (occurrence.Enter i names) _ (occurrence.Open kind.Loop ∷ list_walked (occurrence.Declare i (length names) ∷ h) exps) refl (one-more (occurrence.Open kind.Loop) (occurrence.Open kind.Loop) _ (list_walked (occurrence.Declare i (length names) ∷ h) exps) refl a)))
  alike (LocalFunction i l name function) g h e = alike function (occurrence.Enter 0 (name ∷ []) ∷ occurrence.Declare 0 1 ∷ g) (occurrence.Enter i (name ∷ []) ∷ occurrence.Declare i 1 ∷ h) (one-more (occurrence.Enter 0 (name ∷ [])) (occurrence.Enter i (name ∷ [])) (occurrence.Declare 0 1 ∷ g) (occurrence.Declare i 1 ∷ h) refl (one-more (occurrence.Declare 0 1) (occurrence.Declare i 1) g h refl e))
  alike (Return i l exps) g h e = alike-list exps g h e
  alike (Break i l) g h e = one-more (occurrence.Break l) (occurrence.Break l) _ _ refl e
  alike (Goto i l label) g h e = one-more (occurrence.Goto l label) (occurrence.Goto l label) _ _ refl e
  alike (Label i l label) g h e = e
  alike (Const i l value) g h e = e
  alike (Vararg i l) g h e = one-more (occurrence.Vararg l) (occurrence.Vararg l) _ _ refl e
  alike (Function i l params vararg block) g h e =
      let a : occurrence.Declare 0 (length params) ∷ occurrence.Open (kind.Function 0 vararg) ∷ g ≡ map plain (occurrence.Declare i (length params) ∷ occurrence.Open (kind.Function i vararg) ∷ h) = one-more (occurrence.Declare 0 (length params)) (occurrence.Declare i (length params)) (occurrence.Open (kind.Function 0 vararg) ∷ g) (occurrence.Open (kind.Function i vararg) ∷ h) refl (one-more (occurrence.Open (kind.Function 0 vararg)) (occurrence.Open (kind.Function i vararg)) g h refl e) in
      one-more occurrence.Close occurrence.Close _ _ refl (alike block (occurrence.Enter 0 params ∷ occurrence.Declare 0 (length params) ∷ occurrence.Open (kind.Function 0 vararg) ∷ g) (occurrence.Enter i params ∷ occurrence.Declare i (length params) ∷ occurrence.Open (kind.Function i vararg) ∷ h) (one-more (occurrence.Enter 0 params) (occurrence.Enter i params) (occurrence.Declare 0 (length params) ∷ occurrence.Open (kind.Function 0 vararg) ∷ g) (occurrence.Declare i (length params) ∷ occurrence.Open (kind.Function i vararg) ∷ h) refl a))
  alike (Name i l text) g h e = one-more (occurrence.Use 0 text) (occurrence.Use i text) _ _ refl e
  alike (Index i l object key) g h e = alike key _ _ (alike object g h e)
  alike (Call i l function args) g h e = alike-list args _ _ (alike function g h e)
  alike (Method i l object name args) g h e = alike-list args _ _ (alike object g h e)
  alike (Binary i l op left right) g h e = alike right _ _ (alike left g h e)
  alike (Logic i l op left right) g h e = alike right _ _ (alike left g h e)
  alike (Unary i l op operand) g h e = alike operand g h e
  alike (Paren i l inner) g h e = alike inner g h e
  alike (Table i l fields) g h e = alike-fields fields g h e
  alike Missing g h e = e

  alike-list : (ts : Trees) (g h : List Occurrence) → Alike g h → Alike (list_walked g (list_without ts)) (list_walked h ts)
  alike-list none g h e = e
  alike-list (snoc ts t) g h e = alike t _ _ (alike-list ts g h e)

  alike-stats : (ts : Trees) (g h : List Occurrence) → Alike g h → Alike (stats_walked g (list_without ts)) (stats_walked h ts)
  alike-stats none g h e = e
  alike-stats (snoc ts t) g h e = statement t ts g h (λ a b f. alike t a b f) (alike-stats ts g h e)

  alike-body : (repeats : Bool) (t : Tree) (g h : List Occurrence) → Alike g h → Alike (body_walked repeats g (without_numbers t)) (body_walked repeats h t)
  alike-body repeats (Block i l stats) g h e = alike-stats stats _ _ (one-more (opens repeats (list_without stats)) (opens repeats stats) _ _ (same-opens repeats stats) e)
  alike-body repeats (Local i l names exps) g h e = one-more (opens repeats none) (opens repeats none) _ _ (same-opens repeats none) e
  alike-body repeats (Assign i l targets exps) g h e = one-more (opens repeats none) (opens repeats none) _ _ (same-opens repeats none) e
  alike-body repeats (CallStat i l call) g h e = one-more (opens repeats none) (opens repeats none) _ _ (same-opens repeats none) e
  alike-body repeats (Do i l block) g h e = one-more (opens repeats none) (opens repeats none) _ _ (same-opens repeats none) e
  alike-body repeats (While i l test block) g h e = one-more (opens repeats none) (opens repeats none) _ _ (same-opens repeats none) e
  alike-body repeats (Repeat i l block test) g h e = one-more (opens repeats none) (opens repeats none) _ _ (same-opens repeats none) e
  alike-body repeats (If i l cases otherwise) g h e = one-more (opens repeats none) (opens repeats none) _ _ (same-opens repeats none) e
  alike-body repeats (NumFor i l name first limit step block) g h e = one-more (opens repeats none) (opens repeats none) _ _ (same-opens repeats none) e
  alike-body repeats (GenFor i l names exps block) g h e = one-more (opens repeats none) (opens repeats none) _ _ (same-opens repeats none) e
  alike-body repeats (LocalFunction i l name function) g h e = one-more (opens repeats none) (opens repeats none) _ _ (same-opens repeats none) e
  alike-body repeats (Return i l exps) g h e = one-more (opens repeats none) (opens repeats none) _ _ (same-opens repeats none) e
  alike-body repeats (Break i l) g h e = one-more (opens repeats none) (opens repeats none) _ _ (same-opens repeats none) e
  alike-body repeats (Goto i l label) g h e = one-more (opens repeats none) (opens repeats none) _ _ (same-opens repeats none) e
  alike-body repeats (Label i l label) g h e = one-more (opens repeats none) (opens repeats none) _ _ (same-opens repeats none) e
  alike-body repeats (Const i l value) g h e = one-more (opens repeats none) (opens repeats none) _ _ (same-opens repeats none) e
  alike-body repeats (Vararg i l) g h e = one-more (opens repeats none) (opens repeats none) _ _ (same-opens repeats none) e
  alike-body repeats (Function i l params vararg block) g h e = one-more (opens repeats none) (opens repeats none) _ _ (same-opens repeats none) e
  alike-body repeats (Name i l text) g h e = one-more (opens repeats none) (opens repeats none) _ _ (same-opens repeats none) e
  alike-body repeats (Index i l object key) g h e = one-more (opens repeats none) (opens repeats none) _ _ (same-opens repeats none) e
  alike-body repeats (Call i l function args) g h e = one-more (opens repeats none) (opens repeats none) _ _ (same-opens repeats none) e
  alike-body repeats (Method i l object name args) g h e = one-more (opens repeats none) (opens repeats none) _ _ (same-opens repeats none) e
  alike-body repeats (Binary i l op left right) g h e = one-more (opens repeats none) (opens repeats none) _ _ (same-opens repeats none) e
  alike-body repeats (Logic i l op left right) g h e = one-more (opens repeats none) (opens repeats none) _ _ (same-opens repeats none) e
  alike-body repeats (Unary i l op operand) g h e = one-more (opens repeats none) (opens repeats none) _ _ (same-opens repeats none) e
  alike-body repeats (Paren i l inner) g h e = one-more (opens repeats none) (opens repeats none) _ _ (same-opens repeats none) e
  alike-body repeats (Table i l fields) g h e = one-more (opens repeats none) (opens repeats none) _ _ (same-opens repeats none) e
  alike-body repeats Missing g h e = one-more (opens repeats none) (opens repeats none) _ _ (same-opens repeats none) e

  alike-cases : (cs : Cases) (g h : List Occurrence) → Alike g h → Alike (cases_walked g (cases_without cs)) (cases_walked h cs)
  alike-cases no_case g h e = e
  alike-cases (case cs test block) g h e = alike block _ _ (alike test _ _ (alike-cases cs g h e))

  alike-maybe : (m : Maybe) (g h : List Occurrence) → Alike g h → Alike (maybe_walked g (maybe_without m)) (maybe_walked h m)
  alike-maybe absent g h e = e
  alike-maybe (present t) g h e = alike t g h e

  alike-fields : (fs : Fields) (g h : List Occurrence) → Alike g h → Alike (fields_walked g (fields_without fs)) (fields_walked h fs)
  alike-fields no_field g h e = e
  alike-fields (item fs value) g h e = alike value _ _ (alike-fields fs g h e)
  alike-fields (named fs name value) g h e = alike value _ _ (alike-fields fs g h e)
  alike-fields (keyed fs key value) g h e = alike value _ _ (alike key _ _ (alike-fields fs g h e))
