-- A schedule that is a legal run has no event that is not enabled, and another has one first.
use Rattle.std.proofs.Common.{◌≡◌, ℕ, ◌<◌, ◌≤◌, zero, suc, ◌⊎◌, List, [], ◌∷◌, ◌++◌, length, map, take, Option, Some, Result, Ok, Err, refl, sym, ap, subst, ◌∙◌, arith, inl, inr, slice_get}
use Rattle.std.proofs.lemmas.Grind.{common_steps}
use Rattle.zp_calls.specs.declared.call.Call.{Call}
use Rattle.txg_core.specs.Rules.{Origin}
use Rattle.txg_core.specs.History.{event_of, journal_of}
use Rattle.txg_core.specs.Enabled.{Legal}
use Rattle.txg_core.specs.Calls.{CarriesCalls, IsHistoryOf, MayFollow}
use Rattle.txg_core.specs.declared.event.Event.{Event}
use Rattle.txg_core.specs.declared.event.Entry.{Entry}
use Rattle.txg_core.specs.declared.event.Entry.TheVariants as entry
use Rattle.txg_core.proofs.CallsLemmas.{entry-is, one-history}
use Rattle.zc_doc.specs.declared.document.Need.TheVariants.{Schedule}
use Rattle.zc_doc.specs.declared.error.DocError.{DocError}
use Rattle.zc_doc.specs.Document.{Contents}
use Rattle.zc_offline.specs.Replay.{call_in, StopsAt}
use Rattle.zc_offline.specs.Headline.{document_read, origin_of, IsLegalRun, IsNotEnabled, HasReplayOutput}

-- a document, and a refusal, as what is read of an input
abbrev pub read-ok : Contents → Result Contents DocError
read-ok d = Ok d

abbrev pub read-err : DocError → Result Contents DocError
read-err e = Err e

-- ---- a legal run is enabled at each of its events

carries-before : {W C R : Type 0} (o : Origin W C R) (calls : ℕ → ℕ → Option C) (e : Entry C) (h : List (Entry C)) → CarriesCalls o calls (e ∷ h) → CarriesCalls o calls h
carries-before o calls (entry.Call k s c) h carries = carries.1
carries-before o calls (entry.Group k) h carries = carries

record EnabledAt {W C R : Type 0} (o : Origin W C R) (calls : ℕ → ℕ → Option C) (events : List Event) (i : ℕ) (v : Event) : Type 0 where
  history : List (Entry C)
  before : IsHistoryOf o calls (take i events) history
  may : MayFollow o calls history v

take-front : (xs : List Event) (y : Event) (i : ℕ) → i ≤ length xs → take i (xs ++ y ∷ []) ≡ take i xs
take-front xs y i le = grind (arith, common_steps)

get-front : (xs : List Event) (y v : Event) (i : ℕ) → i < length xs → slice_get (xs ++ y ∷ []) i ≡ slice_get xs i
get-front [] y v i lt = absurd (omega arith)
get-front (x ∷ xs) y v zero lt = refl
get-front (x ∷ xs) y v (suc i) lt = get-front xs y v i (omega arith)

get-last : (xs : List Event) (y v : Event) (i : ℕ) → length xs ≤ i → slice_get (xs ++ y ∷ []) i ≡ Some v → (i ≡ length xs) × (y ≡ v)
get-last [] y v zero le e = (refl, cc)
get-last [] y v (suc i) le e = cc
get-last (x ∷ xs) y v zero le e = absurd (omega arith)
get-last (x ∷ xs) y v (suc i) le e = let more = get-last xs y v i (omega arith) e in (ap suc more.0, more.1)

cases_lt : (a b : ℕ) → (a < b) ⊎ (b ≤ a)
cases_lt zero zero = inr (omega arith)
cases_lt zero (suc b) = inl (omega arith)
cases_lt (suc a) zero = inr (omega arith)
cases_lt (suc a) (suc b) = elim (cases_lt a b) [ inl lt ↦ inl (omega arith) | inr le ↦ inr (omega arith) ]

enabled-at : {W C R : Type 0} (o : Origin W C R) (calls : ℕ → ℕ → Option C) (h : List (Entry C)) (i : ℕ) (v : Event) → Legal o h → CarriesCalls o calls h → slice_get (journal_of h) i ≡ Some v → EnabledAt o calls (journal_of h) i v
enabled-at o calls [] i v l carries e = cc
enabled-at o calls (x ∷ h) i v l carries e = elim (cases_lt i (length (journal_of h))) [
  | inl lt ↦ (let before = enabled-at o calls h i v l.1 (carries-before o calls x h carries) (sym (get-front (journal_of h) (event_of x) v i lt) ∙ e) in
      record { history = before.history; before = subst (λ (es : List Event). IsHistoryOf o calls es before.history) (sym (take-front (journal_of h) (event_of x) i (omega arith))) before.before; may = before.may })
  | inr le ↦ (let last = get-last (journal_of h) (event_of x) v i le e in
      record {
        history = h;
        before = record { journal = sym (take-whole (journal_of h) (event_of x) i last.0); carries = carries-before o calls x h carries };
        may = subst (λ (w : Event). MayFollow o calls h w) last.1 (x, (entry-is o calls h x carries, l.0));
      })
]
  where
    take-whole : (xs : List Event) (y : Event) (i : ℕ) → i ≡ length xs → take i (xs ++ y ∷ []) ≡ xs
    take-whole xs y i e = grind (arith, common_steps)

-- a document whose schedule is a legal run has no first event that isn't enabled
pub runs-or-stops : (bytes : List ℕ) (i : ℕ) → HasReplayOutput bytes → IsNotEnabled bytes i → ⊥
runs-or-stops bytes i out stops = go out.1.document stops.document out.1.is stops.is out.1.history out.1.run stops.stops
  where
    meets : (doc : Contents) (h : List (Entry Call)) → IsLegalRun doc doc.schedule h → StopsAt (origin_of doc) doc.sessions doc.schedule i → ⊥
    meets doc h run s =
        let at = enabled-at (origin_of doc) (call_in doc.sessions) h i s.event run.legal run.history.carries (ap (λ (es : List Event). slice_get es i) run.history.journal ∙ s.there) in
        let before : IsHistoryOf (origin_of doc) (call_in doc.sessions) (take i doc.schedule) at.history = subst (λ (es : List Event). IsHistoryOf (origin_of doc) (call_in doc.sessions) (take i es) at.history) run.history.journal at.before in
        let same = one-history (origin_of doc) (call_in doc.sessions) (take i doc.schedule) at.history s.history before s.before in
        s.refused (subst (λ (g : List (Entry Call)). MayFollow (origin_of doc) (call_in doc.sessions) g s.event) same at.may)

    go : (doc other : Contents) → document_read Schedule bytes ≡ Ok doc → document_read Schedule bytes ≡ Ok other → (h : List (Entry Call)) → IsLegalRun doc doc.schedule h → StopsAt (origin_of other) other.sessions other.schedule i → ⊥
    go doc other a b h run s =
        let both : read-ok doc ≡ read-ok other = sym a ∙ b in
        let is : other ≡ doc = cc in
        meets doc h run (subst (λ (d : Contents). StopsAt (origin_of d) d.sessions d.schedule i) is s)

-- a document is no other
pub is-or-not : (bytes : List ℕ) (e : DocError) → HasReplayOutput bytes → document_read Schedule bytes ≡ Err e → ⊥
is-or-not bytes e out none = let gone : read-err e ≡ read-ok out.1.document = sym none ∙ out.1.is in cc

-- ---- one event at most is the first that isn't enabled

get-taken : (xs : List Event) (i n : ℕ) → i < n → slice_get (take n xs) i ≡ slice_get xs i
get-taken xs i zero lt = absurd (omega arith)
get-taken [] i (suc n) lt = refl
get-taken (x ∷ xs) zero (suc n) lt = refl
get-taken (x ∷ xs) (suc i) (suc n) lt = get-taken xs i n (omega arith)

take-taken : (xs : List Event) (i k : ℕ) → i ≤ k → take i (take k xs) ≡ take i xs
take-taken [] zero zero le = refl
take-taken [] zero (suc k) le = refl
take-taken [] (suc i) zero le = absurd (omega arith)
take-taken [] (suc i) (suc k) le = refl
take-taken (x ∷ xs) zero zero le = refl
take-taken (x ∷ xs) zero (suc k) le = refl
take-taken (x ∷ xs) (suc i) zero le = absurd (omega arith)
take-taken (x ∷ xs) (suc i) (suc k) le = ap (λ (ys : List Event). x ∷ ys) (take-taken xs i k (omega arith))

not-before : {W C R : Type 0} (o : Origin W C R) (sessions : List (List C)) (schedule : List Event) (i k : ℕ) → StopsAt o sessions schedule i → StopsAt o sessions schedule k → i < k → ⊥
not-before {C = C} o sessions schedule i k a b lt =
    let at = enabled-at o (call_in sessions) b.history i a.event b.legal b.before.carries (ap (λ (es : List Event). slice_get es i) b.before.journal ∙ get-taken schedule i k lt ∙ a.there) in
    let before : IsHistoryOf o (call_in sessions) (take i schedule) at.history = subst (λ (es : List Event). IsHistoryOf o (call_in sessions) es at.history) (ap (λ (es : List Event). take i es) b.before.journal ∙ take-taken schedule i k (omega arith)) at.before in
    let same = one-history o (call_in sessions) (take i schedule) at.history a.history before a.before in
    a.refused (subst (λ (g : List (Entry C)). MayFollow o (call_in sessions) g a.event) same at.may)

one-stop : {W C R : Type 0} (o : Origin W C R) (sessions : List (List C)) (schedule : List Event) (i k : ℕ) → StopsAt o sessions schedule i → StopsAt o sessions schedule k → k ≡ i
one-stop o sessions schedule i k a b = elim (cases_lt i k) [
  | inl lt ↦ absurd (not-before o sessions schedule i k a b lt)
  | inr le ↦ elim (cases_lt k i) [
    | inl lt ↦ absurd (not-before o sessions schedule k i b a lt)
    | inr ge ↦ omega arith
  ]
]

-- the bytes are refused for one event
pub one-refusal : (bytes : List ℕ) (i k : ℕ) → IsNotEnabled bytes i → IsNotEnabled bytes k → k ≡ i
one-refusal bytes i k a b =
    let both : read-ok a.document ≡ read-ok b.document = sym a.is ∙ b.is in
    let is : b.document ≡ a.document = cc in
    one-stop (origin_of a.document) a.document.sessions a.document.schedule i k a.stops (subst (λ (d : Contents). StopsAt (origin_of d) d.sessions d.schedule k) is b.stops)

-- a document that is refused for an event is one
pub refused-is : (bytes : List ℕ) (i : ℕ) (e : DocError) → IsNotEnabled bytes i → document_read Schedule bytes ≡ Err e → ⊥
refused-is bytes i e stops none = let gone : read-err e ≡ read-ok stops.document = sym none ∙ stops.is in cc
