-- A run that stands for a history, one event later.
use Rattle.std.proofs.Common.{◌≡◌, ℕ, ◌+◌, ◌<◌, ◌^◌, List, [], ◌∷◌, ◌++◌, length, map, Option, Some, None, IsSome, option_to_list, Bool, true, false, nat_eq, refl, sym, ap, subst, ◌∙◌, arith, inl, inr, slice_index, slice_index_or, slice_set, Vec, Global, option_map, cond, is_some, suc, All}
use Rattle.std.proofs.lemmas.Bool.{eq-eqb, ne_eqb}
use Rattle.std.proofs.lemmas.Bool.Decides.{eqb_tells}
use Rattle.std.specs.List.{range_with_len}
use Rattle.txg_core.specs.Rules.{Rules, Meaning, Origin, IsLawful, origin_of}
use Rattle.txg_core.specs.declared.object.Kind.{Kind}
use Rattle.txg_core.specs.declared.object.Kind.TheVariants.{Change, Query}
use Rattle.txg_core.specs.declared.event.Event.{Event}
use Rattle.txg_core.specs.declared.event.Event.TheVariants as event
use Rattle.txg_core.specs.declared.event.Step.{Step}
use Rattle.txg_core.specs.declared.event.EventParts.{EventParts}
use Rattle.txg_core.specs.declared.event.EventParts.TheVariants as parts
use Rattle.txg_core.specs.Events.{parts_of, event_of_step}
use Rattle.txg_core.specs.declared.event.Entry.{Entry}
use Rattle.txg_core.specs.declared.event.Entry.TheVariants as entry
use Rattle.txg_core.specs.declared.event.Step.TheVariants as step
use Rattle.txg_core.specs.State.{CoreState}
use Rattle.txg_core.specs.Serial.{next, given, world, next_outcome}
use Rattle.txg_core.specs.Sessions.{Phase, idle, holding, checked, waiting, decided, phase, phase_after}
use Rattle.txg_core.specs.Enabled.{Enabled, Legal, MayStart, MayComeNext, MayCome}
use Rattle.txg_core.specs.Calls.{CarriesCalls, entry_of_parts, MayFollow}
use Rattle.txg_core.specs.Laws.{replies_told, kept_of, IsBusyWith}
use Rattle.txg_core.specs.Stands.{Stands, verdict_of}
use Rattle.txg_core.specs.declared.task.Checked.{Checked}
use Rattle.txg_core.specs.declared.task.Checked.TheVariants as answer
use Rattle.txg_core.proofs.Phases.{counted, enabled-there, phase-own, phase-other}
use Rattle.txg_core.proofs.Replies.{length-given, given-one_more}
use Rattle.txg_core.proofs.CallsLemmas.{carries-busy}
use Rattle.zc_offline.specs.declared.replay.Run.{Run}
use Rattle.zc_offline.specs.Replay.{Follows, NextIs, all_given, call_in, number_in}
use Rattle.zc_offline.proofs.Given.{map-length, map-at, map-same, map-set, call-there}

app-nil : {X : Type 0} (xs : List X) → xs ++ [] ≡ xs
app-nil [] = refl
app-nil (x ∷ xs) = ap (λ ys. x ∷ ys) (app-nil xs)

-- ---- the object of the core has the rules of the origin

pub lawful-here : {O W C R : Type 0} {means : O → Meaning W C R} {o : Origin W C R} {sessions : List (List C)} {run : Run O C R} {h : List (Entry C)} → Follows means o sessions run h → ((x : O) → IsLawful (means x).rules) → IsLawful o.rules
lawful-here {W = W} {C = C} {R = R} {run = run} f lawful = subst (λ (r : Rules W C R). IsLawful r) (f.stands.work f.unspent).rules (lawful run.core.object)

pub kind-here : {O W C R : Type 0} {means : O → Meaning W C R} {o : Origin W C R} {sessions : List (List C)} {run : Run O C R} {h : List (Entry C)} (kind_of : C → Kind) → Follows means o sessions run h → ((x : O) (c : C) → (means x).rules.kind c ≡ kind_of c) → (c : C) → o.rules.kind c ≡ kind_of c
kind-here {W = W} {C = C} {R = R} {run = run} kind_of f kinds c = sym (ap (λ (r : Rules W C R). r.kind c) (f.stands.work f.unspent).rules) ∙ kinds run.core.object c

-- ---- what is known before the event

-- there is a list of replies for each session
pub replies-there : {O W C R : Type 0} {means : O → Meaning W C R} {o : Origin W C R} {sessions : List (List C)} {run : Run O C R} {h : List (Entry C)} (s : ℕ) → Follows means o sessions run h → s < length o.counts → s < length run.replies.items
replies-there {o = o} {run = run} {h = h} s f lt = let n : length run.replies.items ≡ length o.counts = ap length f.replies ∙ map-length (given o h) 0 (length o.counts) in omega arith

-- as many replies were given as calls were ended
pub number-next : {O W C R : Type 0} {means : O → Meaning W C R} {o : Origin W C R} {sessions : List (List C)} {run : Run O C R} {h : List (Entry C)} (s : ℕ) → Follows means o sessions run h → s < length o.counts → number_in run.replies.items s ≡ next o h s
number-next {R = R} {o = o} {h = h} s f lt =
    ap (λ (xs : List (List R)). length (slice_index_or xs s [])) f.replies
    ∙ ap length (map-at (given o h) 0 (length o.counts) s [] lt)
    ∙ ap (λ (k : ℕ). length (given o h k)) (omega arith)
    ∙ length-given o h f.stands.legal s

-- a session that may start has a next call
start-there : {O W C R : Type 0} (means : O → Meaning W C R) (o : Origin W C R) (sessions : List (List C)) (run : Run O C R) (h : List (Entry C)) (s : ℕ) → Follows means o sessions run h → MayStart o h s → (s < length o.counts) × IsSome (call_in sessions s (next o h s))
start-there means o sessions run h s f may = (
  counted o.counts s (next o h s) may.1,
  call-there sessions s (next o h s) (subst (λ (counts : List ℕ). next o h s < slice_index counts s) f.counts may.1),
)

-- what an entry but a hold or a read is enabled for is the call that the session is busy with
pub enabled-busy : {W C R : Type 0} (o : Origin W C R) (h : List (Entry C)) (k : Step) (s : ℕ) (c : C) → (k ≡ step.Hold → ⊥) → (k ≡ step.Read → ⊥) → Enabled o h (entry.Call k s c) → IsBusyWith (phase o h s) c
enabled-busy o h step.Hold s c hold read en = absurd (hold refl)
enabled-busy {C = C} {R = R} o h step.Check s c hold read en = subst (λ (p : Phase C R). IsBusyWith p c) (sym en) refl
enabled-busy {C = C} {R = R} o h step.Enqueue s c hold read en = subst (λ (p : Phase C R). IsBusyWith p c) (sym en) refl
enabled-busy o h step.Read s c hold read en = absurd (read refl)
enabled-busy {C = C} {R = R} o h step.Sync s c hold read en = subst (λ (p : Phase C R). IsBusyWith p c) (sym en.2) refl
enabled-busy {C = C} {R = R} o h step.Take s c hold read en = subst (λ (p : Phase C R). IsBusyWith p c) (sym en.1.1) refl

busy-there : {O W C R : Type 0} (means : O → Meaning W C R) (o : Origin W C R) (sessions : List (List C)) (run : Run O C R) (h : List (Entry C)) (k : Step) (s : ℕ) (c : C) → (k ≡ step.Hold → ⊥) → (k ≡ step.Read → ⊥) → Follows means o sessions run h → Enabled o h (entry.Call k s c) → (s < length o.counts) × IsSome (call_in sessions s (next o h s))
busy-there {C = C} means o sessions run h k s c hold read f en = (
  enabled-there o h k s c f.stands.legal en,
  subst (λ (x : Option C). IsSome x) (sym (carries-busy o (call_in sessions) h s c f.carries (enabled-busy o h k s c hold read en))) refl,
)

-- a session whose step may come is there and has a next call
pub step-there : {O W C R : Type 0} (means : O → Meaning W C R) (o : Origin W C R) (sessions : List (List C)) (run : Run O C R) (h : List (Entry C)) (k : Step) (s : ℕ) → Follows means o sessions run h → MayCome o h (event_of_step k s) → (s < length o.counts) × IsSome (call_in sessions s (next o h s))
step-there means o sessions run h step.Hold s f may = start-there means o sessions run h s f may
step-there means o sessions run h step.Check s f may = busy-there means o sessions run h step.Check s may.0 (λ e. cc) (λ e. cc) f may.1
step-there means o sessions run h step.Enqueue s f may = busy-there means o sessions run h step.Enqueue s may.0 (λ e. cc) (λ e. cc) f may.1
step-there means o sessions run h step.Read s f may = start-there means o sessions run h s f may
step-there means o sessions run h step.Sync s f may = busy-there means o sessions run h step.Sync s may.0 (λ e. cc) (λ e. cc) f may.1
step-there means o sessions run h step.Take s f may = busy-there means o sessions run h step.Take s may.0 (λ e. cc) (λ e. cc) f may.1

-- the step is enabled for the next call
pub next-enabled : {O W C R : Type 0} (means : O → Meaning W C R) (o : Origin W C R) (sessions : List (List C)) (run : Run O C R) (h : List (Entry C)) (k : Step) (s : ℕ) (c d : C) → (k ≡ step.Hold → ⊥) → (k ≡ step.Read → ⊥) → Follows means o sessions run h → Enabled o h (entry.Call k s d) → call_in sessions s (next o h s) ≡ Some c → Enabled o h (entry.Call k s c)
next-enabled {C = C} means o sessions run h k s c d hold read f en at =
    let both : Some d ≡ Some c = sym (carries-busy o (call_in sessions) h s d f.carries (enabled-busy o h k s d hold read en)) ∙ at in
    let same : d ≡ c = cc in
    subst (λ (x : C). Enabled o h (entry.Call k s x)) same en

-- a call that is held for is a change
passed-not-held : {C R : Type 0} (b : Bool) (c d : C) → ◌≡◌ {A = Phase C R} (cond b idle (checked d)) (holding c) → ⊥
passed-not-held {C} {R} true c d e = phases-differ e
  where
    phases-differ : ◌≡◌ {A = Phase C R} idle (holding c) → ⊥
    phases-differ e = cc
passed-not-held false c d e = cc

held-own : {W C R : Type 0} (o : Origin W C R) (h : List (Entry C)) (k : Step) (t : ℕ) (d c : C) → Enabled o h (entry.Call k t d) → phase_after o h t k d ≡ holding c → o.rules.kind c ≡ Change
held-own o h step.Hold t d c en e = let is : d ≡ c = cc in ap o.rules.kind (sym is) ∙ en.1
held-own o h step.Check t d c en e = absurd (passed-not-held (is_some (o.rules.check (world o h) d)) c d e)
held-own o h step.Enqueue t d c en e = cc
held-own o h step.Read t d c en e = cc
held-own o h step.Sync t d c en e = cc
held-own o h step.Take t d c en e = cc

pub held-change : {W C R : Type 0} (o : Origin W C R) (h : List (Entry C)) (s : ℕ) (c : C) → Legal o h → phase o h s ≡ holding c → o.rules.kind c ≡ Change
held-change o [] s c l e = cc
held-change o (entry.Group k ∷ h) s c l e = held-change o h s c l.1 e
held-change o (entry.Call k t d ∷ h) s c l e = elim (eqb_tells t s) [
  | inl same ↦ held-own o h k t d c l.0 (sym (phase-own o h k t d) ∙ ap (phase o (entry.Call k t d ∷ h)) same.1 ∙ e)
  | inr other ↦ held-change o h s c l.1 (sym (phase-other o h k t d s other.0) ∙ e)
]

-- ---- what may follow may come

known : {W C R : Type 0} (o : Origin W C R) (calls : ℕ → ℕ → Option C) (h : List (Entry C)) (k : Step) (s : ℕ) (e : Entry C) → option_map (λ c. entry.Call k s c) (calls s (next o h s)) ≡ Some e → Enabled o h e → (c : C) × Enabled o h (entry.Call k s c)
known {C = C} o calls h k s e is en = go (calls s (next o h s)) is
  where
    go : (x : Option C) → option_map (λ c. entry.Call k s c) x ≡ Some e → (c : C) × Enabled o h (entry.Call k s c)
    go None f = cc
    go (Some c) f = let same : e ≡ entry.Call k s c = cc in (c, subst (λ (x : Entry C). Enabled o h x) same en)

alone : {W C R : Type 0} (o : Origin W C R) (h : List (Entry C)) (d e : Entry C) → Some d ≡ Some e → Enabled o h e → Enabled o h d
alone {C = C} o h d e is en = let same : e ≡ d = cc in subst (λ (x : Entry C). Enabled o h x) same en

step-comes : {W C R : Type 0} (o : Origin W C R) (h : List (Entry C)) (k : Step) (s : ℕ) (c : C) → Enabled o h (entry.Call k s c) → MayComeNext o h (parts.Step k s)
step-comes o h step.Hold s c en = en.0
step-comes o h step.Check s c en = (c, en)
step-comes o h step.Enqueue s c en = (c, en)
step-comes o h step.Read s c en = en.0
step-comes o h step.Sync s c en = (c, en)
step-comes o h step.Take s c en = (c, en)

pub follows-comes : {W C R : Type 0} (o : Origin W C R) (calls : ℕ → ℕ → Option C) (h : List (Entry C)) (v : Event) → MayFollow o calls h v → MayCome o h v
follows-comes {C = C} o calls h v may = comes (parts_of v) may.0 may.1.0 may.1.1
  where
    comes : (p : EventParts) (e : Entry C) → entry_of_parts o calls h p ≡ Some e → Enabled o h e → MayComeNext o h p
    comes (parts.Step k s) e is en = let c = known o calls h k s e is en in step-comes o h k s c.0 c.1
    comes (parts.Transition t) e is en = alone o h (entry.Group t) e is en

-- an event whose call is known is the entry with that call
entry-known : {C : Type 0} (f : C → Entry C) (o : Option C) (c : C) (e : Entry C) → o ≡ Some c → option_map f o ≡ Some e → f c ≡ e
entry-known f o c e is at = let same : Some (f c) ≡ Some e = sym (ap (option_map f) is) ∙ at in cc

-- a query is not held for, and a change is not read
pub query-not-held : {W C R : Type 0} (o : Origin W C R) (calls : ℕ → ℕ → Option C) (h : List (Entry C)) (s : ℕ) (c : C) → calls s (next o h s) ≡ Some c → o.rules.kind c ≡ Query → MayFollow o calls h (event.Hold s) → ⊥
query-not-held {C = C} o calls h s c at q may =
    let is : entry.Call step.Hold s c ≡ may.0 = entry-known (λ d. entry.Call step.Hold s d) (calls s (next o h s)) c may.0 at may.1.0 in
    let en : Enabled o h (entry.Call step.Hold s c) = subst (λ (e : Entry C). Enabled o h e) (sym is) may.1.1 in
    let kinds : Change ≡ Query = sym en.1 ∙ q in cc

pub change-not-read : {W C R : Type 0} (o : Origin W C R) (calls : ℕ → ℕ → Option C) (h : List (Entry C)) (s : ℕ) (c : C) → calls s (next o h s) ≡ Some c → o.rules.kind c ≡ Change → MayFollow o calls h (event.Read s) → ⊥
change-not-read {C = C} o calls h s c at q may =
    let is : entry.Call step.Read s c ≡ may.0 = entry-known (λ d. entry.Call step.Read s d) (calls s (next o h s)) c may.0 at may.1.0 in
    let en : Enabled o h (entry.Call step.Read s c) = subst (λ (e : Entry C). Enabled o h e) (sym is) may.1.1 in
    let kinds : Query ≡ Change = sym en.1 ∙ q in cc

-- ---- the run after the event

-- where nobody is told anything
pub goes-on : {O W C R : Type 0} (means : O → Meaning W C R) (o : Origin W C R) (sessions : List (List C)) (run : Run O C R) (h : List (Entry C)) (core : CoreState O C R) (e : Entry C) → IsLawful o.rules → Follows means o sessions run h →
    Stands means o core (e ∷ h) → core.spent ≡ run.core.spent → CarriesCalls o (call_in sessions) (e ∷ h) → ((t : ℕ) → replies_told o h e t ≡ []) →
    Follows means o sessions (record { core = core; replies = run.replies }) (e ∷ h)
goes-on {R = R} means o sessions run h core e lawful f stands spent carries told = record {
  stands = stands;
  unspent = spent ∙ f.unspent;
  counts = f.counts;
  short = f.short;
  carries = carries;
  replies = f.replies ∙ map-same (given o h) (given o (e ∷ h)) 0 (length o.counts)
      (λ t. sym (given-one_more o h e t lawful stands.legal ∙ ap (λ (rs : List R). given o h t ++ rs) (told t) ∙ app-nil (given o h t)));
}

-- where one session is told a reply
pub goes-on-telling : {O W C R : Type 0} (means : O → Meaning W C R) (o : Origin W C R) (sessions : List (List C)) (run : Run O C R) (h : List (Entry C)) (core : CoreState O C R) (replies : Vec (List R) Global) (e : Entry C) (s : ℕ) (r : R) → IsLawful o.rules → Follows means o sessions run h →
    Stands means o core (e ∷ h) → core.spent ≡ run.core.spent → CarriesCalls o (call_in sessions) (e ∷ h) → s < length o.counts →
    replies_told o h e s ≡ r ∷ [] → ((t : ℕ) → (t ≡ s → ⊥) → replies_told o h e t ≡ []) →
    replies.items ≡ slice_set run.replies.items s (slice_index_or run.replies.items s [] ++ r ∷ []) →
    Follows means o sessions (record { core = core; replies = replies }) (e ∷ h)
goes-on-telling {R = R} means o sessions run h core replies e s r lawful f stands spent carries lt told silent given-now = record {
  stands = stands;
  unspent = spent ∙ f.unspent;
  counts = f.counts;
  short = f.short;
  carries = carries;
  replies = given-now ∙ ap (λ (xs : List (List R)). slice_set xs s (slice_index_or xs s [] ++ r ∷ [])) f.replies
      ∙ map-set (given o h) (given o (e ∷ h)) 0 (length o.counts) s (slice_index_or (all_given o h) s [] ++ r ∷ []) lt here others;
}
  where
    more : (t : ℕ) → given o (e ∷ h) t ≡ given o h t ++ replies_told o h e t
    more t = given-one_more o h e t lawful stands.legal

    here : given o (e ∷ h) (0 + s) ≡ slice_index_or (all_given o h) s [] ++ r ∷ []
    here = ap (given o (e ∷ h)) (omega arith) ∙ more s ∙ ap (λ (rs : List R). given o h s ++ rs) told
        ∙ ap (λ (rs : List R). rs ++ r ∷ []) (ap (given o h) (omega arith) ∙ sym (map-at (given o h) 0 (length o.counts) s [] lt))

    others : (t : ℕ) → (t ≡ 0 + s → ⊥) → given o h t ≡ given o (e ∷ h) t
    others t ne = sym (more t ∙ ap (λ (rs : List R). given o h t ++ rs) (silent t (λ e. ne (omega arith))) ∙ app-nil (given o h t))

-- ---- who is told

-- a check that refuses tells its own session
pub told-refusal : {W C R : Type 0} (o : Origin W C R) (h : List (Entry C)) (s : ℕ) (c : C) (r : R) → o.rules.check (world o h) c ≡ Some r → replies_told o h (entry.Call step.Check s c) s ≡ r ∷ []
told-refusal o h s c r e = ap (λ b. cond b (option_to_list (o.rules.check (world o h) c)) []) (eq-eqb s s refl) ∙ ap option_to_list e

pub told-nothing : {W C R : Type 0} (o : Origin W C R) (h : List (Entry C)) (s : ℕ) (c : C) → o.rules.check (world o h) c ≡ None → (t : ℕ) → replies_told o h (entry.Call step.Check s c) t ≡ []
told-nothing {R = R} o h s c e t = ap (λ (x : Option R). cond (nat_eq s t) (option_to_list x) []) e ∙ either (nat_eq s t)
  where
    either : (b : Bool) → cond b (option_to_list {X = R} None) [] ≡ []
    either true = refl
    either false = refl

pub told-others : {W C R : Type 0} (o : Origin W C R) (h : List (Entry C)) (k : Step) (s : ℕ) (c : C) (t : ℕ) → (t ≡ s → ⊥) → replies_told o h (entry.Call k s c) t ≡ []
told-others o h step.Hold s c t ne = refl
told-others o h step.Check s c t ne = ap (λ b. cond b (option_to_list (o.rules.check (world o h) c)) []) (ne_eqb s t (λ e. ne (sym e)))
told-others o h step.Enqueue s c t ne = refl
told-others o h step.Read s c t ne = ap (λ b. cond b ((next_outcome o h s c 0).0 ∷ []) []) (ne_eqb s t (λ e. ne (sym e)))
told-others o h step.Sync s c t ne = refl
told-others o h step.Take s c t ne = ap (λ b. cond b (kept_of (phase o h s)) []) (ne_eqb s t (λ e. ne (sym e)))

pub told-answer : {W C R : Type 0} (o : Origin W C R) (h : List (Entry C)) (s : ℕ) (c : C) → replies_told o h (entry.Call step.Read s c) s ≡ (next_outcome o h s c 0).0 ∷ []
told-answer o h s c = ap (λ b. cond b ((next_outcome o h s c 0).0 ∷ []) []) (eq-eqb s s refl)

pub told-kept : {W C R : Type 0} (o : Origin W C R) (h : List (Entry C)) (s : ℕ) (c d : C) (r : R) → phase o h s ≡ decided d r → replies_told o h (entry.Call step.Take s c) s ≡ r ∷ []
told-kept o h s c d r e = ap (λ b. cond b (kept_of (phase o h s)) []) (eq-eqb s s refl) ∙ ap kept_of e

-- what a check answered is what the object's check gives
pub refused-is : {R : Type 0} (v : Option R) (a : Checked R) (r : R) → a ≡ verdict_of v → a ≡ answer.Refused r → v ≡ Some r
refused-is {R} None a r e f = let no : ◌≡◌ {A = Checked R} answer.Passed (answer.Refused r) = sym e ∙ f in cc
refused-is (Some x) a r e f = let same : answer.Refused x ≡ answer.Refused r = sym e ∙ f in let is : x ≡ r = cc in ap Some is

pub passed-is : {R : Type 0} (v : Option R) (a : Checked R) → a ≡ verdict_of v → ((r : R) → a ≡ answer.Refused r → ⊥) → v ≡ None
passed-is None a e n = refl
passed-is (Some x) a e n = absurd (n x e)

-- ---- before the first event

-- no reply yet
abbrev pub none_given : {R : Type 0} → List R
none_given = []

nobody : {W C R : Type 0} (sessions : List (List C)) (o : Origin W C R) (a : ℕ) → map (λ (calls : List C). none_given {R = R}) sessions ≡ map (given o []) (range_with_len a (length sessions))
nobody [] o a = refl
nobody {R = R} (calls ∷ sessions) o a = ap (λ (xs : List (List R)). none_given ∷ xs) (nobody sessions o (a + 1))

map-length-list : {X Y : Type 0} (f : X → Y) (xs : List X) → length (map f xs) ≡ length xs
map-length-list f [] = refl
map-length-list f (x ∷ xs) = ap suc (map-length-list f xs)

-- a new core stands for no entry, and nobody was given a reply
pub begins : {O W C R : Type 0} (means : O → Meaning W C R) (x : O) (sessions : List (List C)) (run : Run O C R) →
    Stands means (origin_of (means x) (map length sessions)) run.core [] → run.core.spent ≡ false → All (λ (calls : List C). length calls < 2 ^ 32) sessions → run.replies.items ≡ map (λ (calls : List C). none_given {R = R}) sessions →
    Follows means (origin_of (means x) (map length sessions)) sessions run []
begins means x sessions run stands unspent short replies = record {
  stands = stands;
  unspent = unspent;
  counts = refl;
  short = short;
  carries = tt;
  replies = replies ∙ nobody sessions (origin_of (means x) (map length sessions)) 0 ∙ ap (λ (n : ℕ). map (given (origin_of (means x) (map length sessions)) []) (range_with_len 0 n)) (sym (map-length-list length sessions));
}
