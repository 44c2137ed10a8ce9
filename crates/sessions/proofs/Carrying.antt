-- Which calls the entries of one session carry.
use Rattle.std.proofs.Common.{◌≡◌, ◌≢◌, ℕ, ◌+◌, ◌++◌, Bool, true, false, Option, Some, List, [], ◌∷◌, refl, ap, sym, ◌∙◌, subst, inl, inr, add-zero, if◌then◌else◌, is_some}
use Rattle.std.proofs.lemmas.Bool.Decides.{eqb_tells}
use Rattle.txg_core.specs.Rules.{Origin}
use Rattle.txg_core.specs.declared.event.Step.{Step}
use Rattle.txg_core.specs.declared.event.Step.TheVariants.{Hold, Check, Enqueue, Read, Sync, Take}
use Rattle.txg_core.specs.declared.event.Entry.{Entry}
use Rattle.txg_core.specs.declared.event.Entry.TheVariants.{Call, Group}
use Rattle.txg_core.specs.History.{maker_of}
use Rattle.txg_core.specs.Serial.{ended_calls, next, world}
use Rattle.txg_core.specs.Sessions.{Phase, idle, checked, decided, phase, phase_after}
use Rattle.txg_core.specs.Enabled.{Enabled, Legal}
use Rattle.txg_core.specs.Laws.{IsBusyWith, NoneBy}
use Rattle.txg_core.proofs.Phases.{phase-own, phase-other, next-own, next-other}
use Rattle.sessions.specs.Serving.{CarriesOwn}

busy-check : {C : Type 0} (R : Type 0) (b : Bool) (n : ℕ) (c d : C) → IsBusyWith {C = C} {R = R} (if b then idle else checked c) d → (n + (if b then 1 else 0) ≡ n) × (c ≡ d)
busy-check R true n c d busy = absurd busy
busy-check R false n c d busy = (add-zero n, busy)

-- a session that is busy after its entry is so with the entry's call, which is still its next
busy-own : {W C R : Type 0} (o : Origin W C R) (h : List (Entry C)) (k : Step) (t : ℕ) (c d : C) → IsBusyWith (phase_after o h t k c) d → (next o h t + ended_calls o.rules (world o h) k c ≡ next o h t) × (c ≡ d)
busy-own o h Hold t c d busy = (add-zero (next o h t), busy)
busy-own {R = R} o h Check t c d busy = busy-check R (is_some (o.rules.check (world o h) c)) (next o h t) c d busy
busy-own o h Enqueue t c d busy = (add-zero (next o h t), busy)
busy-own o h Read t c d busy = absurd busy
busy-own o h Sync t c d busy = (add-zero (next o h t), busy)
busy-own o h Take t c d busy = absurd busy

-- the call that the session is busy with is its call of the number that is next
pub own-busy : {W C R : Type 0} (o : Origin W C R) (s : ℕ) (calls : ℕ → Option C) (h : List (Entry C)) (d : C) → CarriesOwn o s calls h → IsBusyWith (phase o h s) d → calls (next o h s) ≡ Some d
own-busy o s calls [] d c busy = absurd busy
own-busy {C = C} {R = R} o s calls (Call k t e ∷ h) d c busy = elim (eqb_tells t s) [
  | inl same ↦ subst (λ (n : ℕ). calls (next o (Call k t e ∷ h) n) ≡ Some d) same.1 (
      let now : IsBusyWith (phase_after o h t k e) d = subst (λ (p : Phase C R). IsBusyWith p d) (ap (phase o (Call k t e ∷ h)) (sym same.1) ∙ phase-own o h k t e) busy in
      let own = busy-own o h k t e d now in
      let at : calls (next o h t) ≡ Some e = subst (λ (n : ℕ). calls (next o h n) ≡ Some e) (sym same.1) (c.0 same.1) in
      ap calls (next-own o h k t e ∙ own.0) ∙ at ∙ ap Some own.1)
  | inr other ↦ ap calls (next-other o h k t e s other.0) ∙ own-busy o s calls h d c.1 (subst (λ (p : Phase C R). IsBusyWith p d) (phase-other o h k t e s other.0) busy)
]
own-busy o s calls (Group k ∷ h) d c busy = own-busy o s calls h d c busy

-- an entry of the session that another maker made is a sync
sync-carries : {W C R : Type 0} (o : Origin W C R) (s : ℕ) (calls : ℕ → Option C) (h : List (Entry C)) (k : Step) (d : C) → Enabled o h (Call k s d) → maker_of (Call k s d) ≢ s + 1 → CarriesOwn o s calls h → calls (next o h s) ≡ Some d
sync-carries o s calls h Hold d e ne c = absurd (ne refl)
sync-carries o s calls h Check d e ne c = absurd (ne refl)
sync-carries o s calls h Enqueue d e ne c = absurd (ne refl)
sync-carries o s calls h Read d e ne c = absurd (ne refl)
sync-carries {C = C} {R = R} o s calls h Sync d e ne c = own-busy o s calls h d c (subst (λ (p : Phase C R). IsBusyWith p d) (sym e.2) refl)
sync-carries o s calls h Take d e ne c = absurd (ne refl)

-- the entries of other makers carry the session's calls too
pub own-alone : {W C R : Type 0} (o : Origin W C R) (s : ℕ) (calls : ℕ → Option C) (h later : List (Entry C)) → Legal o (later ++ h) → NoneBy (s + 1) later → CarriesOwn o s calls h → CarriesOwn o s calls (later ++ h)
own-alone o s calls h [] l none c = c
own-alone o s calls h (Group k ∷ later) l none c = own-alone o s calls h later l.1 none.1 c
own-alone {C = C} o s calls h (Call k t d ∷ later) l none c = let before = own-alone o s calls h later l.1 none.1 c in (
  λ same. sync-carries o s calls (later ++ h) k d (subst (λ (n : ℕ). Enabled o (later ++ h) (Call k n d)) same l.0) (subst (λ (n : ℕ). maker_of {C = C} (Call k n d) ≢ s + 1) same none.0) before,
  before,
)

-- what the session takes is the call that it waited for
pub take-carries : {W C R : Type 0} (o : Origin W C R) (s : ℕ) (calls : ℕ → Option C) (h : List (Entry C)) (c : C) (reply : R) → phase o h s ≡ decided c reply → CarriesOwn o s calls h → calls (next o h s) ≡ Some c
take-carries {C = C} {R = R} o s calls h c reply is own = own-busy o s calls h c own (subst (λ (p : Phase C R). IsBusyWith p c) (sym is) refl)
