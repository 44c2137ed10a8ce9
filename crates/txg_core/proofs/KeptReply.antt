-- A reply that is kept comes from a sync.
use Rattle.std.proofs.Common.{◌≡◌, ℕ, List, [], ◌∷◌, inl, inr, refl, ap, sym, ◌∙◌, subst, add-zero, Bool, true, false, is_some, if◌then◌else◌}
use Rattle.std.proofs.lemmas.Bool.Decides.{eqb_tells}
use Rattle.txg_core.specs.Rules.{Origin}
use Rattle.txg_core.specs.History.{Step, Hold, Check, Enqueue, Read, Sync, Take, Entry, Call, Group, joined}
use Rattle.txg_core.specs.Serial.{world, next, next_outcome}
use Rattle.txg_core.specs.Sessions.{Phase, idle, checked, decided, phase, phase_after}
use Rattle.txg_core.specs.Enabled.{Enabled, Legal}
use Rattle.txg_core.specs.Laws.{IsSynced}
use Rattle.txg_core.proofs.Phases.{phase-own, phase-other, next-own, next-other, joined-own, joined-other}

checked-none : {C R : Type 0} (b : Bool) (d c : C) (r : R) → ◌≡◌ {A = Phase C R} (if b then idle else checked d) (decided c r) → ⊥
checked-none true d c r e = cc
checked-none false d c r e = cc

-- an entry that leaves the session's number and group leaves what was synced
synced-more : {W C R : Type 0} (o : Origin W C R) (e : Entry C) (h : List (Entry C)) (s : ℕ) (c : C) (r : R) → IsSynced o h s c r → next o (e ∷ h) s ≡ next o h s → joined (e ∷ h) s ≡ joined h s → IsSynced o (e ∷ h) s c r
synced-more {C = C} o e h s c r i n j = record {
  newer = e ∷ i.newer;
  older = i.older;
  is = ap (λ (l : List (Entry C)). e ∷ l) i.is;
  waits = i.waits;
  replied = i.replied;
  same_call = i.same_call ∙ sym n;
  same_group = i.same_group ∙ sym j;
}

synced-own : {W C R : Type 0} (o : Origin W C R) (k : Step) (t : ℕ) (d c : C) (r : R) (h : List (Entry C)) → Enabled o h (Call k t d) → phase_after o h t k d ≡ decided c r → IsSynced o (Call k t d ∷ h) t c r
synced-own o Hold t d c r h en e = absurd (cc)
synced-own o Check t d c r h en e = absurd (checked-none (is_some (o.rules.check (world o h) d)) d c r e)
synced-own o Enqueue t d c r h en e = absurd (cc)
synced-own o Read t d c r h en e = absurd (cc)
synced-own o Take t d c r h en e = absurd (cc)
synced-own {C = C} {R = R} o Sync t d c r h en e =
    let same : d ≡ c = cc in
    let reply : (next_outcome o h t d (joined h t)).0 ≡ r = cc in
    let base : IsSynced o (Call Sync t d ∷ h) t d (next_outcome o h t d (joined h t)).0 = record {
      newer = [];
      older = h;
      is = refl;
      waits = en.2;
      replied = refl;
      same_call = sym (next-own o h Sync t d ∙ add-zero (next o h t));
      same_group = sym (joined-own h Sync t d);
    } in
    subst (λ (z : C). IsSynced o (Call Sync t d ∷ h) t z r) same (subst (λ (q : R). IsSynced o (Call Sync t d ∷ h) t d q) reply base)

pub synced-by : {W C R : Type 0} (o : Origin W C R) (h : List (Entry C)) (s : ℕ) (c : C) (r : R) → Legal o h → phase o h s ≡ decided c r → IsSynced o h s c r
synced-by o [] s c r l e = absurd (cc)
synced-by o (Group k ∷ h) s c r l e = synced-more o (Group k) h s c r (synced-by o h s c r l.1 e) refl refl
synced-by o (Call k t d ∷ h) s c r l e = elim (eqb_tells t s) [
  | inl same ↦ subst (λ (n : ℕ). IsSynced o (Call k t d ∷ h) n c r) same.1 (synced-own o k t d c r h l.0 (sym (phase-own o h k t d) ∙ (ap (λ (n : ℕ). phase o (Call k t d ∷ h) n) same.1 ∙ e)))
  | inr other ↦ synced-more o (Call k t d) h s c r (synced-by o h s c r l.1 (sym (phase-other o h k t d s other.0) ∙ e)) (next-other o h k t d s other.0) (joined-other h k t d s other.0)
]
