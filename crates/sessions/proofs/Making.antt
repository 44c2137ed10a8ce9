-- A session's calls, made one after the other.
use Rattle.std.proofs.Common.{◌≡◌, ℕ, ◌-◌, ◌++◌, false, List, [], ◌∷◌, length, slice_index, refl, ap, sym, ◌∙◌, subst, arith, append_assoc}
use Rattle.txg_core.specs.Rules.{Meaning, IsLawful}
use Rattle.txg_core.specs.Openings.{origin_at}
use Rattle.txg_core.specs.declared.origin.Opening.{Opening}
use Rattle.txg_core.specs.Serial.{next}
use Rattle.txg_core.specs.Enabled.{Legal}
use Rattle.txg_core.specs.Sessions.{Phase, idle, holding, checked, waiting, decided, phase, is_busy}
use Rattle.shared_pool.specs.Passes.{PassView, IsSamePass}
use Rattle.sessions.specs.Serving.{Serves, MayMake}
use Rattle.sessions.proofs.CallsMade.{none-made, both-made}

idle-is : {C R : Type 0} (p : Phase C R) → is_busy p ≡ false → p ≡ idle
idle-is idle e = refl
idle-is (holding c) e = cc
idle-is (checked c) e = cc
idle-is (waiting c) e = cc
idle-is (decided c r) e = cc

module _ {O W C R : Type 0} (means : O → Meaning W C R) where
  -- of all calls these are left, and those before them gave these replies
  pub record Making (begin : PassView O C) (all : List C) (p : PassView O C) (left : List C) (replies : List R) : Type 0 where
    pub same : IsSamePass begin p
    pub may : MayMake means p left
    pub done : List C
    pub parts : all ≡ done ++ left
    pub served : Serves (origin_at means begin.opening) begin.session begin.front done replies p.front

  pub making-first : (p : PassView O C) (all : List C) → IsLawful (means p.opening.object).rules → MayMake means p all → Making p all p all []
  making-first p all lawful may = record {
    same = (refl, refl, refl);
    may = may;
    done = [];
    parts = refl;
    served = none-made (origin_at means p.opening) lawful p.session p.front may.legal (idle-is (phase (origin_at means p.opening) p.front p.session) may.idle_now);
  }

  may-next : (p q : PassView O C) (c : C) (r : R) (left : List C) → MayMake means p (c ∷ left) → IsSamePass p q → Serves (origin_at means p.opening) p.session p.front (c ∷ []) (r ∷ []) q.front → MayMake means q left
  may-next p q c r left may same served =
      let o = origin_at means p.opening in
      let calm : is_busy (phase o q.front p.session) ≡ false = ap is_busy served.idle_now in
      let many : slice_index p.opening.counts p.session - next o q.front p.session ≡ length left = let n = served.number in let l = may.left in omega (arith, n, l) in
      record {
        legal = subst (λ (x : Opening O). Legal (origin_at means x) q.front) (sym same.1) served.legal;
        idle_now = subst (λ (x : Opening O). is_busy (phase (origin_at means x) q.front q.session) ≡ false) (sym same.1) (subst (λ (s : ℕ). is_busy (phase o q.front s) ≡ false) (sym same.2) calm);
        left = subst (λ (x : Opening O). slice_index x.counts q.session - next (origin_at means x) q.front q.session ≡ length left) (sym same.1) (subst (λ (s : ℕ). slice_index p.opening.counts s - next o q.front s ≡ length left) (sym same.2) many);
      }

  -- one call more
  pub making-more : (begin : PassView O C) (all : List C) (p q : PassView O C) (c : C) (r : R) (left : List C) (replies : List R) → IsLawful (means begin.opening.object).rules → Making begin all p (c ∷ left) replies → IsSamePass p q
      → Serves (origin_at means p.opening) p.session p.front (c ∷ []) (r ∷ []) q.front → Making begin all q left (replies ++ r ∷ [])
  making-more begin all p q c r left replies lawful m same served = record {
    same = (same.0 ∙ m.same.0, same.1 ∙ m.same.1, same.2 ∙ m.same.2);
    may = may-next p q c r left m.may same served;
    done = m.done ++ c ∷ [];
    parts = m.parts ∙ sym (append_assoc m.done (c ∷ []) left);
    served = both-made (origin_at means begin.opening) lawful begin.session begin.front p.front q.front m.done (c ∷ []) replies (r ∷ []) m.served
        (subst (λ (x : Opening O). Serves (origin_at means x) begin.session p.front (c ∷ []) (r ∷ []) q.front) m.same.1 (subst (λ (s : ℕ). Serves (origin_at means p.opening) s p.front (c ∷ []) (r ∷ []) q.front) m.same.2 served));
  }
