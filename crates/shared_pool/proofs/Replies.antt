-- What a read and a collect give.
use Rattle.std.proofs.Common.{◌≡◌, ℕ, ◌+◌, Option, Some, None, IfNone, Result, List, ◌∷◌, ap, sym, ◌∙◌, subst}
use Rattle.txg_core.specs.Rules.{Meaning, Origin, IsLawful}
use Rattle.txg_core.specs.declared.object.Kind.TheVariants.{Query}
use Rattle.txg_core.specs.Openings.{origin_at}
use Rattle.txg_core.specs.History.{reads}
use Rattle.txg_core.specs.Serial.{world}
use Rattle.txg_core.specs.declared.event.Entry.{Entry}
use Rattle.txg_core.specs.declared.origin.Opening.{Opening}
use Rattle.txg_core.proofs.Ready.{world-read}
use Rattle.shared_pool.specs.declared.answers.Ticket.{Ticket}
use Rattle.shared_pool.specs.Passes.{PassView, GrowsByOthers, GoesOn, IsSamePass}
use Rattle.shared_pool.specs.Submits.{ReadsOnce, IsTicketOf}
use Rattle.shared_pool.specs.Collects.{Collects, Tries}
use Rattle.shared_pool.proofs.Makers.{others-on}
use Rattle.shared_pool.proofs.Turning.{ticket-on}

-- the reply of a query is the same just before its read and just after it
pub read-reply : {O W C R : Type 0} (means : O → Meaning W C R) (x y : Opening O) (h new : List (Entry C)) (s : ℕ) (c : C) (reply : R) → IsLawful (means x.object).rules → (means x.object).rules.kind c ≡ Query → y ≡ x → new ≡ reads s c ∷ h → reply ≡ ((origin_at means y).rules.does (world (origin_at means y) h) c 0).0
    → reply ≡ ((origin_at means x).rules.does (world (origin_at means x) new) c 0).0
read-reply {O = O} {W = W} {C = C} means x y h new s c reply lawful query same is e =
    let o = origin_at means x in
    let after : world o new ≡ world o h = ap (λ (l : List (Entry C)). world o l) is ∙ world-read o h s c lawful query in
    subst (λ (z : Opening O). reply ≡ ((origin_at means z).rules.does (world (origin_at means z) h) c 0).0) same e ∙ ap (λ (w : W). (o.rules.does w c 0).0) (sym after)

pub answered : {C X E : Type 0} (s : ℕ) (c : C) (h new : List (Entry C)) (r q : Result X E) → r ≡ q → ReadsOnce s c r h new → ReadsOnce s c q h new
answered {X = X} {E = E} s c h new r q e m = subst (λ (z : Result X E). ReadsOnce s c z h new) e m

-- where it was too early, the ticket is still that of the queued call
pub ticket-waits : {W C R E : Type 0} (o : Origin W C R) (t : Ticket) (s : ℕ) (front new : List (Entry C)) (r : Option (Result R E)) → t.session ≡ s → IsTicketOf o front t → GoesOn o (s + 1) front (Tries o t r) new → IfNone r (IsTicketOf o new t)
ticket-waits {C = C} o t s front new None e is g =
    ticket-on o t front new g.legal (subst (λ (n : ℕ). GrowsByOthers (n + 1) front new) (sym e) (subst (λ (l : List (Entry C)). GrowsByOthers (s + 1) front l) (sym g.made) g.others)) is
ticket-waits o t s front new (Some a) e is g = tt

-- the turns of a collect come to one
module _ {O W C R : Type 0} (means : O → Meaning W C R) (i p : PassView O C) (t : Ticket) (new : List (Entry C)) (same : IsSamePass i p) (later : GrowsByOthers (i.session + 1) i.front p.front) where
  at_first : (P : Opening O → ℕ → Type 0) → P p.opening p.session → P i.opening i.session
  at_first P h = subst (λ (s : ℕ). P i.opening s) same.2 (subst (λ (x : Opening O). P x p.session) same.1 h)

  joins : (makes : Origin W C R → List (Entry C) → List (Entry C) → Type 0) → GoesOn (origin_at means p.opening) (p.session + 1) p.front (makes (origin_at means p.opening)) new → GoesOn (origin_at means i.opening) (i.session + 1) i.front (makes (origin_at means i.opening)) new
  joins makes g =
      let h : GoesOn (origin_at means i.opening) (i.session + 1) p.front (makes (origin_at means i.opening)) new = at_first (λ x s. GoesOn (origin_at means x) (s + 1) p.front (makes (origin_at means x)) new) g in
      record { found = h.found; others = others-on (i.session + 1) i.front p.front h.found later h.others; made = h.made; legal = h.legal }

  pub collected : {E : Type 0} (answer : Result R E) → GoesOn (origin_at means p.opening) (p.session + 1) p.front (Tries (origin_at means p.opening) t (Some answer)) new → GoesOn (origin_at means i.opening) (i.session + 1) i.front (Collects (origin_at means i.opening) t answer) new
  collected answer g = joins (λ o. Collects o t answer) g

  pub waits-on : {E : Type 0} (r : Option (Result R E)) → r ≡ None → GoesOn (origin_at means p.opening) (p.session + 1) p.front (Tries (origin_at means p.opening) t r) new → GrowsByOthers (i.session + 1) i.front new
  waits-on {E = E} r none g =
      let h : GoesOn (origin_at means i.opening) (i.session + 1) i.front (Tries {E = E} (origin_at means i.opening) t None) new = joins (λ o. Tries {E = E} o t None) (subst (λ (z : Option (Result R E)). GoesOn (origin_at means p.opening) (p.session + 1) p.front (Tries (origin_at means p.opening) t z) new) none g) in
      subst (λ (l : List (Entry C)). GrowsByOthers (i.session + 1) i.front l) (sym h.made) h.others

pub same-on : {O C : Type 0} (i p q : PassView O C) → IsSamePass i p → IsSamePass p q → IsSamePass i q
same-on i p q a b = (b.0 ∙ a.0, b.1 ∙ a.1, b.2 ∙ a.2)
