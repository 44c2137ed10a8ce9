-- The ticket of a submit, and the reply by a ticket.
use Rattle.std.proofs.Common.{◌≡◌, ℕ, ◌+◌, inl, Option, Some, None, Result, Ok, Err, IfOk, IfNone, List, ◌∷◌, refl, ap, sym, ◌∙◌, subst, arith, is_some, if◌then◌else◌}
use Rattle.txg_core.specs.Rules.{Meaning, Origin}
use Rattle.txg_core.specs.Openings.{origin_at}
use Rattle.txg_core.specs.declared.origin.Opening.{Opening}
use Rattle.txg_core.specs.History.{holds, checks, enqueues, open_group}
use Rattle.txg_core.specs.Serial.{next, world}
use Rattle.txg_core.specs.Sessions.{Phase, decided, phase, IsQueued}
use Rattle.txg_core.specs.Laws.{IsSynced}
use Rattle.txg_core.specs.declared.event.Entry.{Entry}
use Rattle.txg_core.specs.declared.event.Step.TheVariants.{Hold, Check, Enqueue}
use Rattle.txg_core.proofs.Phases.{phase-own, joined-own, next-own}
use Rattle.shared_pool.specs.declared.answers.Ticket.{Ticket}
use Rattle.shared_pool.specs.declared.answers.Refusal.{Refusal}
use Rattle.shared_pool.specs.declared.answers.Refusal.TheVariants.{NoMemory}
use Rattle.shared_pool.specs.Passes.{PassView, GoesOn, IsSamePass}
use Rattle.shared_pool.specs.Submits.{Submits, IsTicketOf, IsPassTicket}
use Rattle.shared_pool.specs.Collects.{IsReplyOf}
use Rattle.shared_pool.proofs.Makers.{others-none}
use Rattle.txg_core.specs.Enabled.{Legal}

module _ {W C R : Type 0} (o : Origin W C R) (s : ℕ) (c : C) where
  next-queued : (h : List (Entry C)) → o.rules.check (world o (holds s c ∷ h)) c ≡ None → next o (enqueues s c ∷ checks s c ∷ holds s c ∷ h) s ≡ next o h s
  next-queued h passed =
      let a = next-own o h Hold s c in
      let b : next o (checks s c ∷ holds s c ∷ h) s ≡ next o (holds s c ∷ h) s + 0 = next-own o (holds s c ∷ h) Check s c ∙ ap (λ (x : Option R). next o (holds s c ∷ h) s + (if is_some x then 1 else 0)) passed in
      let d = next-own o (checks s c ∷ holds s c ∷ h) Enqueue s c in omega (arith, a, b, d)

  ticket-at : (h : List (Entry C)) → o.rules.check (world o (holds s c ∷ h)) c ≡ None → IsTicketOf o (enqueues s c ∷ checks s c ∷ holds s c ∷ h) (record { session = s; call_no = next o h s; group = open_group h })
  ticket-at h passed = record {
    queued = subst (λ (p : Phase C R). IsQueued p) (sym (phase-own o (checks s c ∷ holds s c ∷ h) Enqueue s c)) tt;
    number = sym (next-queued h passed);
    group_is = sym (joined-own (checks s c ∷ holds s c ∷ h) Enqueue s c ∙ (joined-own (holds s c ∷ h) Check s c ∙ joined-own h Hold s c));
  }

  -- the ticket that a submit gives is that of the queued call
  pub ticket-given : (r : Result Ticket (Refusal R)) (h new : List (Entry C)) → Submits o s c r h new → IfOk r (λ t. (t.session ≡ s) × IsTicketOf o new t)
  ticket-given (Ok t) h new m =
      (ap (λ (u : Ticket). u.session) m.2, subst (λ (l : List (Entry C)). IsTicketOf o l t) (sym m.0) (subst (λ (u : Ticket). IsTicketOf o (enqueues s c ∷ checks s c ∷ holds s c ∷ h) u) (sym m.2) (ticket-at h m.1)))
  ticket-given (Err e) h new m = tt

-- the ticket of a call is that of the pass, which is the same one afterwards
pub pass-ticket : {O W C R : Type 0} (means : O → Meaning W C R) (p q : PassView O C) (t : Ticket) → IsSamePass p q → t.session ≡ p.session → IsTicketOf (origin_at means p.opening) q.front t → IsPassTicket means q t
pass-ticket {O = O} means p q t same e is = (e ∙ sym same.2, subst (λ (x : Opening O). IsTicketOf (origin_at means x) q.front t) (sym same.1) is)

pub if_ok-ticket : {O W C R E : Type 0} (means : O → Meaning W C R) (p q : PassView O C) (r : Result Ticket E) → IsSamePass p q → IfOk r (λ t. (t.session ≡ p.session) × IsTicketOf (origin_at means p.opening) q.front t) → IfOk r (λ t. IsPassTicket means q t)
if_ok-ticket means p q (Ok t) same is = pass-ticket means p q t same is.0 is.1
if_ok-ticket means p q (Err e) same is = tt

pub if_none-ticket : {O W C R X : Type 0} (means : O → Meaning W C R) (p q : PassView O C) (t : Ticket) (r : Option X) → IsSamePass p q → t.session ≡ p.session → IfNone r (IsTicketOf (origin_at means p.opening) q.front t) → IfNone r (IsPassTicket means q t)
if_none-ticket means p q t None same e is = pass-ticket means p q t same e is
if_none-ticket means p q t (Some x) same e is = tt

-- a submit that found no memory before its turn
pub none-made : {W C R : Type 0} (o : Origin W C R) (k s : ℕ) (c : C) (front : List (Entry C)) → Legal o front → GoesOn o k front (Submits o s c (Err NoMemory)) front
none-made o k s c front legal = record { found = front; others = others-none k front; made = inl refl; legal = legal }

-- the sync of a session's queued call is that of its ticket
pub reply-by : {W C R : Type 0} (o : Origin W C R) (h : List (Entry C)) (t : Ticket) (c : C) (reply : R) → IsTicketOf o h t → phase o h t.session ≡ decided c reply → IsSynced o h t.session c reply → IsReplyOf o h t c reply
reply-by o h t c reply ticket kept i = record {
  newer = i.newer;
  older = i.older;
  is = i.is;
  waits = i.waits;
  number = i.same_call ∙ sym ticket.number;
  kept = kept;
  replied = i.replied ∙ ap (λ (n : ℕ). (o.rules.does (world o i.older) c n).0) (i.same_group ∙ sym ticket.group_is);
}
