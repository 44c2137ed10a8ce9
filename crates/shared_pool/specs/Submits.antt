-- What a submit and a read do.
use Rattle.std.specs.Prelude.{◌≡◌, ℕ, ◌+◌, ◌⊎◌, Some, None, Result, Ok, Err, List, ◌∷◌, length}
use Rattle.txg_core.specs.Rules.{Meaning, Origin}
use Rattle.txg_core.specs.Openings.{origin_at}
use Rattle.txg_core.specs.History.{holds, checks, enqueues, reads, open_group, joined}
use Rattle.txg_core.specs.Serial.{world, next}
use Rattle.txg_core.specs.Sessions.{phase, IsQueued}
use Rattle.txg_core.specs.declared.event.Entry.{Entry}
use Rattle.shared_pool.specs.declared.answers.Ticket.{Ticket}
use Rattle.shared_pool.specs.declared.answers.Refusal.{Refusal}
use Rattle.shared_pool.specs.declared.answers.Refusal.TheVariants.{Checked, NoMemory}
use Rattle.shared_pool.specs.Passes.{PassView}

-- the entries that a submit makes, by its answer: a hold, a check that passes and an enqueue, and a ticket of that call; a hold and a check that refuses, on the world after so many entries; on want of memory a front of these
abbrev pub Submits : {W C R : Type 0} → Origin W C R → ℕ → C → Result Ticket (Refusal R) → List (Entry C) → List (Entry C) → Type 0
Submits o s c (Ok t) h new = (new ≡ enqueues s c ∷ checks s c ∷ holds s c ∷ h) × (o.rules.check (world o (holds s c ∷ h)) c ≡ None) × (t ≡ record { session = s; call_no = next o h s; group = open_group h })
Submits o s c (Err (Checked reply at)) h new = (new ≡ checks s c ∷ holds s c ∷ h) × (o.rules.check (world o (holds s c ∷ h)) c ≡ Some reply) × (at ≡ length h + 1)
Submits o s c (Err NoMemory) h new = (new ≡ h) ⊎ (new ≡ holds s c ∷ h)

-- the ticket is that of the session's queued call
pub record IsTicketOf {W C R : Type 0} (o : Origin W C R) (h : List (Entry C)) (t : Ticket) : Type 0 where
  pub queued : IsQueued (phase o h t.session)
  pub number : t.call_no ≡ next o h t.session
  pub group_is : t.group ≡ joined h t.session

-- the ticket is that of the call of the pass's session that is under way
abbrev pub IsPassTicket : {O W C R : Type 0} → (O → Meaning W C R) → PassView O C → Ticket → Type 0
IsPassTicket means p t = (t.session ≡ p.session) × IsTicketOf (origin_at means p.opening) p.front t

-- the entry that a read makes where it is answered; on want of memory none
abbrev pub ReadsOnce : {C X E : Type 0} → ℕ → C → Result X E → List (Entry C) → List (Entry C) → Type 0
ReadsOnce s c (Ok x) h new = new ≡ reads s c ∷ h
ReadsOnce s c (Err e) h new = new ≡ h
