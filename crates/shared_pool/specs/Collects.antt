-- What a collect does.
use Rattle.std.specs.Prelude.{◌≡◌, ◌<◌, Option, Some, None, Result, Ok, Err, List, ◌∷◌, ◌++◌}
use Rattle.txg_core.specs.Rules.{Origin}
use Rattle.txg_core.specs.History.{syncs, takes, synced}
use Rattle.txg_core.specs.Serial.{world, next}
use Rattle.txg_core.specs.Sessions.{waiting, decided, phase}
use Rattle.txg_core.specs.declared.event.Entry.{Entry}
use Rattle.shared_pool.specs.declared.answers.Ticket.{Ticket}

-- the history has the sync of the ticket's call, and the reply is that of doing the call on the world just before, in the ticket's group
pub record IsReplyOf {W C R : Type 0} (o : Origin W C R) (h : List (Entry C)) (t : Ticket) (c : C) (reply : R) : Type 0 where
  pub newer : List (Entry C)
  pub older : List (Entry C)
  pub is : h ≡ newer ++ syncs t.session c ∷ older
  pub waits : phase o older t.session ≡ waiting c
  pub number : next o older t.session ≡ t.call_no
  pub kept : phase o h t.session ≡ decided c reply
  pub replied : reply ≡ (o.rules.does (world o older) c t.group).0

-- the entry that a collect makes, by its answer: the take of the call that was synced; none, where the ticket's group isn't synced
abbrev pub Collects : {W C R E : Type 0} → Origin W C R → Ticket → Result R E → List (Entry C) → List (Entry C) → Type 0
Collects {C = C} o t (Ok reply) h new = (c : C) × (new ≡ takes t.session c ∷ h) × IsReplyOf o h t c reply
Collects o t (Err e) h new = (new ≡ h) × (synced h < t.group)

-- the same of one turn, after which it may be too early
abbrev pub Tries : {W C R E : Type 0} → Origin W C R → Ticket → Option (Result R E) → List (Entry C) → List (Entry C) → Type 0
Tries o t (Some answer) h new = Collects o t answer h new
Tries o t None h new = new ≡ h
