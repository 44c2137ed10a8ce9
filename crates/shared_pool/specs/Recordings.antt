-- A core with the one history for which it stands.
use Rattle.std.specs.Prelude.{ℕ, Bool, true, List, [], ◌∷◌}
use Rattle.txg_core.specs.Rules.{Meaning}
use Rattle.txg_core.specs.Openings.{origin_at}
use Rattle.txg_core.specs.History.{syncs, takes}
use Rattle.txg_core.specs.Sessions.{Phase, waiting, decided, phase}
use Rattle.txg_core.specs.declared.event.Entry.{Entry}
use Rattle.txg_core.specs.declared.origin.Opening.{Opening}
use Rattle.txg_core.specs.declared.task.Task.{Task}

-- where the history begins, the history, the newest entry first, and whether want of memory spent the core
pub record Recording (O C : Type 0) : Type 0 where
  pub opening : Opening O
  pub history : List (Entry C)
  pub spent : Bool

-- one entry more
abbrev pub one_entry_more : {O C : Type 0} → Recording O C → Entry C → Recording O C
one_entry_more r e = record r { history = e ∷ r.history }

-- the same history, and the core is spent
abbrev pub as_spent : {O C : Type 0} → Recording O C → Recording O C
as_spent r = record r { spent = true }

-- the history after the sync of the first of these tasks
abbrev pub with_first_sync : {O C R : Type 0} → List (Task O C R) → List (Entry C) → List (Entry C)
with_first_sync [] h = h
with_first_sync (t ∷ ts) h = syncs t.session t.call ∷ h

-- the history after the take of a session whose phase this is
abbrev pub with_take_in : {C R : Type 0} → Phase C R → ℕ → List (Entry C) → List (Entry C)
with_take_in (waiting c) s h = takes s c ∷ h
with_take_in (decided c r) s h = takes s c ∷ h
with_take_in _ s h = h

-- the history after the session's take of its queued call
abbrev pub with_take : {O W C R : Type 0} → (O → Meaning W C R) → Opening O → ℕ → List (Entry C) → List (Entry C)
with_take means opening s h = with_take_in (phase (origin_at means opening) h s) s h
