-- A turn at the lock of a pool.
use Rattle.std.specs.Prelude.{◌≡◌, ℕ, ◌+◌, [], ◌∷◌, true}
use Rattle.turn_lock.specs.Seats.{SeatView}
use Rattle.txg_core.specs.Rules.{Meaning}
use Rattle.txg_core.specs.Openings.{origin_at}
use Rattle.txg_core.specs.Enabled.{Legal}
use Rattle.txg_core.specs.declared.event.Entry.{Entry}
use Rattle.txg_core.specs.declared.origin.Opening.{Opening}
use Rattle.shared_pool.specs.Recordings.{Recording}
use Rattle.shared_pool.specs.Passes.{GrowsByOthers}

-- the turn came: the core stands for a legal history, which began where the seat's did, begins with what it had seen, and goes on by entries of others than its maker
pub record Enters {O W C R : Type 0} (means : O → Meaning W C R) (old : SeatView (Opening O) (Entry C)) (core : Recording O C) (new : SeatView (Opening O) (Entry C)) : Type 0 where
  pub seat : new ≡ record old { seen = core.history; has_turn = true; turns = old.turns + 1 }
  pub opening : core.opening ≡ old.origin
  pub legal : Legal (origin_at means core.opening) core.history
  pub others : (maker : ℕ) → old.numbers ≡ maker ∷ [] → GrowsByOthers maker old.seen core.history
