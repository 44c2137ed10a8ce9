-- Seats that are split off for the passes of a new pool, and joined at its end.
use Rattle.std.specs.Prelude.{◌≡◌, ℕ, ◌+◌, List, [], ◌∷◌, ◌++◌}
use Rattle.turn_lock.specs.Entries.{times, below, GoesOnByOthers}
use Rattle.turn_lock.specs.Seats.{LockId, SeatView, fresh_seat}
use Rattle.txg_core.specs.History.{maker_of}
use Rattle.txg_core.specs.declared.event.Entry.{Entry}
use Rattle.txg_core.specs.declared.origin.Opening.{Opening}
use Rattle.shared_pool.specs.Passes.{PassView, GrowsByOthers}
use Rattle.shared_pool.specs.Closing.{makers_of, AllSawFronts}

module _ {O C : Type 0} where
  -- a seat that has seen nothing, with the numbers 0 to left
  abbrev pub IsSeatLeft : LockId → Opening O → ℕ → SeatView (Opening O) (Entry C) → Type 0
  IsSeatLeft lock opening left seat = seat ≡ fresh_seat lock opening [] (below (left + 1))

  -- the seat took in that of the pass, which had seen a front of what it has seen now
  pub record JoinsPass (old : SeatView (Opening O) (Entry C)) (p : PassView O C) (new : SeatView (Opening O) (Entry C)) : Type 0 where
    pub same : new ≡ record old { seen = new.seen; numbers = new.numbers }
    pub numbers : new.numbers ≡ old.numbers ++ (p.session + 1) ∷ []
    pub own : GoesOnByOthers maker_of old.numbers old.seen new.seen
    pub front : GrowsByOthers (p.session + 1) p.front new.seen

  -- the seat took in those of the passes but for the first ones, which are left
  pub record JoinedPasses (old : SeatView (Opening O) (Entry C)) (all left : List (PassView O C)) (new : SeatView (Opening O) (Entry C)) : Type 0 where
    pub done : List (PassView O C)
    pub parts : all ≡ left ++ done
    pub same : new ≡ record old { seen = new.seen; numbers = new.numbers }
    pub numbers : (k : ℕ) → times k new.numbers ≡ times k old.numbers + times k (makers_of done)
    pub own : GoesOnByOthers maker_of old.numbers old.seen new.seen
    pub fronts : AllSawFronts new.seen done
