-- What threads add.
use Rattle.std.specs.Prelude.{◌≡◌, ℕ, ◌+◌}
use Rattle.turn_lock.specs.Entries.{times}
use Rattle.turn_lock.specs.Seats.{SeatView}

abbrev pub Seat : Type 0
Seat = SeatView (Unit {0}) ℕ

-- the same seat, which may have seen more and had more turns
abbrev pub IsSameSeat : Seat → Seat → Type 0
IsSameSeat old new = new ≡ record old { seen = new.seen; turns = new.turns }

-- the same seat, without the turn as before
abbrev pub IsOfSameLock : Seat → Seat → Type 0
IsOfSameLock old new = (new.lock ≡ old.lock) × (new.origin ≡ old.origin) × (new.has_turn ≡ old.has_turn)

-- the same seat, which had so many turns more
abbrev pub IsLater : Seat → ℕ → Seat → Type 0
IsLater old turns new = new ≡ record old { seen = new.seen; turns = old.turns + turns }

-- the number stands so many times more in what the seat has seen
abbrev pub IsMore : Seat → ℕ → ℕ → Seat → Type 0
IsMore old number more new = times number new.seen ≡ times number old.seen + more
