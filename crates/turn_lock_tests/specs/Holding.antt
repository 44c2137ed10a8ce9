-- What contracts see of a struct that holds a seat.
use Rattle.std.specs.Prelude.{ℕ, List}
use Rattle.turn_lock.specs.Seats.{LockId}

pub record HolderView (O E : Type 0) : Type 0 where
  pub lock : LockId
  pub origin : O
  pub seen : List E
  pub number : ℕ
  pub turns : ℕ
