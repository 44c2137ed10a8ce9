-- A lock and a seat as contracts see them.
use Rattle.std.specs.Prelude.{◌≡◌, ℕ, ◌%◌, ◌^◌, ◌<◌, ◌⊎◌, Bool, true, false, Some, List, [], ◌∷◌, ◌++◌, length}
use Rattle.atomic_table.specs.Seated.{TableId}
use Rattle.atomic_table.specs.declared.shared.Seat.{Seat as TableSeat}
use Rattle.turn_lock.specs.declared.view.View.{View}
use Rattle.turn_lock.specs.declared.view.Stored.{Stored}
use Rattle.turn_lock.specs.declared.view.Stage.{Stage}
use Rattle.turn_lock.specs.declared.view.Stage.TheVariants.{Idle, Waiting, Holding, Leaving}
use Rattle.turn_lock.specs.Entries.{longer, GoesOnByOthers}

-- which lock it is
abbrev pub LockId : Type 0
LockId = TableId

-- which lock it is, and how many numbers there are: its seats hold those below
pub record LockView : Type 0 where
  pub id : LockId
  pub numbers : ℕ

-- the lock that it is a seat of, where the lock's lists begin, the list that it has seen, the newest entry first, the numbers that it holds, whether it has the turn, and how many turns it had
pub record SeatView (O E : Type 0) : Type 0 where
  pub lock : LockId
  pub origin : O
  pub seen : List E
  pub numbers : List ℕ
  pub has_turn : Bool
  pub turns : ℕ

module _ {O E : Type 0} where
  -- a seat without the turn that had none yet
  abbrev pub fresh_seat : LockId → O → List E → List ℕ → SeatView O E
  fresh_seat lock origin seen numbers = record { lock = lock; origin = origin; seen = seen; numbers = numbers; has_turn = false; turns = 0 }

  -- the seat took in the other: it has the numbers of both, and the longer list; each of the two lists it begins with, and goes on by entries of others
  pub record Joined (maker : E → ℕ) (old other new : SeatView O E) : Type 0 where
    pub same : new ≡ record old { seen = longer old.seen other.seen; numbers = old.numbers ++ other.numbers }
    pub origin : other.origin ≡ old.origin
    pub own : GoesOnByOthers maker old.numbers old.seen new.seen
    pub others : GoesOnByOthers maker other.numbers other.seen new.seen

  -- the value stands for a list that begins with what the seat has seen, and goes on by entries of others
  abbrev pub StandsBeyond : {T : Type 0} → (T → O → List E → Type 0) → (E → ℕ) → SeatView O E → T → Type 0
  StandsBeyond stands maker seat value = (list : List E) × stands value seat.origin list × GoesOnByOthers maker seat.numbers seat.seen list

abbrev pub has_turn_at : Stage → Bool
has_turn_at Idle = false
has_turn_at (Waiting t) = false
has_turn_at (Holding t) = true
has_turn_at (Leaving t) = false

module _ {T O E : Type 0} where
  abbrev pub seat_of : TableSeat (Stored T E) (View O E) → O → SeatView O E
  seat_of place origin = record { lock = place.table_id; origin = origin; seen = place.me.0.list; numbers = place.me.0.numbers; has_turn = has_turn_at place.me.0.stage; turns = place.me.0.turns }

  -- it neither waits nor has the slot
  abbrev pub IsFree : TableSeat (Stored T E) (View O E) → Type 0
  IsFree p = (p.me.1 ≡ []) × (p.me.0.stage ≡ Idle)

  -- the slot is with the seat
  abbrev pub HasSlot : TableSeat (Stored T E) (View O E) → Type 0
  HasSlot p = (x : Stored T E) × (p.me.1 ≡ (0, x) ∷ [])

  abbrev pub HasTurn : TableSeat (Stored T E) (View O E) → Type 0
  HasTurn p = ((t : ℕ) × (p.me.0.stage ≡ Holding t)) × HasSlot p

  -- what is true of every seat between two calls
  pub record IsSeat (place : TableSeat (Stored T E) (View O E)) (origin : O) (turns : ℕ) : Type 0 where
    pub stage : IsFree place ⊎ HasTurn place
    pub origin_is : place.me.0.origin ≡ Some origin
    pub some : 0 < length place.me.0.numbers
    pub counted : turns ≡ place.me.0.turns % 2 ^ 64
