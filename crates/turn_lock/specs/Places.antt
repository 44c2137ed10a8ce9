-- A seat's place at the table: what the functions below the public ones say of it.
use Rattle.std.specs.Prelude.{◌≡◌, ℕ, ◌+◌, Some, List, [], ◌∷◌}
use Rattle.atomic_table.specs.Seated.{TableId}
use Rattle.atomic_table.specs.declared.shared.Seat.{Seat as TableSeat}
use Rattle.turn_lock.specs.declared.view.View.{View}
use Rattle.turn_lock.specs.declared.view.Stored.{Stored}
use Rattle.turn_lock.specs.Entries.{GoesOnByOthers}
use Rattle.turn_lock.specs.Rule.{AllBegin}
use Rattle.turn_lock.specs.Steps.{front_of, both_parts}
use Rattle.turn_lock.specs.Seats.{IsFree}

-- a table with three words and one slot
abbrev pub IsShaped : TableId → Type 0
IsShaped t = (t.words ≡ 3) × (t.slots ≡ 1)

abbrev pub Place : Type 0 → Type 0 → Type 0 → Type 0
Place T O E = TableSeat (Stored T E) (View O E)

module _ {T O E : Type 0} where
  abbrev pub IsAtTable : Place T O E → TableId → Type 0
  IsAtTable p t = (p.table_id ≡ t) × IsShaped t

  abbrev pub IsSamePlace : Place T O E → Place T O E → Type 0
  IsSamePlace p q = (q.table_id ≡ p.table_id) × (q.id ≡ p.id)

  -- the slot is with the seat, with a value
  abbrev pub HasValue : Place T O E → Type 0
  HasValue p = (x : Stored T E) × (v : T) × (p.me.1 ≡ (0, x) ∷ []) × (x.value ≡ Some v)

  abbrev pub GivesValue : Place T O E → T → Type 0
  GivesValue p value = (x : Stored T E) (c : List (ℕ × Stored T E)) → p.me.1 ≡ (0, x) ∷ c → x.value ≡ Some value

  -- what a join tells
  pub record TookIn (maker : E → ℕ) (old other new : Place T O E) : Type 0 where
    pub same : IsSamePlace old new
    pub free : IsFree new
    pub view : new.me.0 ≡ record (both_parts old.me.0 other.me.0) { joined = [] }
    pub begun : AllBegin maker old.me.0.origin new.me.0.list (front_of other.me.0 ∷ front_of old.me.0 ∷ [])

module _ {O E : Type 0} where
  -- the turn came: the value stands for a list that begins with what was seen, and goes on by entries of others
  pub record Took {T : Type 0} (stands : T → O → List E → Type 0) (maker : E → ℕ) (v : View O E) (value : T) (w : View O E) : Type 0 where
    pub origin : w.origin ≡ v.origin
    pub numbers : w.numbers ≡ v.numbers
    pub turns : w.turns ≡ v.turns + 1
    pub seen : GoesOnByOthers maker v.numbers v.list w.list
    pub stood : (o : O) → w.origin ≡ Some o → stands value o w.list

  -- the value stands for a list that begins with what was seen, and goes on by entries of others
  pub record Closes {T : Type 0} (stands : T → O → List E → Type 0) (maker : E → ℕ) (v : View O E) (value : T) : Type 0 where
    pub list : List E
    pub seen : GoesOnByOthers maker v.numbers v.list list
    pub stood : (o : O) → v.origin ≡ Some o → stands value o list
