-- What is true of seats, from their places at the table.
use Rattle.std.proofs.Common.{◌≡◌, ℕ, ◌%◌, ◌^◌, ◌<◌, ◌⊎◌, true, false, Some, List, [], length, ap, sym, ◌∙◌, subst, inl, ⊎_elim}
use Rattle.std.specs.Prelude.{Option as Option'}
use mathlib.Core.Option.{some}
use lib.ListN.{get_elem?}
use Rattle.atomic_table.specs.Table.{Me, Final, Seen}
use Rattle.turn_lock.specs.declared.view.View.{View}
use Rattle.turn_lock.specs.declared.view.Stored.{Stored}
use Rattle.turn_lock.specs.declared.view.Stage.TheVariants.{Idle}
use Rattle.turn_lock.specs.Entries.{times, Holds, below, without_first}
use Rattle.turn_lock.specs.Rule.{KeepsTurns, plain_view}
use Rattle.turn_lock.specs.Steps.{with_numbers}
use Rattle.turn_lock.specs.Seats.{LockView, SeatView, seat_of, has_turn_at, IsFree, HasTurn, IsSeat, StandsBeyond}
use Rattle.turn_lock.specs.Places.{Place}
use Rattle.turn_lock.proofs.Parting.{some_left, opened, closes}
use Rattle.turn_lock.proofs.Turning.{some_same}

-- a seat without the turn is free
pub is_free : {T O E : Type 0} (p : Place T O E) → IsFree p ⊎ HasTurn p → has_turn_at p.me.0.stage ≡ false → IsFree p
is_free {T} {O} {E} p h without_turn = ⊎_elim (λ (f : IsFree p). f) (λ (t : HasTurn p). absurd (let e : has_turn_at p.me.0.stage ≡ true = ap has_turn_at t.0.1 in let f : true ≡ false = sym e ∙ without_turn in cc)) h

-- the seat from which a number was split
pub split_left : {T O E : Type 0} (p q : Place T O E) (origin : O) (turns number k : ℕ) (s : SeatView O E) → seat_of p origin ≡ s → IsSeat p origin turns → k ≡ number → Holds s.numbers number → 1 < length s.numbers → IsFree q
    → q.me.0 ≡ with_numbers p.me.0 (without_first k p.me.0.numbers) → IsSeat q origin turns
split_left {T} {O} {E} p q origin turns number k s is seat same holds more free kept =
    let ns : p.me.0.numbers ≡ s.numbers = ap (λ (z : SeatView O E). z.numbers) is in
    let has : 0 < times k p.me.0.numbers = subst (λ (z : List ℕ × ℕ). 0 < times z.1 z.0) (λ i. (sym ns i, sym same i)) holds in
    let m : 1 < length p.me.0.numbers = subst (λ (z : List ℕ). 1 < length z) (sym ns) more in
    let l = some_left p.me.0 q.me.0 k has m kept in
    record {
      stage = inl free;
      origin_is = ap (λ (z : View O E). z.origin) kept ∙ seat.origin_is;
      some = l.0;
      counted = seat.counted ∙ ap (λ (z : ℕ). z % 2 ^ 64) (sym l.1);
    }

-- the first seat
pub first_seat : {T O E : Type 0} (p : Place T O E) (from origin : O) (list : List E) (count n : ℕ) → p.me ≡ (plain_view (Some from) list (below count) Idle 0, []) → from ≡ origin → count ≡ n → 0 < n → IsSeat p origin 0
first_seat {T} {O} {E} p from origin list count n is begins same any =
    let l = opened p.me (Some from) list count n is same any in
    let v : p.me.0 ≡ plain_view (Some from) list (below count) Idle 0 = ap (λ (z : Me (Stored T E) (View O E)). z.0) is in
    record {
      stage = inl (ap (λ (z : Me (Stored T E) (View O E)). z.1) is, ap (λ (z : View O E). z.stage) v);
      origin_is = ap (λ (z : View O E). z.origin) v ∙ ap (λ (z : O). Some z) begins;
      some = l.0;
      counted = ap (λ (z : ℕ). z % 2 ^ 64) (sym l.1);
    }

-- the end of a lock, with a seat that holds every number
pub closes_seat : {T O E : Type 0} (stands : T → O → List E → Type 0) (maker : E → ℕ) (origin : O) (count : ℕ) (p : Place T O E) (from : O) (turns : ℕ) (s : SeatView O E) (ws : List ℕ) (xs : List (Stored T E)) (y : Stored T E) → seat_of p from ≡ s → IsSeat p from turns
    → Final (Seen (KeepsTurns stands maker origin count) p.id p.me.0) ws xs → get_elem? xs 0 ≡ some y → s.has_turn ≡ false → ((k : ℕ) → k < count → Holds s.numbers k) → (value : T) × (y.value ≡ Some value) × StandsBeyond stands maker s value
closes_seat {T} {O} {E} stands maker origin count p from turns s ws xs y is seat final at without_turn every =
    let ns : p.me.0.numbers ≡ s.numbers = ap (λ (z : SeatView O E). z.numbers) is in
    let free = is_free p seat.stage (ap (λ (z : SeatView O E). z.has_turn) is ∙ without_turn) in
    let c = closes stands maker origin count p.id p.me.0 ws xs y final at free.1 seat.some (λ k less. subst (λ (z : List ℕ). 0 < times k z) (sym ns) (every k less)) in
    let e : StandsBeyond stands maker (seat_of p from) c.0 = (c.2.list, c.2.stood from seat.origin_is, c.2.seen) in
    (c.0, c.1, subst (λ (z : SeatView O E). StandsBeyond stands maker z c.0) is e)

pub closes_with : {T O E : Type 0} (stands : T → O → List E → Type 0) (maker : E → ℕ) (s : SeatView O E) (o : Option' T) (x y : T) → o ≡ Some x → o ≡ Some y → StandsBeyond stands maker s x → StandsBeyond stands maker s y
closes_with stands maker s o x y a b c = subst (StandsBeyond stands maker s) (some_same x y (sym a ∙ b)) c

-- every number of the lock, by its key at the table
pub every_number : (l m : LockView) (ns : List ℕ) → l ≡ m → ((k : ℕ) → k < m.numbers → Holds ns k) → (k : ℕ) → k < l.numbers → Holds ns k
every_number l m ns same every k less = every k (subst (λ (z : LockView). k < z.numbers) same less)
