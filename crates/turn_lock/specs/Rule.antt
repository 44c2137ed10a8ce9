-- The rule that a lock keeps between any two steps.
-- Word 0 is the count of entries, word 1 the next ticket, word 2 the ticket that is served; the one slot has the value.
use Rattle.std.specs.Prelude.{◌≡◌, ℕ, ◌+◌, ◌%◌, ◌^◌, ◌<◌, ◌≤◌, ◌⊎◌, Option, Some, List, [], ◌∷◌, length}
use mathlib.Core.Option as opt
use lib.ListN.{get_elem?}
use Rattle.atomic_table.specs.Table.{State}
use Rattle.turn_lock.specs.declared.view.View.{View}
use Rattle.turn_lock.specs.declared.view.Stored.{Stored}
use Rattle.turn_lock.specs.declared.view.Front.{Front}
use Rattle.turn_lock.specs.declared.view.Stage.{Stage}
use Rattle.turn_lock.specs.declared.view.Stage.TheVariants.{Idle, Waiting, Holding, Leaving}
use Rattle.turn_lock.specs.Entries.{times, below, GoesOnByOthers}

abbrev pub sum_over : {V : Type 0} → (V → ℕ) → List V → ℕ
sum_over f [] = 0
sum_over f (v ∷ vs) = f v + sum_over f vs

abbrev pub has_ticket : Stage → ℕ
has_ticket Idle = 0
has_ticket (Waiting t) = 1
has_ticket (Holding t) = 1
has_ticket (Leaving t) = 1

abbrev pub IsTicket : ℕ → Stage → Type 0
IsTicket n Idle = ⊥
IsTicket n (Waiting t) = t ≡ n
IsTicket n (Holding t) = t ≡ n
IsTicket n (Leaving t) = t ≡ n

abbrev pub IsHolding : Stage → Type 0
IsHolding (Holding t) = Unit {0}
IsHolding _ = ⊥

-- a ticket was drawn and not served to its end; who has the turn has the ticket that is served
abbrev pub IsPlaced : ℕ → ℕ → Stage → Type 0
IsPlaced served drawn Idle = Unit {0}
IsPlaced served drawn (Waiting t) = (served ≤ t) × (t < drawn)
IsPlaced served drawn (Holding t) = (t ≡ served) × (served < drawn)
IsPlaced served drawn (Leaving t) = (t ≡ served) × (served < drawn)

module _ {O E : Type 0} where
  abbrev pub tickets_of : View O E → ℕ
  tickets_of v = has_ticket v.stage

  abbrev pub held_numbers : View O E → ℕ
  held_numbers v = length v.numbers

  -- a view that wasn't just made by a join
  abbrev pub plain_view : Option O → List E → List ℕ → Stage → ℕ → View O E
  plain_view o es ns s t = record { origin = o; list = es; numbers = ns; stage = s; turns = t; joined = [] }

  -- the list begins with each of these, and goes on by entries of others than their makers
  abbrev pub AllBegin : (E → ℕ) → Option O → List E → List (Front O E) → Type 0
  AllBegin maker origin list [] = Unit {0}
  AllBegin maker origin list (f ∷ fs) = ((f.origin ≡ origin) × GoesOnByOthers maker f.numbers f.list list) × AllBegin maker origin list fs

  -- what a view knows is so, where `hand` is the list at hand
  pub record ViewFits (maker : E → ℕ) (origin : O) (hand : List E) (served drawn : ℕ) (v : View O E) : Type 0 where
    pub same_origin : 0 < length v.numbers → v.origin ≡ Some origin
    pub seen : GoesOnByOthers maker v.numbers v.list hand
    pub placed : IsPlaced served drawn v.stage
    pub holds : IsHolding v.stage → hand ≡ v.list
    pub enough : has_ticket v.stage ≤ length v.numbers
    pub begun : AllBegin maker v.origin v.list v.joined

  abbrev pub EachViewFits : (E → ℕ) → O → List E → ℕ → ℕ → List (View O E) → Type 0
  EachViewFits maker origin hand served drawn views = (j : ℕ) (v : View O E) → get_elem? views j ≡ opt.some v → ViewFits maker origin hand served drawn v

  -- no two views have one ticket
  abbrev pub TicketsDiffer : List (View O E) → Type 0
  TicketsDiffer views = (i j t : ℕ) (v w : View O E) → get_elem? views i ≡ opt.some v → get_elem? views j ≡ opt.some w → IsTicket t v.stage → IsTicket t w.stage → i ≡ j

module _ {T O E : Type 0} (stands : T → O → List E → Type 0) where
  abbrev pub IsStored : O → List E → Stored T E → Type 0
  IsStored origin hand x = (v : T) × (x.value ≡ Some v) × (x.list.value ≡ hand) × stands v origin hand

  -- the slot is at home with the value, or out with a view that has the turn
  abbrev pub IsSlotAt : O → List E → List (opt.Option (Stored T E)) → List (View O E) → Type 0
  IsSlotAt origin hand homes views =
      ((x : Stored T E) × (homes ≡ opt.some x ∷ []) × IsStored origin hand x)
      ⊎ ((homes ≡ opt.none ∷ []) × ((j : ℕ) × (v : View O E) × (get_elem? views j ≡ opt.some v) × IsHolding v.stage))

  -- the list at hand is that of the value at home, or, while the slot is out, of the view with the turn
  pub record KeepsTurns (maker : E → ℕ) (origin : O) (count : ℕ) (s : State (Stored T E) (View O E)) : Type 0 where
    pub hand : List E
    pub served : ℕ
    pub drawn : ℕ
    pub words : s.words ≡ length hand ∷ (drawn % 2 ^ 64) ∷ (served % 2 ^ 64) ∷ []
    pub short : length hand < 2 ^ 64
    pub home : IsSlotAt origin hand s.homes s.views
    pub fits : EachViewFits maker origin hand served drawn s.views
    pub apart : TicketsDiffer s.views
    pub tickets : sum_over tickets_of s.views + served ≡ drawn
    pub parts : sum_over held_numbers s.views ≡ count
    pub few : count < 2 ^ 32
    pub once : (k : ℕ) → sum_over (λ v. times k v.numbers) s.views ≡ times k (below count)
