-- The kinds of step, and what each tells.
--
-- | step | word | what changes |
-- |---|---|---|
-- | draw a ticket | 1, fetch_add | the seat's ticket |
-- | look at serving | 2, load | where the ticket is served: the turn, the list of the value at home; the slot comes out |
-- | raise the count | 0, store | the seat's list becomes that of the value; the slot goes in |
-- | serve the next | 2, fetch_add | ticket and turn end |
-- | look at the count | 0, load | nothing |
-- | bring a number to the front | 0, compare_exchange of a number for itself | the order of the seat's numbers |
-- | split a seat | 0, load | the first number goes to the new seat, which has the origin and the list too |
-- | join a seat | 0, load | the seat has the longer list and the numbers of both, the other is spent |
-- | look back | 0, load | nothing but that the join is over |
--
-- `exchange` moves the value out of the slot and in again while the seat has it.
use Rattle.std.specs.Prelude.{◌≡◌, ℕ, ◌+◌, ◌%◌, ◌^◌, Some, None, List, [], ◌∷◌, ◌++◌, length}
use Rattle.atomic_table.specs.Table.{Me, Step}
use Rattle.turn_lock.specs.declared.view.View.{View}
use Rattle.turn_lock.specs.declared.view.Stored.{Stored}
use Rattle.turn_lock.specs.declared.view.Front.{Front}
use Rattle.turn_lock.specs.declared.view.Stage.{Stage}
use Rattle.turn_lock.specs.declared.view.Stage.TheVariants.{Idle, Waiting, Holding, Leaving}
use Rattle.turn_lock.specs.Entries.{without_first, longer, GoesOnByOthers}
use Rattle.turn_lock.specs.Rule.{plain_view, AllBegin}

abbrev pub leaving : Stage → Stage
leaving Idle = Idle
leaving (Waiting t) = Waiting t
leaving (Holding t) = Leaving t
leaving (Leaving t) = Leaving t

abbrev pub tail_of : List ℕ → List ℕ
tail_of [] = []
tail_of (x ∷ xs) = xs

abbrev pub head_only : List ℕ → List ℕ
head_only [] = []
head_only (x ∷ xs) = x ∷ []

module _ {O E : Type 0} where
  abbrev pub staged : View O E → Stage → View O E
  staged v s = plain_view v.origin v.list v.numbers s v.turns

  abbrev pub with_numbers : View O E → List ℕ → View O E
  with_numbers v ns = plain_view v.origin v.list ns v.stage v.turns

  abbrev pub left_part : View O E → View O E
  left_part v = with_numbers v (tail_of v.numbers)

  abbrev pub right_part : View O E → View O E
  right_part v = plain_view v.origin v.list (head_only v.numbers) Idle 0

  abbrev pub front_of : View O E → Front O E
  front_of v = record { origin = v.origin; list = v.list; numbers = v.numbers }

  abbrev pub both_parts : View O E → View O E → View O E
  both_parts v w = record { origin = v.origin; list = longer v.list w.list; numbers = v.numbers ++ w.numbers; stage = v.stage; turns = v.turns; joined = front_of w ∷ front_of v ∷ [] }

  abbrev pub spent_part : View O E
  spent_part = plain_view None [] [] Idle 0

-- a seat at the table: its view, and the slots that it has
abbrev pub Sat : Type 0 → Type 0 → Type 0 → Type 0
Sat T O E = Me (Stored T E) (View O E)

module _ {T O E : Type 0} where
  abbrev pub DrewTicket : Step (Stored T E) → Sat T O E → ℕ → Sat T O E → Type 0
  DrewTicket st m r m' = (m'.1 ≡ m.1) × ((t : ℕ) × (m'.0 ≡ staged m.0 (Waiting t)) × (r ≡ t % 2 ^ 64))

  -- the turn came, with the value
  pub record Comes (stands : T → O → List E → Type 0) (maker : E → ℕ) (m : Sat T O E) (t : ℕ) (m' : Sat T O E) : Type 0 where
    pub stored : Stored T E
    pub value : T
    pub slot : m'.1 ≡ (0, stored) ∷ m.1
    pub is : stored.value ≡ Some value
    pub view : m'.0 ≡ plain_view m.0.origin stored.list.value m.0.numbers (Holding t) (m.0.turns + 1)
    pub seen : GoesOnByOthers maker m.0.numbers m.0.list stored.list.value
    pub stood : (o : O) → m.0.origin ≡ Some o → stands value o stored.list.value

  abbrev pub LookedAtServing : (T → O → List E → Type 0) → (E → ℕ) → Step (Stored T E) → Sat T O E → ℕ → Sat T O E → Type 0
  LookedAtServing stands maker st m r m' = (t : ℕ) → m.0.stage ≡ Waiting t → (r ≡ t % 2 ^ 64 → Comes stands maker m t m') × (¬ (r ≡ t % 2 ^ 64) → m' ≡ m)

  abbrev pub RaisedCount : Step (Stored T E) → Sat T O E → ℕ → Sat T O E → Type 0
  RaisedCount st m r m' = (k : ℕ) (x : Stored T E) (c : List (ℕ × Stored T E)) → m.1 ≡ (k, x) ∷ c
      → (m'.1 ≡ c) × (m'.0 ≡ plain_view m.0.origin x.list.value m.0.numbers (leaving m.0.stage) m.0.turns)

  abbrev pub ServedNext : Step (Stored T E) → Sat T O E → ℕ → Sat T O E → Type 0
  ServedNext st m r m' = (m'.1 ≡ m.1) × (m'.0 ≡ staged m.0 Idle)

  -- the count is the length of a list that begins with what was seen, and goes on by entries of others
  abbrev pub LookedAtCount : (E → ℕ) → Step (Stored T E) → Sat T O E → ℕ → Sat T O E → Type 0
  LookedAtCount maker st m r m' = (m' ≡ m) × ((list : List E) × GoesOnByOthers maker m.0.numbers m.0.list list × (r ≡ length list))

  abbrev pub BroughtNumber : Step (Stored T E) → Sat T O E → ℕ → Sat T O E → Type 0
  BroughtNumber st m r m' = (m'.1 ≡ m.1) × (m'.0 ≡ with_numbers m.0 (st.first ∷ without_first st.first m.0.numbers))

  abbrev pub LookedBack : (E → ℕ) → Step (Stored T E) → Sat T O E → ℕ → Sat T O E → Type 0
  LookedBack maker st m r m' = (m' ≡ (staged m.0 m.0.stage, m.1)) × AllBegin maker m.0.origin m.0.list m.0.joined
