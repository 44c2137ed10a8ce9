-- The locals of the call in progress (Lua 5.2 manual, 3.2 and 3.5). A local that some inner function captures is shared with it and costs memory; another one lives in the call, at no cost.
use Rattle.std.specs.Prelude.{ℕ, zero, suc, ◌+◌, ◌==◌, Bool, true, false, List, [], ◌∷◌, ◌++◌, length, take, drop, map, find, Option, Some, None, option_map, slice_set}
use Rattle.std.specs.List.{position}
use Rattle.lua_meaning.specs.declared.value.Value.{Value}
use Rattle.lua_meaning.specs.declared.value.Value.TheVariants as value
use Rattle.lua_meaning.specs.declared.variable.Slot.{Slot}
use Rattle.lua_meaning.specs.declared.variable.Slot.TheVariants as slot
use Rattle.lua_meaning.specs.Values.{first}
use Rattle.lua_meaning.specs.Heap.{cell_at, entry}
use Rattle.lua_meaning.specs.Store.{Store, call_of, with_call, heap_of}
use Rattle.lua_meaning.specs.Code.{Code}
use Rattle.lua_meaning.specs.Runs.{Run, new_cell}

abbrev pub Locals : Type 0
Locals = List (ℕ × Slot)

-- where the variable of this number lives
abbrev pub slot_of : Locals → ℕ → Option Slot
slot_of ls v = option_map (λ l. l.1) (find (λ l. l.0 == v) ls)

abbrev pub held_at : Option ℕ → Locals → ℕ → Value → Locals
held_at None ls v x = ls
held_at (Some i) ls v x = slice_set ls i (v, slot.Held x)

-- with another value in a variable that lives in the call
abbrev pub with_held : Locals → ℕ → Value → Locals
with_held ls v x = held_at (position (λ l. l.0 == v) ls) ls v x

-- the shared variable of a local that some function captures
abbrev pub cell_in : Option Slot → Option ℕ
cell_in (Some (slot.Cell i)) = Some i
cell_in _ = None

abbrev pub with_front : Option ℕ → Option (List ℕ) → Option (List ℕ)
with_front (Some i) (Some is) = Some (i ∷ is)
with_front _ _ = None

-- what a function captures: the shared variables of these locals; none where one of them isn't shared, as in no text
abbrev pub cells_in : Locals → List ℕ → Option (List ℕ)
cells_in ls [] = Some []
cells_in ls (v ∷ vs) = with_front (cell_in (slot_of ls v)) (cells_in ls vs)

-- the locals that a body has from outside
abbrev pub captured_locals : List ℕ → List ℕ → Locals
captured_locals [] is = []
captured_locals (v ∷ vs) [] = []
captured_locals (v ∷ vs) (i ∷ is) = (v, slot.Cell i) ∷ captured_locals vs is

module _ {H : Type 0} where
  abbrev pub locals_of : Store H → Locals
  locals_of s = (call_of s).locals

  abbrev pub with_locals : Locals → Store H → Store H
  with_locals ls s = with_call (record (call_of s) { locals = ls }) s

  abbrev pub local_count : Store H → ℕ
  local_count s = length (locals_of s)

  -- the first n locals stay
  abbrev pub cut : ℕ → Store H → Store H
  cut n s = with_locals (take n (locals_of s)) s

  abbrev pub with_local : ℕ → Slot → Store H → Store H
  with_local v slot s = with_locals (locals_of s ++ (v, slot) ∷ []) s

  abbrev pub slot_value : Option Slot → Store H → Value
  slot_value (Some (slot.Held x)) s = x
  slot_value (Some (slot.Cell i)) s = cell_at (heap_of s) i
  slot_value None s = value.Nil

  -- what a name stands for: a local, or a field of the globals
  abbrev pub named : Option ℕ → List ℕ → Store H → Value
  named None name s = entry (heap_of s) 0 (value.Text name)
  named (Some v) name s = slot_value (slot_of (locals_of s) v) s

  -- one more local with this value, and then `k`
  abbrev pub declare_by : Bool → ℕ → Value → Run H → Run H
  declare_by true v x k = new_cell x (λ i s. k (with_local v (slot.Cell i) s))
  declare_by false v x k = λ s. k (with_local v (slot.Held x) s)

module _ {H : Type 0} (code : Code) where
  abbrev pub declare : ℕ → Value → Run H → Run H
  declare v x k = declare_by (code.is_captured v) v x k

  -- n variables from v on, the values adjusted to them
  abbrev pub declare_all : (v n : ℕ) → List Value → Run H → Run H
  declare_all v zero xs k = k
  declare_all v (suc n) xs k = declare v (first xs) (declare_all (v + 1) n (drop 1 xs) k)
