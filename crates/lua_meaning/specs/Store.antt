-- What a program works on: the heap, the coroutines, the call in progress and the resumptions so far. And how its parts end.
use Rattle.std.specs.Prelude.{ℕ, ◌==◌, Bool, List, if◌then◌else◌}
use Rattle.zc_budget.specs.declared.budget.Stop.{Stop}
use Rattle.lua_meaning.specs.declared.value.Value.{Value}
use Rattle.lua_meaning.specs.declared.status.CoStatus.{CoStatus}
use Rattle.lua_meaning.specs.declared.variable.Slot.{Slot}
use Rattle.lua_meaning.specs.Heap.{HeapOf}

-- a coroutine (Lua 5.2 manual, 2.6)
pub record ThreadOf : Type 0 where
  pub function : Value
  pub status : CoStatus

-- What a host sees and may change: what the program made, its coroutines, which of them runs, and the host's own state. Coroutine 0 is the main thread.
pub record State (H : Type 0) : Type 0 where
  pub heap : HeapOf
  pub threads : List ThreadOf
  pub running : ℕ
  pub host : H

-- the call in progress
pub record CallOf : Type 0 where
  -- its locals in scope by number, the oldest first
  pub locals : List (ℕ × Slot)
  -- what `...` stands for
  pub varargs : List Value
  -- the lines at which the calls of its coroutine were made, the last first
  pub lines : List ℕ
  -- a built-in that no yield may cross waits for one of these calls
  pub across : Bool

mutual
  -- `below` counts the calls in progress of the coroutines that wait for the running one
  pub data Store (H : Type 0) : Type 0 where
    store : (state : State H) (below : ℕ) (call : CallOf) (resumptions : Resumptions H) → Store H

  -- the resumptions so far, in order: the coroutine, the store with it running, and the values handed to it
  pub data Resumptions (H : Type 0) : Type 0 where
    none : Resumptions H
    resumed : (thread : ℕ) → Store H → List Value → Resumptions H → Resumptions H

-- how a part of a program ends before its end
pub data Ending : Type 0 where
  Breaks : Ending
  Jumps : (label : List ℕ) → Ending
  Returns : List Value → Ending
  Raises : Value → Ending
  Stops : Stop → Ending
  Yields : List Value → Ending
  OutOfFuel : Ending

-- How a run ends: at its end, with values, or before. The last part is what a rerun has still to use of the resumptions.
pub data Result (H : Type 0) : Type 0 where
  Go : List Value → Store H → Resumptions H → Result H
  Halt : Ending → Store H → Resumptions H → Result H

module _ {H : Type 0} where
  abbrev pub state_of : Store H → State H
  state_of (store w below call rs) = w

  abbrev pub below_of : Store H → ℕ
  below_of (store w below call rs) = below

  abbrev pub call_of : Store H → CallOf
  call_of (store w below call rs) = call

  abbrev pub resumptions_of : Store H → Resumptions H
  resumptions_of (store w below call rs) = rs

  abbrev pub with_state : State H → Store H → Store H
  with_state w (store _ below call rs) = store w below call rs

  abbrev pub with_call : CallOf → Store H → Store H
  with_call call (store w below _ rs) = store w below call rs

  abbrev pub heap_of : Store H → HeapOf
  heap_of s = (state_of s).heap

  abbrev pub with_heap : HeapOf → Store H → Store H
  with_heap h (store w below call rs) = store (record w { heap = h }) below call rs

  -- one resumption more
  abbrev pub and_then : Resumptions H → ℕ → Store H → List Value → Resumptions H
  and_then none i s vs = resumed i s vs none
  and_then (resumed j t ws rs) i s vs = resumed j t ws (and_then rs i s vs)

  -- those of one coroutine
  abbrev pub of_thread : ℕ → Resumptions H → Resumptions H
  of_thread i none = none
  of_thread i (resumed j s vs rs) = if j == i then resumed j s vs (of_thread i rs) else of_thread i rs
