-- What a host may do in a call: it adds to the heap and to the coroutines, and keeps the limits and what was used.
use Rattle.std.specs.Prelude.{◌≡◌, ◌≤◌, ℕ, ◌+◌, List, ◌++◌, length, All, ⊤}
use Rattle.lua_meaning.specs.declared.builtin.Builtin.{Builtin}
use Rattle.lua_meaning.specs.declared.value.Value.{Value}
use Rattle.lua_meaning.specs.Heap.{HeapOf}
use Rattle.lua_meaning.specs.Store.{State, ThreadOf}
use Rattle.lua_meaning.specs.Jobs.{Answer, HostOf, Values, Raise, Stopped, CallThen, Resume, Yield}
use Rattle.lua_coroutines.specs.Threads.{ThreadsOf}
use Rattle.lua_values.specs.Ids.{Ids, ids_of, AreLater, IsOf}

-- every number of the answer is of the heap
abbrev pub IsOfHeap : Ids → Answer → Type 0
IsOfHeap ids (Values vs) = All (IsOf ids) vs
IsOfHeap ids (Raise v) = IsOf ids v
IsOfHeap ids (Stopped s) = ⊤
IsOfHeap ids (CallThen f args after) = IsOf ids f × All (IsOf ids) args
IsOfHeap ids (Resume i args wrapped) = (i ≤ ids.threads) × All (IsOf ids) args
IsOfHeap ids (Yield vs) = All (IsOf ids) vs

module _ {W : Type 0} where
  -- a heap, coroutines and a host's state together
  abbrev pub state_with : HeapOf → ThreadsOf → W → State W
  state_with h t w = record { heap = h; threads = t.threads; running = t.running; host = w }

  pub record AddsOnly (before after : State W) : Type 0 where
    pub instructions : before.heap.used.most_instructions ≡ after.heap.used.most_instructions
    pub bytes : before.heap.used.most_bytes ≡ after.heap.used.most_bytes
    pub used : before.heap.used.instructions ≤ after.heap.used.instructions
    pub closures : before.heap.closures ≡ after.heap.closures
    pub ids : AreLater (ids_of before.heap) (ids_of after.heap)
    pub running : before.running ≡ after.running
    pub threads : List ThreadOf
    pub added : after.threads ≡ before.threads ++ threads

  pub record IsLawfulHost (host : HostOf W) : Type 0 where
    pub call : (id : Builtin) (args : List Value) (lines : List ℕ) (s : State W) → AddsOnly s (host.call id args lines s).1
    pub step : (iter : ℕ) (args : List Value) (lines : List ℕ) (s : State W) → AddsOnly s (host.step iter args lines s).1
