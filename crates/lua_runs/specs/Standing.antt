-- A machine that runs a program stands for the program's outcome, from its beginning to its end.
use Rattle.std.specs.Prelude.{◌≡◌, ℕ, suc, ◌+◌, false, ⊤, List, [], ◌∷◌, length}
use Rattle.zc_budget.specs.Used.{IsWithin}
use Rattle.lua_ast.specs.declared.node.LinedNode.{LinedNode}
use Rattle.lua_meaning.specs.declared.value.Value.{Value}
use Rattle.lua_meaning.specs.Heap.{HeapOf}
use Rattle.lua_meaning.specs.Store.{Store, store, Resumptions, none, Result, Halt, Breaks, Jumps, Returns}
use Rattle.lua_meaning.specs.Code.{Code}
use Rattle.lua_meaning.specs.Jobs.{HostOf}
use Rattle.lua_meaning.specs.Calls.{body_call}
use Rattle.lua_values.specs.Ids.{ids_of}
use Rattle.lua_coroutines.specs.Threads.{ThreadsOf}
use Rattle.lua_coroutines.specs.Hosts.{state_with}
use Rattle.lua_coroutines.specs.declared.frame.Frame.TheVariants as frame
use Rattle.lua_coroutines.specs.declared.frame.BodyFrame.TheVariants as body
use Rattle.lua_steps.specs.declared.mode.Mode.TheVariants as mode
use Rattle.lua_steps.specs.Configuration.{Configuration, Next}
use Rattle.lua_steps.specs.Works.{Works}
use Rattle.lua_steps.specs.Own.{IsOwnMode, AreOfHeap}

-- before the first step: the main chunk, whose `...` are the arguments
abbrev pub beginning : HeapOf → (root : ℕ) → List Value → Next
beginning h root args = (mode.Begin root, record { heap = h; below = 0; call = body_call [] args [] false; frames = frame.Body (body.Caller (body_call [] args [] false)) ∷ [] })

-- the store of a machine, where no coroutine was resumed
abbrev pub machine_store : {H : Type 0} → Configuration → ThreadsOf → H → Store H
machine_store x t w = store (state_with x.heap t w) x.below x.call none

-- how the body of a function can end: by no return, break or jump
abbrev pub EndsBody : {H : Type 0} → Result H → Type 0
EndsBody (Halt (Returns vs) s r) = ⊥
EndsBody (Halt Breaks s r) = ⊥
EndsBody (Halt (Jumps x) s r) = ⊥
EndsBody o = ⊤

module _ {H : Type 0} (host : HostOf H) (code : Code) (nodes : List LinedNode) where
  -- From here the machine goes on to this outcome, with one more than the limit as fuel for resumptions. `t` and `w` are its coroutines and its host's state.
  pub record StandsFor (t : ThreadsOf) (w : H) (o : Result H) (y : Next) : Type 0 where
    pub whole : ℕ → Resumptions H → Result H
    pub works : Works host code nodes 0 (machine_store y.1 t w) y.1.frames y.0 whole
    pub outcome : whole (suc y.1.heap.used.most_instructions) none ≡ o
    pub ends : EndsBody o

  -- It stands for this outcome, passed no limit, and holds numbers of its heap alone, which has all its coroutines.
  pub record IsRunning (t : ThreadsOf) (w : H) (o : Result H) (y : Next) : Type 0 where
    pub stands : StandsFor t w o y
    pub within : IsWithin y.1.heap.used
    pub mode : IsOwnMode (ids_of y.1.heap) y.0
    pub held : AreOfHeap (ids_of y.1.heap) y.1.call y.1.frames
    pub threads : length t.threads ≡ y.1.heap.threads + 1
