-- A machine as contracts see it, and what it makes of a program.
use Rattle.std.specs.Prelude.{◌≡◌, ◌+◌, Bool, false, List, [], length}
use Rattle.lua_ast.specs.Decode.{ChunkNodes, tree, own_number}
use Rattle.lua_meaning.specs.declared.value.Value.{Value}
use Rattle.lua_meaning.specs.Heap.{HeapOf}
use Rattle.lua_meaning.specs.Store.{State, store, none, Result}
use Rattle.lua_meaning.specs.Calls.{body_call}
use Rattle.lua_meaning.specs.Jobs.{HostOf}
use Rattle.lua_meaning.specs.Programs.{program}
use Rattle.lua_coroutines.specs.Threads.{ThreadsOf}
use Rattle.lua_coroutines.specs.Hosts.{state_with}
use Rattle.lua_code.specs.CodeOf.{code_of}
use Rattle.lua_steps.specs.Configuration.{Configuration}

-- what its program made, its coroutines, its host, and whether a program was begun
pub record MachineOf (S : Type 0) : Type 0 where
  pub heap : HeapOf
  pub coroutines : ThreadsOf
  pub host : S
  pub has_run : Bool

-- what its host sees, where `world` tells the state that the host is in
abbrev pub seen_state : {S W : Type 0} → (S → W) → MachineOf S → State W
seen_state world m = state_with m.heap m.coroutines (world m.host)

-- what the program of this chunk comes to, with these arguments, from this state on
abbrev pub meant : {W : Type 0} → HostOf W → ChunkNodes → List Value → State W → Result W
meant host c args w = program host (code_of c) (tree own_number c.nodes c.root) args (store w 0 (body_call [] args [] false) none)

-- Nothing is to be gone on with, no call waits, and the coroutines are those of the heap.
pub record IsFresh (x : Configuration) (t : ThreadsOf) : Type 0 where
  pub below : x.below ≡ 0
  pub frames : x.frames ≡ []
  pub coroutines : length t.threads ≡ x.heap.threads + 1
