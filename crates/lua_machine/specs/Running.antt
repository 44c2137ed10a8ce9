-- A machine at work towards the outcome of its program.
use Rattle.lua_ast.specs.Decode.{ChunkNodes}
use Rattle.lua_meaning.specs.Store.{State, Result}
use Rattle.lua_meaning.specs.Jobs.{HostOf}
use Rattle.lua_code.specs.CodeOf.{code_of}
use Rattle.lua_coroutines.specs.Hosts.{state_with}
use Rattle.lua_steps.specs.declared.mode.Mode.{Mode}
use Rattle.lua_runs.specs.Standing.{IsRunning}
use Rattle.lua_machine.specs.declared.parts.Parts.{Parts}

-- what the host of a machine sees
abbrev pub state_at_work : {S W : Type 0} → (S → W) → Parts S → State W
state_at_work world p = state_with p.configuration.heap p.coroutines (world p.host)

-- The machine runs the program of this chunk, and goes on in this mode to this outcome.
abbrev pub Runs : {S W : Type 0} → HostOf W → (S → W) → ChunkNodes → Result W → Mode → Parts S → Type 0
Runs meaning world c o b p = IsRunning meaning (code_of c) c.nodes p.coroutines (world p.host) o (b, p.configuration)
