use Rattle.lua_runs.proofs.Going.{begins}
use Rattle.lua_runs.proofs.laws.program_begins.Goals as goal

pub returns : goal.returns
returns g c = begins
