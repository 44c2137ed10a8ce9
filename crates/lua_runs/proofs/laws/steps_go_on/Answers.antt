use Rattle.lua_runs.proofs.Going.{goes_on, lowers}
use Rattle.lua_runs.proofs.laws.steps_go_on.Goals as goal

pub returns-clause-runs : goal.returns-clause-runs
returns-clause-runs g c = λ host code nodes t w o y trees functions own alone running. goes_on host code nodes t w o y trees functions alone running own

pub returns-clause-lowers : goal.returns-clause-lowers
returns-clause-lowers g c = λ host code nodes t w o y trees functions alone on running. lowers host code nodes t w o y trees functions alone running on
