use Rattle.lua_runs.proofs.Outcomes.{outcome, fuel_suffices}
use Rattle.lua_runs.proofs.laws.runs_end.Goals as goal

pub returns-clause-outcome : goal.returns-clause-outcome
returns-clause-outcome g c = outcome

pub returns-clause-fuel : goal.returns-clause-fuel
returns-clause-fuel g c = fuel_suffices
