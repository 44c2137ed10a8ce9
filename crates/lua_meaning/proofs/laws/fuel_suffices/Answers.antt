use Rattle.lua_meaning.proofs.Growing.{nodes_end, jobs_end, program_ends}
use Rattle.lua_meaning.proofs.laws.fuel_suffices.Goals as goal

pub returns-clause-nodes : goal.returns-clause-nodes
returns-clause-nodes g c = nodes_end

pub returns-clause-jobs : goal.returns-clause-jobs
returns-clause-jobs g c = jobs_end

pub returns-clause-programs : goal.returns-clause-programs
returns-clause-programs g c = program_ends
