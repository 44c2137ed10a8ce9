use Rattle.lua_meaning.proofs.Growing.{nodes_grow, jobs_grow, program_grows}
use Rattle.lua_meaning.proofs.laws.used_grows.Goals as goal

pub returns-clause-nodes : goal.returns-clause-nodes
returns-clause-nodes g c = nodes_grow

pub returns-clause-jobs : goal.returns-clause-jobs
returns-clause-jobs g c = jobs_grow

pub returns-clause-programs : goal.returns-clause-programs
returns-clause-programs g c = program_grows
