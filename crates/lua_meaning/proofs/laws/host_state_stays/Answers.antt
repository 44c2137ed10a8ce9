use Rattle.lua_meaning.proofs.Growing.{nodes_stay, jobs_stay, program_stays}
use Rattle.lua_meaning.proofs.laws.host_state_stays.Goals as goal

pub returns-clause-nodes : goal.returns-clause-nodes
returns-clause-nodes g c = nodes_stay

pub returns-clause-jobs : goal.returns-clause-jobs
returns-clause-jobs g c = jobs_stay

pub returns-clause-programs : goal.returns-clause-programs
returns-clause-programs g c = λ host code fair keeps keep root args s start. program_stays host code fair root args s start keeps keep
