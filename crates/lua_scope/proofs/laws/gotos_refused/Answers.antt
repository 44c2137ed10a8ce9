use Rattle.lua_scope.proofs.RefusedGotos.{nowhere_goto, over_goto, none_lacks, none_enters}
use Rattle.lua_scope.proofs.laws.gotos_refused.Goals as goal

pub returns-clause-nowhere : goal.returns-clause-nowhere
returns-clause-nowhere c = λ text t l is e. nowhere_goto text t l is e

pub returns-clause-over : goal.returns-clause-over
returns-clause-over c = λ text t l is e. over_goto text t l is e

pub returns-clause-lacks : goal.returns-clause-lacks
returns-clause-lacks c = λ text t l loads g. none_lacks text t l loads g

pub returns-clause-enters : goal.returns-clause-enters
returns-clause-enters c = λ text t l loads g. none_enters text t l loads g
