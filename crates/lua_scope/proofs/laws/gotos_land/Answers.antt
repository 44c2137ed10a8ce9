use Rattle.lua_scope.proofs.RefusedGotos.{goto_lands}
use Rattle.lua_scope.proofs.laws.gotos_land.Goals as goal

pub returns : goal.returns
returns c = λ text t k g loads there. goto_lands text t k g loads there
