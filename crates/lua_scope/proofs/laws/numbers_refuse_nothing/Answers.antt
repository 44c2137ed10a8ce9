use Rattle.lua_scope.proofs.PlainRefusals.{numbers_refuse_nothing}
use Rattle.lua_scope.proofs.laws.numbers_refuse_nothing.Goals as goal

pub returns : goal.returns
returns c = λ t. numbers_refuse_nothing t
