use Rattle.lua_meaning.proofs.Operating.{binary_alone, unary_alone}
use Rattle.lua_meaning.proofs.laws.operators_change_used_alone.Goals as goal

pub returns-clause-binary : goal.returns-clause-binary
returns-clause-binary c = binary_alone

pub returns-clause-unary : goal.returns-clause-unary
returns-clause-unary c = unary_alone
