use Rattle.lua_meaning.proofs.Growing.{operators_end, unary_operators_end, looks_end, puts_end}
use Rattle.lua_meaning.proofs.laws.fuel_suffices_for_steps.Goals as goal

pub returns-clause-binary_operators : goal.returns-clause-binary_operators
returns-clause-binary_operators g c = operators_end

pub returns-clause-unary_operators : goal.returns-clause-unary_operators
returns-clause-unary_operators g c = unary_operators_end

pub returns-clause-looks : goal.returns-clause-looks
returns-clause-looks g c = looks_end

pub returns-clause-stores : goal.returns-clause-stores
returns-clause-stores g c = puts_end
