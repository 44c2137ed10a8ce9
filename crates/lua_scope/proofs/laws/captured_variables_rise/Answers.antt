use Rattle.lua_scope.proofs.Rising.{captured_increasing}
use Rattle.lua_scope.proofs.laws.captured_variables_rise.Goals as goal

pub returns : goal.returns
returns c = λ h f. captured_increasing h f
