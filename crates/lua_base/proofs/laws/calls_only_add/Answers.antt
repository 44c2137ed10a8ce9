use Rattle.lua_base.proofs.AddingCalls.{base_adds}
use Rattle.lua_base.proofs.laws.calls_only_add.Goals as goal

pub returns : goal.returns
returns c = base_adds
