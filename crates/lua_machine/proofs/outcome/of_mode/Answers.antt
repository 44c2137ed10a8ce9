use Rattle.lua_machine.proofs.Endings.{no_outcome}
use Rattle.lua_machine.proofs.outcome.of_mode.Goals as goal

pub returns : goal.returns
returns c = no_outcome c.args.mode c.in_default.not-Give c.in_default.not-Raise c.in_default.not-Stopped
