use Rattle.std.proofs.Common.{rules}
use Rattle.std.specs.Int.{int_wrap}
use Rattle.lua_transitions.proofs.loops.number_next.Goals as goal

pub returns-in-None : goal.returns-in-None
unfolding int_wrap
returns-in-None c = search rules

pub returns-in-Some : goal.returns-in-Some
unfolding int_wrap
returns-in-Some c = search rules
