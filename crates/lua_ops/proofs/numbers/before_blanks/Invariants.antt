use Rattle.std.proofs.Common.{◌≡◌, length}
use Rattle.lua_ops.specs.Texts.{before_blanks}
use Rattle.lua_ops.proofs.numbers.before_blanks.Given as goal

abbrev pub invariant-loop-last : goal.invariant-loop-last
invariant-loop-last l = before_blanks l.text ≡ before_blanks l.rest

abbrev pub decreases-loop-last : goal.decreases-loop-last
decreases-loop-last l = length l.rest
