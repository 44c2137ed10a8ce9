use Rattle.std.proofs.Common.{◌≡◌, length}
use Rattle.lua_meaning.specs.Numbers.{behind_blanks}
use Rattle.lua_ops.proofs.numbers.behind_blanks.Given as goal

abbrev pub invariant-loop-first : goal.invariant-loop-first
invariant-loop-first l = behind_blanks l.text ≡ behind_blanks l.rest

abbrev pub decreases-loop-first : goal.decreases-loop-first
decreases-loop-first l = length l.rest
