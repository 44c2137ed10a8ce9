use Rattle.std.proofs.Common.{arith}
use Rattle.lua_lexer.proofs.QuotedSteps.{quoted_byte, quoted_skip}
use Rattle.lua_lexer.proofs.quoted.quoted.Goals as goal
use Rattle.lua_lexer.proofs.quoted.quoted.Goals.{in-Byte, in-Skip}

pub loop-part-preserved : goal.loop-part-preserved
loop-part-preserved c = elim c.match-part_at.branch [
  | in-Byte w ↦ rw w.at-is (quoted_byte _ _ _ _ _ _ _ c.loop-part-test.true c.behind.ensures.exact c.loop-part.invariant.0 _ _ w.in-Byte.ensures.exact, omega arith, omega (arith, w.in-Byte.ensures.within, c.behind.ensures.len))
  | in-Skip w ↦ rw w.at-is (quoted_skip _ _ _ _ _ _ _ c.loop-part-test.true c.behind.ensures.exact c.loop-part.invariant.0 _ w.in-Skip.ensures.exact, omega arith, omega (arith, w.in-Skip.ensures.within, c.behind.ensures.len))
]
