use Rattle.std.proofs.Common.{arith, refl}
use Rattle.lua_lexer.proofs.QuotedSteps.{bytes_close, bytes_open, bytes_bad, bytes_byte, bytes_skip, bytes_end}
use Rattle.lua_lexer.proofs.quoted.quoted_value.Goals as goal
use Rattle.lua_lexer.proofs.quoted.quoted_value.Goals.{in-Byte+in_ok-push-in-Byte, in-Skip}

pub returns-in-Close : goal.returns-in-Close
returns-in-Close c = bytes_close _ _ _ _ _ _ _ _ c.loop-part-test.true c.behind.ensures.exact c.loop-part.invariant.0 c.in-Close.ensures.exact

pub returns-in-Unclosed : goal.returns-in-Unclosed
returns-in-Unclosed c = bytes_open _ _ _ _ _ _ _ _ c.loop-part-test.true c.behind.ensures.exact c.loop-part.invariant.0 c.in-Unclosed.ensures.exact

pub returns-in-Bad : goal.returns-in-Bad
returns-in-Bad c = bytes_bad _ _ _ _ _ _ _ _ c.loop-part-test.true c.behind.ensures.exact c.loop-part.invariant.0 c.in-Bad.ensures.exact

pub returns : goal.returns
returns c = bytes_end _ _ _ _ _ _ _ c.loop-part-test.false c.loop-part.invariant.0

pub loop-part-preserved : goal.loop-part-preserved
loop-part-preserved c = elim c.match-part_at.branch [
  | in-Byte+in_ok-push-in-Byte w ↦ rw (w.out-is, w.at-is, w.in_ok-push-in-Byte.ensures.items) (bytes_byte _ _ _ _ _ _ _ _ c.loop-part-test.true c.behind.ensures.exact c.loop-part.invariant.0 _ _ w.in-Byte.ensures.exact, omega arith, omega (arith, w.in-Byte.ensures.within, c.behind.ensures.len), refl)
  | in-Skip w ↦ rw (w.out-is, w.at-is) (bytes_skip _ _ _ _ _ _ _ _ c.loop-part-test.true c.behind.ensures.exact c.loop-part.invariant.0 _ w.in-Skip.ensures.exact, omega arith, omega (arith, w.in-Skip.ensures.within, c.behind.ensures.len), refl)
]
