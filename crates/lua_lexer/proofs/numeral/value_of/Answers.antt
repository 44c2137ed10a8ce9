use Rattle.lua_lexer.proofs.NumeralSteps.{value_stops, value_ends}
use Rattle.lua_lexer.proofs.numeral.value_of.Goals as goal

pub returns-then-value-digit_of : goal.returns-then-value-digit_of
returns-then-value-digit_of c = value_stops c.args.base c.loop-b.value c.loop-b.b-index _ c.args.digits.now c.requires c.loop-b-test.true (rw c.digit_of.ensures.value at c.if-value-digit_of.true) c.loop-b.invariant.0

pub returns : goal.returns
returns c = value_ends _ _ _ _ _ c.loop-b-test.false c.loop-b.invariant.1 c.loop-b.invariant.0
