use Rattle.std.proofs.Common.{arith}
use Rattle.lua_ops.proofs.Digits.{passed_range}
use Rattle.lua_ops.proofs.numbers.number_of.Goals as goal

pub returns-then-next-clause-value : goal.returns-then-next-clause-value
returns-then-next-clause-value c = passed_range c.args.base c.loop-byte.number c.loop-byte.byte-index c.args.digits.now c.loop-byte-test.true c.loop-byte.invariant.0 (omega (arith, c.if-digit-base.false, c.digit-digit.ensures.value)) c.requires.0 (omega (arith, c.if-next.true, c.digit-digit.ensures.value))
