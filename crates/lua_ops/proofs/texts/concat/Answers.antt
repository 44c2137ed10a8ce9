use Rattle.lua_meaning.specs.Numbers.{as_text}
use Rattle.lua_meaning.specs.Operators.{two_texts}
use Rattle.lua_ops.proofs.Concats.{concat_joined}
use Rattle.lua_ops.proofs.texts.concat.Goals as goal

pub returns-in-Ok-Some-clause-answer : goal.returns-in-Ok-Some-clause-answer
returns-in-Ok-Some-clause-answer g c = concat_joined (two_texts (as_text c.args.a.now) (as_text c.args.b.now)) c.as_slice.result.now c.in-Ok-Some.text.items c.args.a.now c.args.b.now c.args.lines.now c.args.heap.now c.join.new.heap c.join.result (rw c.in-Ok-Some.field-0-is at c.in-Ok-Some.ensures) c.as_slice.ensures.value c.join.ensures.answer
