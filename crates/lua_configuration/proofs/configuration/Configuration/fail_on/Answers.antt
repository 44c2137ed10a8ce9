use Rattle.lua_meaning.specs.Runs.{attempt_text}
use Rattle.lua_meaning.specs.Operators.{op_fails}
use Rattle.lua_configuration.specs.contracts.configuration.Configuration.{the_view}
use Rattle.lua_configuration.proofs.Answered.{is_answer, failed}
use Rattle.lua_configuration.proofs.configuration.Configuration.fail_on.Goals as goal

pub returns : goal.returns
returns g c =
    let text = attempt_text c.args.what.now c.args.value.now in
    let op = op_fails c.args.lines.now text in
    let told = is_answer op c.self.inside.heap c.fails_on-answer.result c.fails_on-answer.new.heap c.fails_on-answer.ensures.answer in
    rw (← c.self.view_is) (failed (the_view c.self.inside) c.args.lines.now text c.ended.result c.fails_on-answer.new.heap (c.ended.ensures (op c.self.inside.heap) c.fails_on-answer.new.heap told))
