use Rattle.std.proofs.Common.{◌∷◌, [], subst}
use Rattle.lua_meaning.specs.Operators.{unary_op}
use Rattle.lua_ops.specs.Answers.{IsOpAnswer}
use Rattle.lua_steps.specs.Parts.{line_number}
use Rattle.lua_configuration.proofs.Operated.{unary_is_answer}
use Rattle.lua_configuration.proofs.configuration.Configuration.unary.Goals as goal

pub returns : goal.returns
returns g c =
    let line = line_number c.args.chunk.now.nodes c.args.node in
    let rest = c.self.inside.call.lines in
    let op = c.unary_op-op.result in
    let given = subst (λ l. IsOpAnswer (unary_op op c.args.operand (l ∷ [])) c.self.inside.heap c.unary_answer-answer.result c.unary_answer-answer.new.heap) c.line_number-line.ensures c.unary_answer-answer.ensures in
    let told = unary_is_answer c.self.inside.heap line rest op c.args.operand c.unary_answer-answer.result c.unary_answer-answer.new.heap given in
    rw (← c.unary_op-op.ensures) (rw (← c.self.view_is) (c.operated.ensures (unary_op op c.args.operand (line ∷ rest) c.self.inside.heap) told))
