use Rattle.std.proofs.Common.{◌∷◌, [], subst}
use Rattle.lua_meaning.specs.Operators.{binary_op}
use Rattle.lua_ops.specs.Answers.{IsOpAnswer}
use Rattle.lua_steps.specs.Parts.{line_number}
use Rattle.lua_configuration.proofs.Operated.{binary_is_answer}
use Rattle.lua_configuration.proofs.configuration.Configuration.binary.Goals as goal

pub returns : goal.returns
returns g c =
    let line = line_number c.args.chunk.now.nodes c.args.node in
    let rest = c.self.inside.call.lines in
    let op = c.binary_op-op.result in
    let given = subst (λ l. IsOpAnswer (binary_op op c.args.left c.args.right (l ∷ [])) c.self.inside.heap c.binary_answer-answer.result c.binary_answer-answer.new.heap) c.line_number-line.ensures c.binary_answer-answer.ensures in
    let told = binary_is_answer c.self.inside.heap line rest op c.args.left c.args.right c.binary_answer-answer.result c.binary_answer-answer.new.heap given in
    rw (← c.binary_op-op.ensures) (rw (← c.self.view_is) (c.operated.ensures (binary_op op c.args.left c.args.right (line ∷ rest) c.self.inside.heap) told))
