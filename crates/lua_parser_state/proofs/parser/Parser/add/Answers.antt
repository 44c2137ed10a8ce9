use Rattle.std.specs.Prelude.{◌≡◌, length}
use Rattle.std.proofs.Common.{ap, ◌∙◌, sym, subst}
use Rattle.lua_ast.specs.Decode.{no_number}
use Rattle.lua_parser_state.specs.Shown.{Held, stack_in, begun_in, BegunBelow}
use Rattle.lua_parser_state.proofs.Nodes.{below_frames, grown, same_begun, same_stack}
use Rattle.lua_parser_state.proofs.parser.Parser.add.Goals as goal

pub invariant_of-self : goal.invariant_of-self
invariant_of-self c =
    below_frames (length c.self.inside.nodes) (length c.push.new.self)
    (grown c.push.result c.self.inside.nodes c.push.new.self (record { node = c.args.node; line = c.args.line }) c.push.ensures.nodes c.push.ensures.err)
    c.self.inside.stack c.self.invariant

pub invariant_of-self-2 : goal.invariant_of-self-2
invariant_of-self-2 c =
    below_frames (length c.self.inside.nodes) (length c.push.new.self)
    (grown c.push.result c.self.inside.nodes c.push.new.self (record { node = c.args.node; line = c.args.line }) c.push.ensures.nodes c.push.ensures.err)
    c.self.inside.stack c.self.invariant

pub returns-clause-stack : goal.returns-clause-stack
returns-clause-stack c = same_stack c.self.inside.nodes c.push.new.self c.self.inside.stack (λ i h. c.in_ok-push.ensures.older no_number i h) c.self.invariant ∙ ap stack_in c.self.view_is

pub returns-clause-begun : goal.returns-clause-begun
returns-clause-begun c = λ b h.
    let e : c.self.inside.nodes ≡ c.args.self.now.nodes = ap (λ (v : Held). v.nodes) c.self.view_is in
    same_begun c.self.inside.nodes c.push.new.self (λ i h. c.in_ok-push.ensures.older no_number i h) b (subst (λ ns. BegunBelow (length ns) b) (sym e) h) ∙ ap (λ ns. begun_in ns b) e
