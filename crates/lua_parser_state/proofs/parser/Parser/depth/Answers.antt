use Rattle.std.proofs.Common.{ap, ◌∙◌}
use Rattle.lua_grammar.specs.Pushdown.{depth}
use Rattle.lua_parser_state.specs.Shown.{Held, stack_in}
use Rattle.lua_parser_state.proofs.Nodes.{depth_stack}
use Rattle.lua_parser_state.proofs.parser.Parser.depth.Goals as goal

pub returns : goal.returns
returns c =
    let h : Held = record { nodes = c.self.inside.nodes; frames = c.self.inside.stack } in
    c.depth.ensures ∙ depth_stack h ∙ ap (λ (v : Held). depth (stack_in v)) c.self.view_is
