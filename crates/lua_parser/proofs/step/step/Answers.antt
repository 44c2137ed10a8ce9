use Rattle.std.specs.Prelude.{true, false, Bool, []}
use Rattle.std.proofs.Common.{ap, ◌∙◌}
use Rattle.lua_grammar.specs.Signs.{token}
use Rattle.lua_grammar.specs.Pushdown as pushdown
use Rattle.lua_parser_state.specs.declared.state.State.{State}
use Rattle.lua_parser_state.specs.Shown.{stack_in, state_in, begun_in, attributes}
use Rattle.lua_parser_state.proofs.Steps.{gave_as}
use Rattle.lua_parser_state.proofs.Ends.{end_at}
use Rattle.lua_parser.proofs.step.step.Goals as goal

pub returns-in-BlockEnd-clause-gave : goal.returns-in-BlockEnd-clause-gave
returns-in-BlockEnd-clause-gave c =
    let ns = c.args.parser.now.nodes in
    let k = stack_in c.args.parser.now in
    let m = token c.args.kind in
    let t = pushdown.block_of (begun_in ns c.in-BlockEnd.block) in
    let s = state_in ns k c.args.state in
    let at = λ (w : Bool). ap (λ (x : State). pushdown.step_from (state_in ns k x) m (attributes w c.args.here c.args.slice.now)) c.in-BlockEnd.is ∙ end_at w k t m c.args.here 0 c.args.slice.now [] in
    gave_as (pushdown.step_from s m (attributes true c.args.here c.args.slice.now)) (pushdown.end_block k t m (attributes true 0 []))
    (pushdown.step_from s m (attributes false c.args.here c.args.slice.now)) (pushdown.end_block k t m (attributes false 0 [])) c.end_block.result c.end_block.new.parser
    (at true) (at false) c.end_block.ensures.gave
