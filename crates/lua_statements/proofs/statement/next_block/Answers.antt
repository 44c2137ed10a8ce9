use Rattle.std.specs.Prelude.{true, false, []}
use Rattle.std.proofs.Common.{◌∙◌}
use Rattle.lua_grammar.specs.Signs.{token}
use Rattle.lua_grammar.specs.Pushdown as pushdown
use Rattle.lua_parser_state.specs.Shown.{stack_in, begun_in, attributes}
use Rattle.lua_statements.specs.Statements.{next_block}
use Rattle.lua_parser_state.proofs.Steps.{gave_as}
use Rattle.lua_statements.proofs.Others.{next_block_other}
use Rattle.lua_parser_state.proofs.Ends.{end_at}
use Rattle.lua_statements.proofs.statement.next_block.Goals as goal

pub returns-in_default-clause-gave : goal.returns-in_default-clause-gave
returns-in_default-clause-gave c =
    let b = (begun_in c.args.parser.now.nodes c.args.block) in
    let k = (stack_in c.args.parser.now) in
    let t = pushdown.block_of b in
    let m = token c.args.kind in
    let l = c.args.line in
    λ s. gave_as (next_block b k m (attributes true l s)) (pushdown.end_block k t m (attributes true 0 []))
    (next_block b k m (attributes false l s)) (pushdown.end_block k t m (attributes false 0 [])) c.end_block.result c.end_block.new.parser
    (next_block_other b k c.args.kind (attributes true l s) c.in_default.not-Do c.in_default.not-While c.in_default.not-Repeat c.in_default.not-If ∙ end_at true k t m l 0 s [])
    (next_block_other b k c.args.kind (attributes false l s) c.in_default.not-Do c.in_default.not-While c.in_default.not-Repeat c.in_default.not-If ∙ end_at false k t m l 0 s [])
    c.end_block.ensures.gave
