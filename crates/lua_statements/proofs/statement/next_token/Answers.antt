use Rattle.std.specs.Prelude.{true, false}
use Rattle.lua_grammar.specs.Signs.{token}
use Rattle.lua_grammar.specs.Pushdown as pushdown
use Rattle.lua_parser_state.specs.Shown.{stack_in, begun_in, attributes}
use Rattle.lua_statements.specs.Statements.{next_block}
use Rattle.lua_parser_state.proofs.Steps.{gave_as}
use Rattle.lua_statements.proofs.Others.{next_other}
use Rattle.lua_statements.proofs.statement.next_token.Goals as goal

pub returns-in_default-clause-gave : goal.returns-in_default-clause-gave
returns-in_default-clause-gave c =
    let b = (begun_in c.args.parser.now.nodes c.args.block) in
    let k = (stack_in c.args.parser.now) in
    let m = token c.args.kind in
    let l = c.args.line in
    let s = c.args.slice.now in
    gave_as (pushdown.next b k m (attributes true l s)) (next_block b k m (attributes true l s))
    (pushdown.next b k m (attributes false l s)) (next_block b k m (attributes false l s)) c.next_block.result c.next_block.new.parser
    (next_other b k c.args.kind (attributes true l s) c.in_default.not-Semicolon c.in_default.not-Name c.in_default.not-OpenParen c.in_default.not-DoubleColon c.in_default.not-Break c.in_default.not-Goto c.in_default.not-For c.in_default.not-Function c.in_default.not-Local c.in_default.not-Return)
    (next_other b k c.args.kind (attributes false l s) c.in_default.not-Semicolon c.in_default.not-Name c.in_default.not-OpenParen c.in_default.not-DoubleColon c.in_default.not-Break c.in_default.not-Goto c.in_default.not-For c.in_default.not-Function c.in_default.not-Local c.in_default.not-Return)
    (c.next_block.ensures.gave s)
