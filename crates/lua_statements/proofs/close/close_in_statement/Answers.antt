use Rattle.std.specs.Prelude.{◌≡◌, true, false, Bool, []}
use Rattle.std.proofs.Common.{ap, ◌∙◌}
use Rattle.lua_ast.specs.Decode.{list_of}
use Rattle.lua_grammar.specs.Pushdown as pushdown
use Rattle.lua_parser_state.specs.declared.frame.OpenStatement.{OpenStatement}
use Rattle.lua_parser_state.specs.Shown.{tree_in, stack_in, begun_in, statement_in, attributes}
use Rattle.lua_parser_state.specs.Gave.{terminal_of}
use Rattle.lua_parser_state.proofs.Steps.{gave_as}
use Rattle.lua_statements.proofs.Others.{close_return_at}
use Rattle.lua_statements.proofs.close.close_in_statement.Goals as goal

pub returns-in-Return-clause-gave : goal.returns-in-Return-clause-gave
returns-in-Return-clause-gave c =
    let ns = c.args.parser.now.nodes in
    let t = tree_in ns c.args.had in
    let k = stack_in c.args.parser.now in
    let m = terminal_of c.args.kind in
    let l = c.in-Return.line in
    let es = list_of (tree_in ns) c.in-Return.exps in
    let b = begun_in ns c.in-Return.block in
    let f = statement_in ns c.args.statement in
    let g = pushdown.InReturn l es b in
    let same : f ≡ g = ap (λ (x : OpenStatement). statement_in ns x) c.in-Return.is in
    let at = λ (w : Bool). ap (λ (x : pushdown.Frame). pushdown.close x t k m (attributes w c.args.line c.args.slice.now)) same ∙ close_return_at w l es b t k m c.args.line 0 c.args.slice.now [] in
    gave_as (pushdown.close f t k m (attributes true c.args.line c.args.slice.now)) (pushdown.close g t k m (attributes true 0 []))
    (pushdown.close f t k m (attributes false c.args.line c.args.slice.now)) (pushdown.close g t k m (attributes false 0 [])) c.close_return.result c.close_return.new.parser
    (at true) (at false) c.close_return.ensures.gave
