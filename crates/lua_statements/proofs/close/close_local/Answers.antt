use Rattle.std.specs.Prelude.{◌≡◌, true, false}
use Rattle.std.proofs.Common.{ap, sym, ◌∙◌}
use Rattle.lua_grammar.specs.Signs.{token}
use Rattle.lua_grammar.specs.Pushdown as pushdown
use Rattle.lua_parser_state.specs.Shown.{tree_in, stack_in, begun_in, attributes}
use Rattle.lua_parser_state.specs.Gave.{terminal_of}
use Rattle.lua_parser_state.proofs.Steps.{gave_as}
use Rattle.lua_ast.specs.Tree as tree
use Rattle.lua_ast.specs.Tree.{Trees}
use Rattle.lua_ast.specs.Decode.{list_of}
use Rattle.lua_ast.proofs.Growing.{list_of_push}
use Rattle.lua_grammar.specs.Signs.{Terminal, Attributes}
use Rattle.lua_statements.proofs.Others.{close_local_other}
use Rattle.lua_statements.proofs.close.close_local.Goals as goal

pub returns-in_default-token-clause-gave : goal.returns-in_default-token-clause-gave
returns-in_default-token-clause-gave c =
    let b = (begun_in c.args.parser.now.nodes c.args.block) in
    let k = (stack_in c.args.parser.now) in
    let l = c.args.own in
    let part = tree_in c.args.parser.now.nodes in
    let t = part c.args.had in
    let es = list_of part c.args.exps in
    let x = c.in-Some.token in
    let ns = c.args.names in
    let ts = list_of part c.push.new.self in
    let more : ts ≡ tree.snoc es t = ap (list_of part) c.in_ok-push.ensures.ok ∙ list_of_push part c.args.exps c.args.had in
    let same = λ (i : Attributes). ap (λ (m : Terminal). pushdown.close (pushdown.InLocal l ns es b) t k m i) (ap terminal_of c.in-Some.is) ∙ close_local_other l ns es b t k x i c.in_default-token.not-Comma
    ∙ ap (λ (us : Trees). pushdown.next (pushdown.add b (tree.Local 0 l ns us)) k (token x) i) (sym more) in
    let i = attributes true c.args.line c.args.slice.now in
    let j = attributes false c.args.line c.args.slice.now in
    gave_as (pushdown.close (pushdown.InLocal l ns es b) t k (terminal_of c.args.kind) i) (pushdown.next (pushdown.add b (tree.Local 0 l ns ts)) k (token x) i)
    (pushdown.close (pushdown.InLocal l ns es b) t k (terminal_of c.args.kind) j) (pushdown.next (pushdown.add b (tree.Local 0 l ns ts)) k (token x) j)
    c.next_after-in_default-token.result c.next_after-in_default-token.new.parser (same i) (same j) c.next_after-in_default-token.ensures.gave
