use Rattle.std.specs.Prelude.{◌≡◌, true, false}
use Rattle.std.proofs.Common.{ap, sym, ◌∙◌}
use Rattle.lua_grammar.specs.Signs.{token}
use Rattle.lua_grammar.specs.Pushdown as pushdown
use Rattle.lua_parser_state.specs.Shown.{tree_in, stack_in, begun_in, attributes}
use Rattle.lua_parser_state.specs.Gave.{terminal_of}
use Rattle.lua_parser_state.proofs.Steps.{gave_as}
use Rattle.lua_ast.specs.Tree as tree
use Rattle.lua_ast.specs.Tree.{Trees}
use Rattle.lua_ast.specs.Decode.{list_of}
use Rattle.lua_grammar.specs.Signs.{Terminal, Attributes}
use Rattle.lua_parser_state.proofs.Lists.{list_of_none}
use Rattle.lua_statements.proofs.Others.{local_names_other}
use Rattle.lua_statements.proofs.declaration.local_names.Goals as goal

pub returns-in_default-token-clause-gave : goal.returns-in_default-token-clause-gave
returns-in_default-token-clause-gave c =
    let b = (begun_in c.args.parser.now.nodes c.args.block) in
    let k = (stack_in c.args.parser.now) in
    let l = c.args.own in
    let ns = c.args.names in
    let part = tree_in c.args.parser.now.nodes in
    let x = c.in-Some.token in
    let ts = list_of part c.new-exps.result in
    let none : ts ≡ tree.none = ap (list_of part) c.new-exps.ensures ∙ list_of_none part in
    let same = λ (i : Attributes). ap (λ (m : Terminal). pushdown.local_names l ns b k m i) (ap terminal_of c.in-Some.is) ∙ local_names_other l ns b k x i c.in_default-token.not-Comma c.in_default-token.not-Assign
    ∙ ap (λ (us : Trees). pushdown.next (pushdown.add b (tree.Local 0 l ns us)) k (token x) i) (sym none) in
    let i = attributes true c.args.line c.args.slice.now in
    let j = attributes false c.args.line c.args.slice.now in
    gave_as (pushdown.local_names l ns b k (terminal_of c.args.kind) i) (pushdown.next (pushdown.add b (tree.Local 0 l ns ts)) k (token x) i)
    (pushdown.local_names l ns b k (terminal_of c.args.kind) j) (pushdown.next (pushdown.add b (tree.Local 0 l ns ts)) k (token x) j)
    c.next_after-in_default-token.result c.next_after-in_default-token.new.parser (same i) (same j) c.next_after-in_default-token.ensures.gave
