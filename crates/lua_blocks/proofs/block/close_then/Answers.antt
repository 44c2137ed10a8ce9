use Rattle.std.specs.Prelude.{ℕ, true, false, List, [], ◌∷◌, ◌++◌}
use Rattle.std.proofs.Common.{ap, sym, subst, ◌∙◌}
use Rattle.lua_parser_state.specs.Shown.{tree_in, stack_in, begun_in, attributes}
use Rattle.lua_blocks.specs.Ends.{after_cases}
use Rattle.lua_parser_state.specs.Gave.{terminal_of}
use Rattle.lua_parser_state.proofs.Steps.{gave_at}
use Rattle.lua_ast.specs.Tree.{Cases, case}
use Rattle.lua_ast.specs.Decode.{cases_of}
use Rattle.lua_ast.proofs.Growing.{cases_of_push}
use Rattle.lua_ast.specs.Postfix.{cases_on, Leaves}
use Rattle.lua_parser_state.specs.Order.{begun_on, frames_on}
use Rattle.lua_parser_state.proofs.Ordering.{cases_on_push}
use Rattle.lua_blocks.proofs.block.close_then.Goals as goal

pub returns-clause-gave : goal.returns-clause-gave
returns-clause-gave c =
    let part = tree_in c.args.parser.now.nodes in
    let e = ap (λ (ts : List ℕ). cases_of part ts c.push-2.new.self) c.in_ok-push.ensures.ok ∙ ap (λ (bs : List ℕ). cases_of part (c.args.tests ++ c.args.test ∷ []) bs) c.in_ok-push-2.ensures.ok
    ∙ cases_of_push part c.args.tests c.args.blocks c.args.test c.args.body c.requires.cases.2 in
    gave_at (λ (cs : Cases). after_cases c.args.line cs (begun_in c.args.parser.now.nodes c.args.block) (stack_in c.args.parser.now) (terminal_of c.args.kind) (attributes true 0 [])) (λ (cs : Cases). after_cases c.args.line cs (begun_in c.args.parser.now.nodes c.args.block) (stack_in c.args.parser.now) (terminal_of c.args.kind) (attributes false 0 []))
    (case (cases_of part c.args.tests c.args.blocks) (part c.args.test) (part c.args.body)) (cases_of part c.push.new.self c.push-2.new.self) c.close_cases.result c.close_cases.new.parser (sym e) c.close_cases.ensures.gave

pub returns-clause-order : goal.returns-clause-order
returns-clause-order c =
    let ts = c.args.tests in
    let bs = c.args.blocks in
    let below = begun_on c.args.block (frames_on c.args.parser.now.frames) in
    let one_more = ap (λ (us : List ℕ). cases_on us c.push-2.new.self below) c.in_ok-push.ensures.ok ∙ ap (λ (vs : List ℕ). cases_on (ts ++ c.args.test ∷ []) vs below) c.in_ok-push-2.ensures.ok
    ∙ cases_on_push ts bs c.args.test c.args.body below c.requires.cases.2 in
    λ h. c.close_cases.ensures.order (subst (Leaves c.args.parser.now.nodes) (sym one_more) h)
