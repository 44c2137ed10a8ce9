use Rattle.lua_parser_state.specs.Shown.{tree_in}
use Rattle.lua_expressions.proofs.Others.{operator_taken}
use Rattle.lua_expressions.proofs.suffix.suffix_of.Goals as goal

pub returns-in_ok-op-in_default : goal.returns-in_ok-op-in_default
returns-in_ok-op-in_default c = λ k i o.
    operator_taken c.args.limit c.level_of.result (tree_in c.args.parser.now.nodes c.args.had) k i o c.in_ok-op-in_default.op c.level_of.ensures c.args.kind c.in_ok-op-in_default.ensures
