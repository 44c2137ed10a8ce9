use Rattle.std.specs.Prelude.{◌≡◌, length, drop}
use Rattle.lua_grammar.specs.Deciding.{reading, reading_from}
use Rattle.lua_parser_state.specs.Shown.{stack_in, state_in, StateBelow}
use Rattle.lua_parser_state.specs.Order.{state_on, Stands}
use Rattle.lua_parser.proofs.reading.read.Given as goal

-- What is left to be read decides.
abbrev pub invariant-loop-token : goal.invariant-loop-token
invariant-loop-token l = record {
  rest : reading l.text l.tokens ≡ reading_from l.text (drop l.token-index l.tokens) l.token-index (state_in l.parser.nodes (stack_in l.parser) l.state);
  below : StateBelow (length l.parser.nodes) l.state;
  order : Stands (λ below. state_on l.state below) l.parser;
}
