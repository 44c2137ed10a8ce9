use Rattle.std.specs.Prelude.{◌≡◌, ◌<◌, ◌∷◌, true, false, length}
use Rattle.lua_grammar.specs.Pushdown.{follow}
use Rattle.lua_parser_state.specs.Shown.{tree_in, stack_in, attributes}
use Rattle.lua_parser_state.specs.Order.{Stands}
use Rattle.lua_parser_state.specs.Gave.{terminal_of}
use Rattle.lua_parser.proofs.follow.follow.Given as goal

-- The sign behind the expression so far is read as it is behind the first one.
abbrev pub invariant-operands : goal.invariant-operands
invariant-operands l = record {
  counted : follow (stack_in l.fn.parser) l.limit (tree_in l.fn.parser.nodes l.fn.had) (terminal_of l.kind) (attributes true l.line l.slice)
      ≡ follow (stack_in l.parser) l.operand.limit (tree_in l.parser.nodes l.operand.node) (terminal_of l.kind) (attributes true l.line l.slice);
  free : follow (stack_in l.fn.parser) l.limit (tree_in l.fn.parser.nodes l.fn.had) (terminal_of l.kind) (attributes false l.line l.slice)
      ≡ follow (stack_in l.parser) l.operand.limit (tree_in l.parser.nodes l.operand.node) (terminal_of l.kind) (attributes false l.line l.slice);
  within : l.operand.node < length l.parser.nodes;
  order : Stands (λ below. l.fn.had ∷ below) l.fn.parser → Stands (λ below. l.operand.node ∷ below) l.parser;
}

abbrev pub decreases-operands : goal.decreases-operands
decreases-operands l = length l.parser.frames
