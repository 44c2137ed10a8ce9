use Rattle.std.specs.Prelude.{length}
use Rattle.lua_parser_state.proofs.Nodes.{rest_below}
use Rattle.lua_parser_state.proofs.parser.Parser.pop.Goals as goal

pub invariant_of-self : goal.invariant_of-self
invariant_of-self c = rest_below (length c.self.inside.nodes) c.pop.result c.self.inside.stack c.pop.new.self c.self.invariant c.pop.ensures.top c.pop.ensures.empty
