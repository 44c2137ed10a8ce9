use Rattle.std.proofs.Common.{ap, sym, ◌∙◌}
use Rattle.lua_ast.specs.Tree.{line_of}
use Rattle.lua_grammar.specs.Pushdown.{level_of}
use Rattle.lua_parser_state.specs.Shown.{tree_in}
use Rattle.lua_parser_state.proofs.parser.Parser.level_of.Goals as goal

pub returns : goal.returns
returns c = c.level_of.ensures (tree_in c.args.self.now.nodes) 0 (line_of (tree_in c.args.self.now.nodes c.args.id)) ∙ sym (ap level_of c.node.ensures)
