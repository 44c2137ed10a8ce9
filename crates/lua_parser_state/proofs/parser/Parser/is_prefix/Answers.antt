use Rattle.std.proofs.Common.{ap, sym, ◌∙◌}
use Rattle.lua_ast.specs.Tree.{line_of}
use Rattle.lua_grammar.specs.Grammar.{is_prefix}
use Rattle.lua_parser_state.specs.Shown.{tree_in}
use Rattle.lua_parser_state.proofs.parser.Parser.is_prefix.Goals as goal

pub returns : goal.returns
returns c = c.is_prefix.ensures (tree_in c.args.self.now.nodes) 0 (line_of (tree_in c.args.self.now.nodes c.args.id)) ∙ sym (ap is_prefix c.node.ensures)
