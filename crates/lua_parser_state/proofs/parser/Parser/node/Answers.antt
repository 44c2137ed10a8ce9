use Rattle.std.specs.Prelude.{◌≡◌}
use Rattle.std.proofs.Common.{subst}
use Rattle.lua_ast.specs.Tree.{line_of}
use Rattle.lua_ast.specs.Decode.{no_number, node_tree}
use Rattle.lua_parser_state.specs.Shown.{Held, tree_in}
use Rattle.lua_parser_state.proofs.Nodes.{own_shape}
use Rattle.lua_parser_state.proofs.parser.Parser.node.Goals as goal

pub returns : goal.returns
returns c =
    let P : Held → Type 0 = λ h. tree_in h.nodes c.args.id ≡ node_tree (tree_in h.nodes) 0 (line_of (tree_in h.nodes c.args.id)) c.node.result.now in
    subst P c.self.view_is (own_shape c.self.inside.nodes c.args.id c.node.result.now c.node.ensures.node (λ l e. c.node.ensures.tree no_number l e))
