-- No block is in a statement or a header, and what shows no frames has none.
use Rattle.std.specs.Prelude.{None, ◌≡◌, List, [], ◌∷◌, map, refl}
use Rattle.lua_ast.specs.Tree as tree
use Rattle.lua_grammar.specs.Signs.{Terminal, Attributes}
use Rattle.lua_grammar.specs.Pushdown as pushdown
use Rattle.lua_ast.specs.declared.node.LinedNode.{LinedNode}
use Rattle.lua_parser_state.specs.declared.frame.OpenStatement.{OpenStatement}
use Rattle.lua_parser_state.specs.declared.frame.OpenStatement.TheVariants as statement
use Rattle.lua_parser_state.specs.declared.frame.OpenHeader.{OpenHeader}
use Rattle.lua_parser_state.specs.declared.frame.OpenHeader.TheVariants as header
use Rattle.lua_parser_state.specs.declared.frame.Frame.{Frame}
use Rattle.lua_parser_state.specs.Shown.{Held, statement_in, header_in, frame_in, stack_in}

pub end_in_statement : (ns : List LinedNode) (s : OpenStatement) (t : tree.Tree) (k : List pushdown.Frame) (m : Terminal) (i : Attributes) → pushdown.end_block (statement_in ns s ∷ k) t m i ≡ None
end_in_statement ns (statement.Local l names es b) t k m i = refl
end_in_statement ns (statement.Prefix b) t k m i = refl
end_in_statement ns (statement.Target l ts b) t k m i = refl
end_in_statement ns (statement.Assign l ts es b) t k m i = refl
end_in_statement ns (statement.Return l es b) t k m i = refl
end_in_statement ns (statement.Until l u b) t k m i = refl

pub end_in_header : (ns : List LinedNode) (g : OpenHeader) (t : tree.Tree) (k : List pushdown.Frame) (m : Terminal) (i : Attributes) → pushdown.end_block (header_in ns g ∷ k) t m i ≡ None
end_in_header ns (header.While l b) t k m i = refl
end_in_header ns (header.If l us bs b) t k m i = refl
end_in_header ns (header.First l n b) t k m i = refl
end_in_header ns (header.Last l n a b) t k m i = refl
end_in_header ns (header.Step l n a e b) t k m i = refl
end_in_header ns (header.Iterator f) t k m i = refl

-- Where no frame is shown there is none.
pub no_frames : (h : Held) → stack_in h ≡ [] → h.frames ≡ []
unfolding stack_in
no_frames h e = by h.frames e where
  by : (fs : List Frame) → map (frame_in h.nodes) fs ≡ [] → fs ≡ []
  by [] e = refl
  by (f ∷ fs) e = absurd cc
