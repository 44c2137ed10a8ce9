-- What follows a block.
use Rattle.std.specs.Prelude.{ℕ, Bool, false, List, ◌∷◌, Option, Some, None}
use Rattle.lua_ast.specs.Tree as tree
use Rattle.lua_grammar.specs.Signs.{Terminal, Attributes}
use Rattle.lua_grammar.specs.Kinds as kind
use Rattle.lua_grammar.specs.Pushdown as pushdown
use Rattle.lua_parser_state.specs.declared.frame.Head.{Head}
use Rattle.lua_parser_state.specs.declared.frame.Head.TheVariants as head

-- A statement ends with its block.
abbrev pub ended : pushdown.Begun → tree.Tree → List pushdown.Frame → Terminal → Option pushdown.State
ended b t k kind.End = Some (pushdown.StatNext (pushdown.add b t) k)
ended b t k _ = None

-- What follows these cases of an if.
abbrev pub after_cases : ℕ → tree.Cases → pushdown.Begun → List pushdown.Frame → Terminal → Attributes → Option pushdown.State
after_cases l cs b k kind.End i = Some (pushdown.StatNext (pushdown.add b (tree.If 0 l cs tree.absent)) k)
after_cases l cs b k kind.Elseif i = Some (pushdown.Need 0 (pushdown.InIfTest l cs b ∷ k))
after_cases l cs b k kind.Else i = pushdown.opened k i (pushdown.BlockNext (pushdown.InElse l cs b ∷ k))
after_cases l cs b k _ i = None

-- The head of `function a:b()`, which has a parameter that isn't written.
abbrev pub is_method : Head → Bool
is_method (head.Assigned l t m b) = m
is_method _ = false
