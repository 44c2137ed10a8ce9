-- What the end of a block asks of a token.
use Rattle.std.specs.Prelude.{◌≡◌, ℕ, Bool, List, [], ◌∷◌, refl}
use Rattle.lua_ast.specs.Tree as tree
use Rattle.lua_grammar.specs.Signs.{Terminal, end}
use Rattle.lua_grammar.specs.Pushdown as pushdown
use Rattle.lua_grammar.specs.Kinds as kinds
use Rattle.lua_parser_state.specs.Shown.{attributes}

-- The end of a block asks of a token only whether it is counted.
pub end_at : (c : Bool) (k : List pushdown.Frame) (t : tree.Tree) (m : Terminal) (l n : ℕ) (s z : List ℕ) → pushdown.end_block k t m (attributes c l s) ≡ pushdown.end_block k t m (attributes c n z)
end_at c [] t end l n s z = refl
end_at c (pushdown.InDo d b ∷ k) t kinds.End l n s z = refl
end_at c (pushdown.InWhile d e b ∷ k) t kinds.End l n s z = refl
end_at c (pushdown.InRepeat d b ∷ k) t kinds.Until l n s z = refl
end_at c (pushdown.InThen d cs e b ∷ k) t kinds.Else l n s z = refl
end_at c (pushdown.InElse d cs b ∷ k) t kinds.End l n s z = refl
end_at c (pushdown.InNumFor d m a e f b ∷ k) t kinds.End l n s z = refl
end_at c (pushdown.InGenFor d ms es b ∷ k) t kinds.End l n s z = refl
end_at c (pushdown.InFunction h ms more ∷ k) t kinds.End l n s z = refl
end_at c _ t _ l n s z = refl
