-- Texts of 200 and of 201 levels.
use Rattle.std.specs.Prelude.{ℕ, zero, suc, List, [], ◌∷◌, refl}
use Rattle.lua_ast.specs.declared.node.Literal.TheVariants as literal
use Rattle.lua_ast.specs.declared.node.UnOp.TheVariants as un_op
use Rattle.lua_lexer.specs.declared.token.TokenKind.TheVariants as token_kind
use Rattle.lua_ast.specs.Tree as tree
use Rattle.lua_ast.specs.Tree.{Tree, none, snoc}
use Rattle.lua_grammar.specs.Parses.{parsed, unexpected, too_deep}
use Rattle.lua_grammar.specs.Deciding.{reading}
use Rattle.lua_grammar.proofs.Words.{Word, plain, ReadsAs, read_as}

-- So many times the word.
abbrev times : ℕ → Word → List Word → List Word
times zero w ws = ws
times (suc n) w ws = w ∷ times n w ws

abbrev in_parens : ℕ → Tree → Tree
in_parens zero t = t
in_parens (suc n) t = tree.Paren 0 1 (in_parens n t)

abbrev negated : ℕ → Tree → Tree
negated zero t = t
negated (suc n) t = tree.Unary 0 1 un_op.Neg (negated n t)

abbrev in_blocks : ℕ → Tree → Tree
in_blocks zero t = t
in_blocks (suc n) t = tree.Block 0 1 (snoc none (tree.Do 0 1 (in_blocks n t)))

-- 200 levels of parentheses
two_hundred_parentheses : ReadsAs (plain token_kind.Return ∷ times 200 (plain token_kind.OpenParen) (plain token_kind.Nil ∷ times 200 (plain token_kind.CloseParen) [])) (parsed (tree.Block 0 1 (snoc none (tree.Return 0 1 (snoc none (in_parens 200 (tree.Const 0 1 literal.Nil)))))))
unfolding reading
two_hundred_parentheses = read_as refl

-- and one more, also where the text then goes on wrongly
one_parenthesis_more : ReadsAs (plain token_kind.Return ∷ times 201 (plain token_kind.OpenParen) (plain token_kind.End ∷ [])) (too_deep 201)
unfolding reading
one_parenthesis_more = read_as refl

-- a wrong word that comes first
wrong_before_it_is_deep : ReadsAs (plain token_kind.Return ∷ plain token_kind.End ∷ times 201 (plain token_kind.OpenParen) []) (unexpected 1)
unfolding reading
wrong_before_it_is_deep = read_as refl

two_hundred_minuses : ReadsAs (plain token_kind.Return ∷ times 200 (plain token_kind.Minus) (plain token_kind.Nil ∷ [])) (parsed (tree.Block 0 1 (snoc none (tree.Return 0 1 (snoc none (negated 200 (tree.Const 0 1 literal.Nil)))))))
unfolding reading
two_hundred_minuses = read_as refl

one_minus_more : ReadsAs (plain token_kind.Return ∷ times 201 (plain token_kind.Minus) []) (too_deep 201)
unfolding reading
one_minus_more = read_as refl

two_hundred_blocks : ReadsAs (times 200 (plain token_kind.Do) (times 200 (plain token_kind.End) [])) (parsed (in_blocks 200 (tree.Block 0 1 none)))
unfolding reading
two_hundred_blocks = read_as refl

one_block_more : ReadsAs (times 201 (plain token_kind.Do) []) (too_deep 200)
unfolding reading
one_block_more = read_as refl
