-- The grammar worked out at small texts, which stand before each example.
use Rattle.std.specs.Prelude.{ℕ, ◌≡◌, true, false, List, [], ◌∷◌, refl, codes, pos}
use Rattle.lua_ast.specs.declared.node.Literal.TheVariants as literal
use Rattle.lua_ast.specs.declared.node.BinOp.TheVariants as bin_op
use Rattle.lua_ast.specs.declared.node.LogicOp.TheVariants as logic_op
use Rattle.lua_ast.specs.declared.node.UnOp.TheVariants as un_op
use Rattle.lua_lexer.specs.declared.token.TokenKind.TheVariants as token_kind
use Rattle.lua_ast.specs.Tree as tree
use Rattle.lua_ast.specs.Tree.{Tree, none, snoc, no_case, case, absent, present, no_field, item, named, keyed}
use Rattle.lua_grammar.specs.Values.{numeral_of, text_of}
use Rattle.lua_grammar.specs.Grammar.{self_name, is_separator, Apart}
use Rattle.lua_grammar.specs.Kinds as kind
use Rattle.lua_grammar.specs.Signs.{Attributes, Sign, sign}
use Rattle.lua_grammar.specs.Parses.{parsed, unexpected, unfinished}
use Rattle.lua_grammar.specs.Deciding.{reading}
use Rattle.lua_grammar.proofs.Words.{new_line, plain, a_name, a_number, a_text, ReadsAs, read_as}
use Rattle.lua_lexer.specs.Numerals.{value as value_of_digits}
use Rattle.lua_lexer.specs.Values.{text_value, bytes_from}
use Rattle.lua_lexer.specs.Brackets.{bracket_level}
use Rattle.lua_lexer.specs.Escapes.{part_at, escape, escaped}

-- What the examples compute with.
computing : Unit {0}
unfolding reading numeral_of text_of value_of_digits text_value bytes_from part_at escape escaped bracket_level self_name
computing = tt

abbrev named_by : List ℕ → Tree
named_by s = tree.Name 0 1 s

abbrev numbered : ℕ → Tree
numbered n = tree.Const 0 1 (literal.Int (pos n))

abbrev texted : List ℕ → Tree
texted s = tree.Const 0 1 (literal.Text s)

-- return 2 ^ -3 ^ 2
power_groups_to_the_right : ReadsAs (plain token_kind.Return ∷ a_number (codes "2") ∷ plain token_kind.Caret ∷ plain token_kind.Minus ∷ a_number (codes "3") ∷ plain token_kind.Caret ∷ a_number (codes "2") ∷ []) (parsed (tree.Block 0 1 (snoc none (tree.Return 0 1 (snoc none (tree.Binary 0 1 bin_op.Pow (numbered 2) (tree.Unary 0 1 un_op.Neg (tree.Binary 0 1 bin_op.Pow (numbered 3) (numbered 2)))))))))
unfolding computing
power_groups_to_the_right = read_as refl

-- return a .. b .. x
concatenation_groups_to_the_right : ReadsAs (plain token_kind.Return ∷ a_name (codes "a") ∷ plain token_kind.Concat ∷ a_name (codes "b") ∷ plain token_kind.Concat ∷ a_name (codes "x") ∷ []) (parsed (tree.Block 0 1 (snoc none (tree.Return 0 1 (snoc none (tree.Binary 0 1 bin_op.Concat (named_by (codes "a")) (tree.Binary 0 1 bin_op.Concat (named_by (codes "b")) (named_by (codes "x")))))))))
unfolding computing
concatenation_groups_to_the_right = read_as refl

-- return not a == b
not_binds_tighter_than_equality : ReadsAs (plain token_kind.Return ∷ plain token_kind.Not ∷ a_name (codes "a") ∷ plain token_kind.Equal ∷ a_name (codes "b") ∷ []) (parsed (tree.Block 0 1 (snoc none (tree.Return 0 1 (snoc none (tree.Binary 0 1 bin_op.Eq (tree.Unary 0 1 un_op.Not (named_by (codes "a"))) (named_by (codes "b"))))))))
unfolding computing
not_binds_tighter_than_equality = read_as refl

-- return -x ^ 2
power_binds_tighter_than_minus : ReadsAs (plain token_kind.Return ∷ plain token_kind.Minus ∷ a_name (codes "x") ∷ plain token_kind.Caret ∷ a_number (codes "2") ∷ []) (parsed (tree.Block 0 1 (snoc none (tree.Return 0 1 (snoc none (tree.Unary 0 1 un_op.Neg (tree.Binary 0 1 bin_op.Pow (named_by (codes "x")) (numbered 2))))))))
unfolding computing
power_binds_tighter_than_minus = read_as refl

-- return 1 - 2 - 3
subtraction_groups_to_the_left : ReadsAs (plain token_kind.Return ∷ a_number (codes "1") ∷ plain token_kind.Minus ∷ a_number (codes "2") ∷ plain token_kind.Minus ∷ a_number (codes "3") ∷ []) (parsed (tree.Block 0 1 (snoc none (tree.Return 0 1 (snoc none (tree.Binary 0 1 bin_op.Sub (tree.Binary 0 1 bin_op.Sub (numbered 1) (numbered 2)) (numbered 3)))))))
unfolding computing
subtraction_groups_to_the_left = read_as refl

-- return 1 + 2 * 3 < a and b or x
levels_of_operators : ReadsAs (plain token_kind.Return ∷ a_number (codes "1") ∷ plain token_kind.Plus ∷ a_number (codes "2") ∷ plain token_kind.Star ∷ a_number (codes "3") ∷ plain token_kind.Less ∷ a_name (codes "a") ∷ plain token_kind.And ∷ a_name (codes "b") ∷ plain token_kind.Or ∷ a_name (codes "x") ∷ []) (parsed (tree.Block 0 1 (snoc none (tree.Return 0 1 (snoc none (tree.Logic 0 1 logic_op.Or (tree.Logic 0 1 logic_op.And (tree.Binary 0 1 bin_op.Less (tree.Binary 0 1 bin_op.Add (numbered 1) (tree.Binary 0 1 bin_op.Mul (numbered 2) (numbered 3))) (named_by (codes "a"))) (named_by (codes "b"))) (named_by (codes "x"))))))))
unfolding computing
levels_of_operators = read_as refl

-- return a > b >= c ~= d == false
every_comparison : ReadsAs (plain token_kind.Return ∷ a_name (codes "a") ∷ plain token_kind.Greater ∷ a_name (codes "b") ∷ plain token_kind.GreaterEqual ∷ a_name (codes "c") ∷ plain token_kind.NotEqual ∷ a_name (codes "d") ∷ plain token_kind.Equal ∷ plain token_kind.False ∷ []) (parsed (tree.Block 0 1 (snoc none (tree.Return 0 1 (snoc none (tree.Binary 0 1 bin_op.Eq (tree.Binary 0 1 bin_op.Ne (tree.Binary 0 1 bin_op.GreaterEq (tree.Binary 0 1 bin_op.Greater (named_by (codes "a")) (named_by (codes "b"))) (named_by (codes "c"))) (named_by (codes "d"))) (tree.Const 0 1 (literal.Bool false))))))))
unfolding computing
every_comparison = read_as refl

-- return 1 + 2 / 3 % 4 - 5 * 6
products_before_sums : ReadsAs (plain token_kind.Return ∷ a_number (codes "1") ∷ plain token_kind.Plus ∷ a_number (codes "2") ∷ plain token_kind.Slash ∷ a_number (codes "3") ∷ plain token_kind.Percent ∷ a_number (codes "4") ∷ plain token_kind.Minus ∷ a_number (codes "5") ∷ plain token_kind.Star ∷ a_number (codes "6") ∷ []) (parsed (tree.Block 0 1 (snoc none (tree.Return 0 1 (snoc none (tree.Binary 0 1 bin_op.Sub (tree.Binary 0 1 bin_op.Add (numbered 1) (tree.Binary 0 1 bin_op.Mod (tree.Binary 0 1 bin_op.Div (numbered 2) (numbered 3)) (numbered 4))) (tree.Binary 0 1 bin_op.Mul (numbered 5) (numbered 6))))))))
unfolding computing
products_before_sums = read_as refl

-- return a == b and x or y < z
comparisons_before_and_before_or : ReadsAs (plain token_kind.Return ∷ a_name (codes "a") ∷ plain token_kind.Equal ∷ a_name (codes "b") ∷ plain token_kind.And ∷ a_name (codes "x") ∷ plain token_kind.Or ∷ a_name (codes "y") ∷ plain token_kind.Less ∷ a_name (codes "z") ∷ []) (parsed (tree.Block 0 1 (snoc none (tree.Return 0 1 (snoc none (tree.Logic 0 1 logic_op.Or (tree.Logic 0 1 logic_op.And (tree.Binary 0 1 bin_op.Eq (named_by (codes "a")) (named_by (codes "b"))) (named_by (codes "x"))) (tree.Binary 0 1 bin_op.Less (named_by (codes "y")) (named_by (codes "z")))))))))
unfolding computing
comparisons_before_and_before_or = read_as refl

-- return a .. b + c < d
sums_before_concatenation_before_comparisons : ReadsAs (plain token_kind.Return ∷ a_name (codes "a") ∷ plain token_kind.Concat ∷ a_name (codes "b") ∷ plain token_kind.Plus ∷ a_name (codes "c") ∷ plain token_kind.Less ∷ a_name (codes "d") ∷ []) (parsed (tree.Block 0 1 (snoc none (tree.Return 0 1 (snoc none (tree.Binary 0 1 bin_op.Less (tree.Binary 0 1 bin_op.Concat (named_by (codes "a")) (tree.Binary 0 1 bin_op.Add (named_by (codes "b")) (named_by (codes "c")))) (named_by (codes "d"))))))))
unfolding computing
sums_before_concatenation_before_comparisons = read_as refl

-- return a or b or c
or_groups_to_the_left : ReadsAs (plain token_kind.Return ∷ a_name (codes "a") ∷ plain token_kind.Or ∷ a_name (codes "b") ∷ plain token_kind.Or ∷ a_name (codes "c") ∷ []) (parsed (tree.Block 0 1 (snoc none (tree.Return 0 1 (snoc none (tree.Logic 0 1 logic_op.Or (tree.Logic 0 1 logic_op.Or (named_by (codes "a")) (named_by (codes "b"))) (named_by (codes "c"))))))))
unfolding computing
or_groups_to_the_left = read_as refl

-- return a and b and c
and_groups_to_the_left : ReadsAs (plain token_kind.Return ∷ a_name (codes "a") ∷ plain token_kind.And ∷ a_name (codes "b") ∷ plain token_kind.And ∷ a_name (codes "c") ∷ []) (parsed (tree.Block 0 1 (snoc none (tree.Return 0 1 (snoc none (tree.Logic 0 1 logic_op.And (tree.Logic 0 1 logic_op.And (named_by (codes "a")) (named_by (codes "b"))) (named_by (codes "c"))))))))
unfolding computing
and_groups_to_the_left = read_as refl

-- A semicolon parts fields, and after a prefix no statement begins with a parenthesis.
semicolons_part_fields : is_separator kind.Semicolon ≡ true
semicolons_part_fields = refl

no_parenthesis_after_a_prefix : (i : Attributes) (x : List Sign) → Apart true (sign kind.OpenParen i ∷ x) → ⊥
no_parenthesis_after_a_prefix i x apart = apart

-- return a < b <= x
comparisons_group_to_the_left : ReadsAs (plain token_kind.Return ∷ a_name (codes "a") ∷ plain token_kind.Less ∷ a_name (codes "b") ∷ plain token_kind.LessEqual ∷ a_name (codes "x") ∷ []) (parsed (tree.Block 0 1 (snoc none (tree.Return 0 1 (snoc none (tree.Binary 0 1 bin_op.LessEq (tree.Binary 0 1 bin_op.Less (named_by (codes "a")) (named_by (codes "b"))) (named_by (codes "x"))))))))
unfolding computing
comparisons_group_to_the_left = read_as refl

-- return #a.b % 2
the_length_of_a_field : ReadsAs (plain token_kind.Return ∷ plain token_kind.Hash ∷ a_name (codes "a") ∷ plain token_kind.Dot ∷ a_name (codes "b") ∷ plain token_kind.Percent ∷ a_number (codes "2") ∷ []) (parsed (tree.Block 0 1 (snoc none (tree.Return 0 1 (snoc none (tree.Binary 0 1 bin_op.Mod (tree.Unary 0 1 un_op.Len (tree.Index 0 1 (named_by (codes "a")) (texted (codes "b")))) (numbered 2)))))))
unfolding computing
the_length_of_a_field = read_as refl

-- return (1 - 2) / 3
parentheses_group : ReadsAs (plain token_kind.Return ∷ plain token_kind.OpenParen ∷ a_number (codes "1") ∷ plain token_kind.Minus ∷ a_number (codes "2") ∷ plain token_kind.CloseParen ∷ plain token_kind.Slash ∷ a_number (codes "3") ∷ []) (parsed (tree.Block 0 1 (snoc none (tree.Return 0 1 (snoc none (tree.Binary 0 1 bin_op.Div (tree.Paren 0 1 (tree.Binary 0 1 bin_op.Sub (numbered 1) (numbered 2))) (numbered 3)))))))
unfolding computing
parentheses_group = read_as refl

-- (nothing)
no_tokens_are_an_empty_block : ReadsAs ([]) (parsed (tree.Block 0 1 none))
unfolding computing
no_tokens_are_an_empty_block = read_as refl

-- ; ; break ;
semicolons_are_no_nodes : ReadsAs (plain token_kind.Semicolon ∷ plain token_kind.Semicolon ∷ plain token_kind.Break ∷ plain token_kind.Semicolon ∷ []) (parsed (tree.Block 0 1 (snoc none (tree.Break 0 1))))
unfolding computing
semicolons_are_no_nodes = read_as refl

-- a.b.c(1):d{}[x] = 2
a_long_prefix : ReadsAs (a_name (codes "a") ∷ plain token_kind.Dot ∷ a_name (codes "b") ∷ plain token_kind.Dot ∷ a_name (codes "c") ∷ plain token_kind.OpenParen ∷ a_number (codes "1") ∷ plain token_kind.CloseParen ∷ plain token_kind.Colon ∷ a_name (codes "d") ∷ plain token_kind.OpenBrace ∷ plain token_kind.CloseBrace ∷ plain token_kind.OpenBracket ∷ a_name (codes "x") ∷ plain token_kind.CloseBracket ∷ plain token_kind.Assign ∷ a_number (codes "2") ∷ []) (parsed (tree.Block 0 1 (snoc none (tree.Assign 0 1 (snoc none (tree.Index 0 1 (tree.Method 0 1 (tree.Call 0 1 (tree.Index 0 1 (tree.Index 0 1 (named_by (codes "a")) (texted (codes "b"))) (texted (codes "c"))) (snoc none (numbered 1))) (codes "d") (snoc none (tree.Table 0 1 no_field))) (named_by (codes "x")))) (snoc none (numbered 2))))))
unfolding computing
a_long_prefix = read_as refl

-- f "a"
a_text_as_the_argument : ReadsAs (a_name (codes "f") ∷ a_text (codes "a") ∷ []) (parsed (tree.Block 0 1 (snoc none (tree.CallStat 0 1 (tree.Call 0 1 (named_by (codes "f")) (snoc none (texted (codes "a"))))))))
unfolding computing
a_text_as_the_argument = read_as refl

-- f { x }
a_table_as_the_argument : ReadsAs (a_name (codes "f") ∷ plain token_kind.OpenBrace ∷ a_name (codes "x") ∷ plain token_kind.CloseBrace ∷ []) (parsed (tree.Block 0 1 (snoc none (tree.CallStat 0 1 (tree.Call 0 1 (named_by (codes "f")) (snoc none (tree.Table 0 1 (item no_field (named_by (codes "x"))))))))))
unfolding computing
a_table_as_the_argument = read_as refl

-- return { 1 ; x = 2 , [ a ] = 3 , }
fields_of_each_form : ReadsAs (plain token_kind.Return ∷ plain token_kind.OpenBrace ∷ a_number (codes "1") ∷ plain token_kind.Semicolon ∷ a_name (codes "x") ∷ plain token_kind.Assign ∷ a_number (codes "2") ∷ plain token_kind.Comma ∷ plain token_kind.OpenBracket ∷ a_name (codes "a") ∷ plain token_kind.CloseBracket ∷ plain token_kind.Assign ∷ a_number (codes "3") ∷ plain token_kind.Comma ∷ plain token_kind.CloseBrace ∷ []) (parsed (tree.Block 0 1 (snoc none (tree.Return 0 1 (snoc none (tree.Table 0 1 (keyed (named (item no_field (numbered 1)) (codes "x") (numbered 2)) (named_by (codes "a")) (numbered 3))))))))
unfolding computing
fields_of_each_form = read_as refl

-- return { x , b . a }
a_name_is_an_item_where_no_value_follows : ReadsAs (plain token_kind.Return ∷ plain token_kind.OpenBrace ∷ a_name (codes "x") ∷ plain token_kind.Comma ∷ a_name (codes "b") ∷ plain token_kind.Dot ∷ a_name (codes "a") ∷ plain token_kind.CloseBrace ∷ []) (parsed (tree.Block 0 1 (snoc none (tree.Return 0 1 (snoc none (tree.Table 0 1 (item (item no_field (named_by (codes "x"))) (tree.Index 0 1 (named_by (codes "b")) (texted (codes "a"))))))))))
unfolding computing
a_name_is_an_item_where_no_value_follows = read_as refl

-- local function f ( ) end
a_local_function : ReadsAs (plain token_kind.Local ∷ plain token_kind.Function ∷ a_name (codes "f") ∷ plain token_kind.OpenParen ∷ plain token_kind.CloseParen ∷ plain token_kind.End ∷ []) (parsed (tree.Block 0 1 (snoc none (tree.LocalFunction 0 1 (codes "f") (tree.Function 0 1 [] false (tree.Block 0 1 none))))))
unfolding computing
a_local_function = read_as refl

-- function a . b : c ( x , ... ) return ... end
a_method_has_the_parameter_self : ReadsAs (plain token_kind.Function ∷ a_name (codes "a") ∷ plain token_kind.Dot ∷ a_name (codes "b") ∷ plain token_kind.Colon ∷ a_name (codes "c") ∷ plain token_kind.OpenParen ∷ a_name (codes "x") ∷ plain token_kind.Comma ∷ plain token_kind.Ellipsis ∷ plain token_kind.CloseParen ∷ plain token_kind.Return ∷ plain token_kind.Ellipsis ∷ plain token_kind.End ∷ []) (parsed (tree.Block 0 1 (snoc none (tree.Assign 0 1 (snoc none (tree.Index 0 1 (tree.Index 0 1 (named_by (codes "a")) (texted (codes "b"))) (texted (codes "c")))) (snoc none (tree.Function 0 1 (codes "self" ∷ codes "x" ∷ []) true (tree.Block 0 1 (snoc none (tree.Return 0 1 (snoc none (tree.Vararg 0 1)))))))))))
unfolding computing
a_method_has_the_parameter_self = read_as refl

-- function a . b ( ) end
a_named_function_is_an_assignment : ReadsAs (plain token_kind.Function ∷ a_name (codes "a") ∷ plain token_kind.Dot ∷ a_name (codes "b") ∷ plain token_kind.OpenParen ∷ plain token_kind.CloseParen ∷ plain token_kind.End ∷ []) (parsed (tree.Block 0 1 (snoc none (tree.Assign 0 1 (snoc none (tree.Index 0 1 (named_by (codes "a")) (texted (codes "b")))) (snoc none (tree.Function 0 1 [] false (tree.Block 0 1 none)))))))
unfolding computing
a_named_function_is_an_assignment = read_as refl

-- x = function ( ... ) end
a_function_as_an_expression : ReadsAs (a_name (codes "x") ∷ plain token_kind.Assign ∷ plain token_kind.Function ∷ plain token_kind.OpenParen ∷ plain token_kind.Ellipsis ∷ plain token_kind.CloseParen ∷ plain token_kind.End ∷ []) (parsed (tree.Block 0 1 (snoc none (tree.Assign 0 1 (snoc none (named_by (codes "x"))) (snoc none (tree.Function 0 1 [] true (tree.Block 0 1 none)))))))
unfolding computing
a_function_as_an_expression = read_as refl

-- for x = 1 , 2 do end
a_numeric_for : ReadsAs (plain token_kind.For ∷ a_name (codes "x") ∷ plain token_kind.Assign ∷ a_number (codes "1") ∷ plain token_kind.Comma ∷ a_number (codes "2") ∷ plain token_kind.Do ∷ plain token_kind.End ∷ []) (parsed (tree.Block 0 1 (snoc none (tree.NumFor 0 1 (codes "x") (numbered 1) (numbered 2) absent (tree.Block 0 1 none)))))
unfolding computing
a_numeric_for = read_as refl

-- for x = 1 , 2 , 3 do end
a_numeric_for_with_a_step : ReadsAs (plain token_kind.For ∷ a_name (codes "x") ∷ plain token_kind.Assign ∷ a_number (codes "1") ∷ plain token_kind.Comma ∷ a_number (codes "2") ∷ plain token_kind.Comma ∷ a_number (codes "3") ∷ plain token_kind.Do ∷ plain token_kind.End ∷ []) (parsed (tree.Block 0 1 (snoc none (tree.NumFor 0 1 (codes "x") (numbered 1) (numbered 2) (present (numbered 3)) (tree.Block 0 1 none)))))
unfolding computing
a_numeric_for_with_a_step = read_as refl

-- for a , b in f ( x ) do end
a_generic_for : ReadsAs (plain token_kind.For ∷ a_name (codes "a") ∷ plain token_kind.Comma ∷ a_name (codes "b") ∷ plain token_kind.In ∷ a_name (codes "f") ∷ plain token_kind.OpenParen ∷ a_name (codes "x") ∷ plain token_kind.CloseParen ∷ plain token_kind.Do ∷ plain token_kind.End ∷ []) (parsed (tree.Block 0 1 (snoc none (tree.GenFor 0 1 (codes "a" ∷ codes "b" ∷ []) (snoc none (tree.Call 0 1 (named_by (codes "f")) (snoc none (named_by (codes "x"))))) (tree.Block 0 1 none)))))
unfolding computing
a_generic_for = read_as refl

-- for a in b , x do end
a_generic_for_of_one_name : ReadsAs (plain token_kind.For ∷ a_name (codes "a") ∷ plain token_kind.In ∷ a_name (codes "b") ∷ plain token_kind.Comma ∷ a_name (codes "x") ∷ plain token_kind.Do ∷ plain token_kind.End ∷ []) (parsed (tree.Block 0 1 (snoc none (tree.GenFor 0 1 (codes "a" ∷ []) (snoc (snoc none (named_by (codes "b"))) (named_by (codes "x"))) (tree.Block 0 1 none)))))
unfolding computing
a_generic_for_of_one_name = read_as refl

-- if a then elseif b then else end
an_if_with_all_its_parts : ReadsAs (plain token_kind.If ∷ a_name (codes "a") ∷ plain token_kind.Then ∷ plain token_kind.Elseif ∷ a_name (codes "b") ∷ plain token_kind.Then ∷ plain token_kind.Else ∷ plain token_kind.End ∷ []) (parsed (tree.Block 0 1 (snoc none (tree.If 0 1 (case (case no_case (named_by (codes "a")) (tree.Block 0 1 none)) (named_by (codes "b")) (tree.Block 0 1 none)) (present (tree.Block 0 1 none))))))
unfolding computing
an_if_with_all_its_parts = read_as refl

-- while a do repeat do end until b end
loops_and_blocks : ReadsAs (plain token_kind.While ∷ a_name (codes "a") ∷ plain token_kind.Do ∷ plain token_kind.Repeat ∷ plain token_kind.Do ∷ plain token_kind.End ∷ plain token_kind.Until ∷ a_name (codes "b") ∷ plain token_kind.End ∷ []) (parsed (tree.Block 0 1 (snoc none (tree.While 0 1 (named_by (codes "a")) (tree.Block 0 1 (snoc none (tree.Repeat 0 1 (tree.Block 0 1 (snoc none (tree.Do 0 1 (tree.Block 0 1 none)))) (named_by (codes "b")))))))))
unfolding computing
loops_and_blocks = read_as refl

-- :: a :: goto a
a_label_and_a_goto : ReadsAs (plain token_kind.DoubleColon ∷ a_name (codes "a") ∷ plain token_kind.DoubleColon ∷ plain token_kind.Goto ∷ a_name (codes "a") ∷ []) (parsed (tree.Block 0 1 (snoc (snoc none (tree.Label 0 1 (codes "a"))) (tree.Goto 0 1 (codes "a")))))
unfolding computing
a_label_and_a_goto = read_as refl

-- local a , b = 1 , ...
locals_with_values : ReadsAs (plain token_kind.Local ∷ a_name (codes "a") ∷ plain token_kind.Comma ∷ a_name (codes "b") ∷ plain token_kind.Assign ∷ a_number (codes "1") ∷ plain token_kind.Comma ∷ plain token_kind.Ellipsis ∷ []) (parsed (tree.Block 0 1 (snoc none (tree.Local 0 1 (codes "a" ∷ codes "b" ∷ []) (snoc (snoc none (numbered 1)) (tree.Vararg 0 1))))))
unfolding computing
locals_with_values = read_as refl

-- a , b . x = b , nil , true
several_targets : ReadsAs (a_name (codes "a") ∷ plain token_kind.Comma ∷ a_name (codes "b") ∷ plain token_kind.Dot ∷ a_name (codes "x") ∷ plain token_kind.Assign ∷ a_name (codes "b") ∷ plain token_kind.Comma ∷ plain token_kind.Nil ∷ plain token_kind.Comma ∷ plain token_kind.True ∷ []) (parsed (tree.Block 0 1 (snoc none (tree.Assign 0 1 (snoc (snoc none (named_by (codes "a"))) (tree.Index 0 1 (named_by (codes "b")) (texted (codes "x")))) (snoc (snoc (snoc none (named_by (codes "b"))) (tree.Const 0 1 literal.Nil)) (tree.Const 0 1 (literal.Bool true)))))))
unfolding computing
several_targets = read_as refl

-- x = f ( a ) ( )
a_parenthesis_after_a_prefix_begins_arguments : ReadsAs (a_name (codes "x") ∷ plain token_kind.Assign ∷ a_name (codes "f") ∷ plain token_kind.OpenParen ∷ a_name (codes "a") ∷ plain token_kind.CloseParen ∷ plain token_kind.OpenParen ∷ plain token_kind.CloseParen ∷ []) (parsed (tree.Block 0 1 (snoc none (tree.Assign 0 1 (snoc none (named_by (codes "x"))) (snoc none (tree.Call 0 1 (tree.Call 0 1 (named_by (codes "f")) (snoc none (named_by (codes "a")))) none))))))
unfolding computing
a_parenthesis_after_a_prefix_begins_arguments = read_as refl

-- x = f ; ( a ) ( )
a_semicolon_parts_a_prefix_from_a_parenthesis : ReadsAs (a_name (codes "x") ∷ plain token_kind.Assign ∷ a_name (codes "f") ∷ plain token_kind.Semicolon ∷ plain token_kind.OpenParen ∷ a_name (codes "a") ∷ plain token_kind.CloseParen ∷ plain token_kind.OpenParen ∷ plain token_kind.CloseParen ∷ []) (parsed (tree.Block 0 1 (snoc (snoc none (tree.Assign 0 1 (snoc none (named_by (codes "x"))) (snoc none (named_by (codes "f"))))) (tree.CallStat 0 1 (tree.Call 0 1 (tree.Paren 0 1 (named_by (codes "a"))) none)))))
unfolding computing
a_semicolon_parts_a_prefix_from_a_parenthesis = read_as refl

-- x = 1 ( a ) ( )
after_a_constant_a_parenthesis_begins_a_statement : ReadsAs (a_name (codes "x") ∷ plain token_kind.Assign ∷ a_number (codes "1") ∷ plain token_kind.OpenParen ∷ a_name (codes "a") ∷ plain token_kind.CloseParen ∷ plain token_kind.OpenParen ∷ plain token_kind.CloseParen ∷ []) (parsed (tree.Block 0 1 (snoc (snoc none (tree.Assign 0 1 (snoc none (named_by (codes "x"))) (snoc none (numbered 1)))) (tree.CallStat 0 1 (tree.Call 0 1 (tree.Paren 0 1 (named_by (codes "a"))) none)))))
unfolding computing
after_a_constant_a_parenthesis_begins_a_statement = read_as refl

-- function f ( ) end ( a ) ( )
after_a_function_a_parenthesis_begins_a_statement : ReadsAs (plain token_kind.Function ∷ a_name (codes "f") ∷ plain token_kind.OpenParen ∷ plain token_kind.CloseParen ∷ plain token_kind.End ∷ plain token_kind.OpenParen ∷ a_name (codes "a") ∷ plain token_kind.CloseParen ∷ plain token_kind.OpenParen ∷ plain token_kind.CloseParen ∷ []) (parsed (tree.Block 0 1 (snoc (snoc none (tree.Assign 0 1 (snoc none (named_by (codes "f"))) (snoc none (tree.Function 0 1 [] false (tree.Block 0 1 none))))) (tree.CallStat 0 1 (tree.Call 0 1 (tree.Paren 0 1 (named_by (codes "a"))) none)))))
unfolding computing
after_a_function_a_parenthesis_begins_a_statement = read_as refl

-- local x ( a ) ( )
after_names_of_locals_a_parenthesis_begins_a_statement : ReadsAs (plain token_kind.Local ∷ a_name (codes "x") ∷ plain token_kind.OpenParen ∷ a_name (codes "a") ∷ plain token_kind.CloseParen ∷ plain token_kind.OpenParen ∷ plain token_kind.CloseParen ∷ []) (parsed (tree.Block 0 1 (snoc (snoc none (tree.Local 0 1 (codes "x" ∷ []) none)) (tree.CallStat 0 1 (tree.Call 0 1 (tree.Paren 0 1 (named_by (codes "a"))) none)))))
unfolding computing
after_names_of_locals_a_parenthesis_begins_a_statement = read_as refl

-- do return ; end
return_with_nothing : ReadsAs (plain token_kind.Do ∷ plain token_kind.Return ∷ plain token_kind.Semicolon ∷ plain token_kind.End ∷ []) (parsed (tree.Block 0 1 (snoc none (tree.Do 0 1 (tree.Block 0 1 (snoc none (tree.Return 0 1 none)))))))
unfolding computing
return_with_nothing = read_as refl

-- return return
nothing_follows_a_return : ReadsAs (plain token_kind.Return ∷ plain token_kind.Return ∷ []) (unexpected 1)
unfolding computing
nothing_follows_a_return = read_as refl

-- do local x
a_block_without_its_end : ReadsAs (plain token_kind.Do ∷ plain token_kind.Local ∷ a_name (codes "x") ∷ []) (unfinished)
unfolding computing
a_block_without_its_end = read_as refl

-- f ( x ) = 1
a_call_is_no_target : ReadsAs (a_name (codes "f") ∷ plain token_kind.OpenParen ∷ a_name (codes "x") ∷ plain token_kind.CloseParen ∷ plain token_kind.Assign ∷ a_number (codes "1") ∷ []) (unexpected 4)
unfolding computing
a_call_is_no_target = read_as refl

-- a . b x
a_field_is_no_statement : ReadsAs (a_name (codes "a") ∷ plain token_kind.Dot ∷ a_name (codes "b") ∷ a_name (codes "x") ∷ []) (unexpected 3)
unfolding computing
a_field_is_no_statement = read_as refl

-- a . b
a_field_alone_is_no_text : ReadsAs (a_name (codes "a") ∷ plain token_kind.Dot ∷ a_name (codes "b") ∷ []) (unfinished)
unfolding computing
a_field_alone_is_no_text = read_as refl

-- a . b . c ( 1 ) : d { } = 2
a_method_call_is_no_target : ReadsAs (a_name (codes "a") ∷ plain token_kind.Dot ∷ a_name (codes "b") ∷ plain token_kind.Dot ∷ a_name (codes "c") ∷ plain token_kind.OpenParen ∷ a_number (codes "1") ∷ plain token_kind.CloseParen ∷ plain token_kind.Colon ∷ a_name (codes "d") ∷ plain token_kind.OpenBrace ∷ plain token_kind.CloseBrace ∷ plain token_kind.Assign ∷ a_number (codes "2") ∷ []) (unexpected 12)
unfolding computing
a_method_call_is_no_target = read_as refl

-- ( a ) = 1
parentheses_are_no_target : ReadsAs (plain token_kind.OpenParen ∷ a_name (codes "a") ∷ plain token_kind.CloseParen ∷ plain token_kind.Assign ∷ a_number (codes "1") ∷ []) (unexpected 3)
unfolding computing
parentheses_are_no_target = read_as refl

-- a , f ( ) = 1
a_call_is_no_further_target : ReadsAs (a_name (codes "a") ∷ plain token_kind.Comma ∷ a_name (codes "f") ∷ plain token_kind.OpenParen ∷ plain token_kind.CloseParen ∷ plain token_kind.Assign ∷ a_number (codes "1") ∷ []) (unexpected 5)
unfolding computing
a_call_is_no_further_target = read_as refl

-- local function f . a ( ) end
a_local_function_has_a_name_alone : ReadsAs (plain token_kind.Local ∷ plain token_kind.Function ∷ a_name (codes "f") ∷ plain token_kind.Dot ∷ a_name (codes "a") ∷ plain token_kind.OpenParen ∷ plain token_kind.CloseParen ∷ plain token_kind.End ∷ []) (unexpected 3)
unfolding computing
a_local_function_has_a_name_alone = read_as refl

-- for a . b = 1 , 2 do end
a_loop_variable_is_a_name : ReadsAs (plain token_kind.For ∷ a_name (codes "a") ∷ plain token_kind.Dot ∷ a_name (codes "b") ∷ plain token_kind.Assign ∷ a_number (codes "1") ∷ plain token_kind.Comma ∷ a_number (codes "2") ∷ plain token_kind.Do ∷ plain token_kind.End ∷ []) (unexpected 2)
unfolding computing
a_loop_variable_is_a_name = read_as refl

-- for a , b = 1 , 2 do end
one_variable_before_the_equals_sign : ReadsAs (plain token_kind.For ∷ a_name (codes "a") ∷ plain token_kind.Comma ∷ a_name (codes "b") ∷ plain token_kind.Assign ∷ a_number (codes "1") ∷ plain token_kind.Comma ∷ a_number (codes "2") ∷ plain token_kind.Do ∷ plain token_kind.End ∷ []) (unexpected 4)
unfolding computing
one_variable_before_the_equals_sign = read_as refl

-- x = a : b
a_method_is_called : ReadsAs (a_name (codes "x") ∷ plain token_kind.Assign ∷ a_name (codes "a") ∷ plain token_kind.Colon ∷ a_name (codes "b") ∷ []) (unfinished)
unfolding computing
a_method_is_called = read_as refl

-- x = a : b . x
a_method_is_called_at_once : ReadsAs (a_name (codes "x") ∷ plain token_kind.Assign ∷ a_name (codes "a") ∷ plain token_kind.Colon ∷ a_name (codes "b") ∷ plain token_kind.Dot ∷ a_name (codes "x") ∷ []) (unexpected 5)
unfolding computing
a_method_is_called_at_once = read_as refl

-- f ( a , )
no_comma_after_the_arguments : ReadsAs (a_name (codes "f") ∷ plain token_kind.OpenParen ∷ a_name (codes "a") ∷ plain token_kind.Comma ∷ plain token_kind.CloseParen ∷ []) (unexpected 4)
unfolding computing
no_comma_after_the_arguments = read_as refl

-- function f ( ... , a ) end
parameters_end_with_the_dots : ReadsAs (plain token_kind.Function ∷ a_name (codes "f") ∷ plain token_kind.OpenParen ∷ plain token_kind.Ellipsis ∷ plain token_kind.Comma ∷ a_name (codes "a") ∷ plain token_kind.CloseParen ∷ plain token_kind.End ∷ []) (unexpected 4)
unfolding computing
parameters_end_with_the_dots = read_as refl

-- end
a_block_that_was_not_begun : ReadsAs (plain token_kind.End ∷ []) (unexpected 0)
unfolding computing
a_block_that_was_not_begun = read_as refl

-- return 1 +
an_operand_is_missing : ReadsAs (plain token_kind.Return ∷ a_number (codes "1") ∷ plain token_kind.Plus ∷ []) (unfinished)
unfolding computing
an_operand_is_missing = read_as refl

-- return 2 ^ ^ 3
power_has_no_minus_on_its_left : ReadsAs (plain token_kind.Return ∷ a_number (codes "2") ∷ plain token_kind.Caret ∷ plain token_kind.Caret ∷ a_number (codes "3") ∷ []) (unexpected 3)
unfolding computing
power_has_no_minus_on_its_left = read_as refl

-- if a then else else end
an_else_after_the_else : ReadsAs (plain token_kind.If ∷ a_name (codes "a") ∷ plain token_kind.Then ∷ plain token_kind.Else ∷ plain token_kind.Else ∷ plain token_kind.End ∷ []) (unexpected 4)
unfolding computing
an_else_after_the_else = read_as refl

-- return, and on the next line x, and on the third + 1
lines_are_those_of_first_tokens : ReadsAs (plain token_kind.Return ∷ new_line ∷ a_name (codes "x") ∷ new_line ∷ plain token_kind.Plus ∷ a_number (codes "1") ∷ []) (parsed (tree.Block 0 1 (snoc none (tree.Return 0 1 (snoc none (tree.Binary 0 2 bin_op.Add (tree.Name 0 2 (codes "x")) (tree.Const 0 3 (literal.Int (pos 1)))))))))
unfolding computing
lines_are_those_of_first_tokens = read_as refl

-- do, and on the next line end
an_empty_block_has_the_line_of_what_follows : ReadsAs (plain token_kind.Do ∷ new_line ∷ plain token_kind.End ∷ []) (parsed (tree.Block 0 1 (snoc none (tree.Do 0 1 (tree.Block 0 2 none)))))
unfolding computing
an_empty_block_has_the_line_of_what_follows = read_as refl

-- local, and on the next line function f, and on the third ( ) end
a_function_has_the_line_of_its_word : ReadsAs (plain token_kind.Local ∷ new_line ∷ plain token_kind.Function ∷ a_name (codes "f") ∷ new_line ∷ plain token_kind.OpenParen ∷ plain token_kind.CloseParen ∷ plain token_kind.End ∷ []) (parsed (tree.Block 0 1 (snoc none (tree.LocalFunction 0 1 (codes "f") (tree.Function 0 2 [] false (tree.Block 0 3 none))))))
unfolding computing
a_function_has_the_line_of_its_word = read_as refl

-- a numeral to the base 16, and a text with an escape
values_of_slices : ReadsAs (plain token_kind.Return ∷ a_number (codes "0xff") ∷ plain token_kind.Comma ∷ a_text (92 ∷ 110 ∷ codes "a") ∷ []) (parsed (tree.Block 0 1 (snoc none (tree.Return 0 1 (snoc (snoc none (numbered 255)) (texted (10 ∷ codes "a")))))))
unfolding computing
values_of_slices = read_as refl

-- a : b ( 1 )
a_method_call_as_a_statement : ReadsAs (a_name (codes "a") ∷ plain token_kind.Colon ∷ a_name (codes "b") ∷ plain token_kind.OpenParen ∷ a_number (codes "1") ∷ plain token_kind.CloseParen ∷ []) (parsed (tree.Block 0 1 (snoc none (tree.CallStat 0 1 (tree.Method 0 1 (named_by (codes "a")) (codes "b") (snoc none (numbered 1)))))))
unfolding computing
a_method_call_as_a_statement = read_as refl
