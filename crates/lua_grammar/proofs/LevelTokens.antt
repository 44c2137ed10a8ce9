-- Which tokens open a level, and where it ends: after so many times `do`, each the begin of a further block.
use Rattle.std.specs.Prelude.{ℕ, zero, suc, List, [], ◌∷◌, refl, codes}
use Rattle.lua_lexer.specs.declared.token.TokenKind.TheVariants as token_kind
use Rattle.lua_grammar.specs.Parses.{unfinished, too_deep}
use Rattle.lua_grammar.specs.Deciding.{reading}
use Rattle.lua_grammar.specs.Values.{numeral_of, text_of}
use Rattle.lua_grammar.proofs.Words.{Word, plain, a_name, a_number, ReadsAs, read_as}
use Rattle.lua_lexer.specs.Numerals.{value as value_of_digits}

-- What the examples compute with.
computing : Unit {0}
unfolding reading numeral_of text_of value_of_digits
computing = tt

abbrev after_do : ℕ → List Word → List Word
after_do zero ws = ws
after_do (suc n) ws = plain token_kind.Do ∷ after_do n ws

-- f (
arguments_open_a_level : ReadsAs (after_do 200 (a_name (codes "f") ∷ plain token_kind.OpenParen ∷ [])) (too_deep 201)
unfolding computing
arguments_open_a_level = read_as refl

-- f {
a_table_opens_a_level : ReadsAs (after_do 200 (a_name (codes "f") ∷ plain token_kind.OpenBrace ∷ [])) (too_deep 201)
unfolding computing
a_table_opens_a_level = read_as refl

-- a [
an_index_opens_a_level : ReadsAs (after_do 200 (a_name (codes "a") ∷ plain token_kind.OpenBracket ∷ [])) (too_deep 201)
unfolding computing
an_index_opens_a_level = read_as refl

-- f { [
a_key_opens_a_level : ReadsAs (after_do 199 (a_name (codes "f") ∷ plain token_kind.OpenBrace ∷ plain token_kind.OpenBracket ∷ [])) (too_deep 201)
unfolding computing
a_key_opens_a_level = read_as refl

-- if x then
then_opens_a_level : ReadsAs (after_do 200 (plain token_kind.If ∷ a_name (codes "x") ∷ plain token_kind.Then ∷ [])) (too_deep 202)
unfolding computing
then_opens_a_level = read_as refl

-- if x then elseif x then
then_ends_at_elseif : ReadsAs (after_do 199 (plain token_kind.If ∷ a_name (codes "x") ∷ plain token_kind.Then ∷ plain token_kind.Elseif ∷ a_name (codes "x") ∷ plain token_kind.Then ∷ [])) unfinished
unfolding computing
then_ends_at_elseif = read_as refl

-- if x then else
then_ends_at_else : ReadsAs (after_do 199 (plain token_kind.If ∷ a_name (codes "x") ∷ plain token_kind.Then ∷ plain token_kind.Else ∷ [])) unfinished
unfolding computing
then_ends_at_else = read_as refl

-- if x then else if x then
else_opens_a_level : ReadsAs (after_do 199 (plain token_kind.If ∷ a_name (codes "x") ∷ plain token_kind.Then ∷ plain token_kind.Else ∷ plain token_kind.If ∷ a_name (codes "x") ∷ plain token_kind.Then ∷ [])) (too_deep 205)
unfolding computing
else_opens_a_level = read_as refl

-- if x then else end if x then
else_ends_at_end : ReadsAs (after_do 199 (plain token_kind.If ∷ a_name (codes "x") ∷ plain token_kind.Then ∷ plain token_kind.Else ∷ plain token_kind.End ∷ plain token_kind.If ∷ a_name (codes "x") ∷ plain token_kind.Then ∷ [])) unfinished
unfolding computing
else_ends_at_end = read_as refl

-- repeat
repeat_opens_a_level : ReadsAs (after_do 200 (plain token_kind.Repeat ∷ [])) (too_deep 200)
unfolding computing
repeat_opens_a_level = read_as refl

-- repeat until ( x
repeat_ends_at_until : ReadsAs (after_do 199 (plain token_kind.Repeat ∷ plain token_kind.Until ∷ plain token_kind.OpenParen ∷ a_name (codes "x") ∷ [])) unfinished
unfolding computing
repeat_ends_at_until = read_as refl

-- while x do
the_do_of_while_opens_a_level : ReadsAs (after_do 200 (plain token_kind.While ∷ a_name (codes "x") ∷ plain token_kind.Do ∷ [])) (too_deep 202)
unfolding computing
the_do_of_while_opens_a_level = read_as refl

-- for i = 1 , 2 do
the_do_of_a_numeric_for_opens_a_level : ReadsAs (after_do 200 (plain token_kind.For ∷ a_name (codes "i") ∷ plain token_kind.Assign ∷ a_number (codes "1") ∷ plain token_kind.Comma ∷ a_number (codes "2") ∷ plain token_kind.Do ∷ [])) (too_deep 206)
unfolding computing
the_do_of_a_numeric_for_opens_a_level = read_as refl

-- for k in x do
the_do_of_a_generic_for_opens_a_level : ReadsAs (after_do 200 (plain token_kind.For ∷ a_name (codes "k") ∷ plain token_kind.In ∷ a_name (codes "x") ∷ plain token_kind.Do ∷ [])) (too_deep 204)
unfolding computing
the_do_of_a_generic_for_opens_a_level = read_as refl

-- function
function_opens_a_level : ReadsAs (after_do 200 (plain token_kind.Function ∷ [])) (too_deep 200)
unfolding computing
function_opens_a_level = read_as refl

-- local function
local_function_opens_a_level : ReadsAs (after_do 200 (plain token_kind.Local ∷ plain token_kind.Function ∷ [])) (too_deep 201)
unfolding computing
local_function_opens_a_level = read_as refl

-- function f (
parameters_open_a_level : ReadsAs (after_do 199 (plain token_kind.Function ∷ a_name (codes "f") ∷ plain token_kind.OpenParen ∷ [])) (too_deep 201)
unfolding computing
parameters_open_a_level = read_as refl

-- function f ( ) do
parameters_end_their_level : ReadsAs (after_do 198 (plain token_kind.Function ∷ a_name (codes "f") ∷ plain token_kind.OpenParen ∷ plain token_kind.CloseParen ∷ plain token_kind.Do ∷ [])) unfinished
unfolding computing
parameters_end_their_level = read_as refl

-- function f ( ) end do do
a_function_ends_its_level : ReadsAs (after_do 198 (plain token_kind.Function ∷ a_name (codes "f") ∷ plain token_kind.OpenParen ∷ plain token_kind.CloseParen ∷ plain token_kind.End ∷ plain token_kind.Do ∷ plain token_kind.Do ∷ [])) unfinished
unfolding computing
a_function_ends_its_level = read_as refl

-- return - not
a_unary_operator_opens_a_level : ReadsAs (after_do 199 (plain token_kind.Return ∷ plain token_kind.Minus ∷ plain token_kind.Not ∷ [])) (too_deep 201)
unfolding computing
a_unary_operator_opens_a_level = read_as refl

-- return x +
a_binary_operator_opens_a_level : ReadsAs (after_do 200 (plain token_kind.Return ∷ a_name (codes "x") ∷ plain token_kind.Plus ∷ [])) (too_deep 202)
unfolding computing
a_binary_operator_opens_a_level = read_as refl

-- return x + x + x
an_operator_ends_with_its_operand : ReadsAs (after_do 199 (plain token_kind.Return ∷ a_name (codes "x") ∷ plain token_kind.Plus ∷ a_name (codes "x") ∷ plain token_kind.Plus ∷ a_name (codes "x") ∷ [])) unfinished
unfolding computing
an_operator_ends_with_its_operand = read_as refl

-- return x + x *
an_operand_of_an_operand_is_deeper : ReadsAs (after_do 199 (plain token_kind.Return ∷ a_name (codes "x") ∷ plain token_kind.Plus ∷ a_name (codes "x") ∷ plain token_kind.Star ∷ [])) (too_deep 203)
unfolding computing
an_operand_of_an_operand_is_deeper = read_as refl

-- return x or
a_logic_operator_opens_a_level : ReadsAs (after_do 200 (plain token_kind.Return ∷ a_name (codes "x") ∷ plain token_kind.Or ∷ [])) (too_deep 202)
unfolding computing
a_logic_operator_opens_a_level = read_as refl

-- f ( ) f { } a [
a_bracket_ends_its_level : ReadsAs (after_do 199 (a_name (codes "f") ∷ plain token_kind.OpenParen ∷ plain token_kind.CloseParen ∷ a_name (codes "f") ∷ plain token_kind.OpenBrace ∷ plain token_kind.CloseBrace ∷ a_name (codes "a") ∷ plain token_kind.OpenBracket ∷ [])) unfinished
unfolding computing
a_bracket_ends_its_level = read_as refl
