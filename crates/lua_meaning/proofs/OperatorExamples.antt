-- Operators (Lua 5.2 manual, 3.4.1 to 3.4.6). Before each example stands its text.
use Rattle.std.specs.Prelude.{◌≡◌, refl, pos, negsuc, true, false, [], ◌∷◌, codes}
use Rattle.std.specs.Fmt.{digits}
use Rattle.std.specs.Int.{int_wrap}
use Rattle.zc_budget.specs.declared.budget.Stop.TheVariants as stop
use Rattle.lua_ast.specs.declared.node.Literal.TheVariants as literal
use Rattle.lua_ast.specs.declared.node.BinOp.TheVariants as bin
use Rattle.lua_ast.specs.declared.node.UnOp.TheVariants as un
use Rattle.lua_ast.specs.declared.node.LogicOp.TheVariants as logic_op
use Rattle.lua_ast.specs.Tree.{Tree, Const, Logic, Unary, Paren, no_field, item}
use Rattle.lua_meaning.specs.declared.value.Value.TheVariants as value
use Rattle.lua_meaning.specs.Nodes.{eval, statements, each_first, expressions, targets_of, target_of, choose, maybe_eval, step_of, each_field, all_fields}
use Rattle.lua_meaning.specs.Programs.{jobs, resume}
use Rattle.lua_meaning.proofs.Writing.{int, text, nil, name, binary, table, block, gives, local, assign}
use Rattle.lua_meaning.proofs.SampleHost.{run, Answers, Fails, Ends}

-- What the examples compute with.
computing : Unit {0}
unfolding eval statements each_first expressions targets_of target_of choose maybe_eval step_of each_field all_fields jobs resume digits int_wrap
computing = tt

-- return 9223372036854775807 + 1
abbrev sum_wraps_tree : Tree
sum_wraps_tree = block (gives (binary bin.Add (int 9223372036854775807) (int 1) ∷ []) ∷ [])

sum_wraps : run [] [] sum_wraps_tree 100000 100000 ≡ Answers (value.Int (negsuc 9223372036854775807) ∷ []) 5 64 []
unfolding computing
sum_wraps = refl

-- return -7 / 2
abbrev floor_quotient_tree : Tree
floor_quotient_tree = block (gives (binary bin.Div (Unary 0 1 un.Neg (int 7)) (int 2) ∷ []) ∷ [])

floor_quotient : run [] [] floor_quotient_tree 100000 100000 ≡ Answers (value.Int (negsuc 3) ∷ []) 6 64 []
unfolding computing
floor_quotient = refl

-- return (-7 % 2) * 100 + 7 % -2
abbrev remainder_tree : Tree
remainder_tree = block
    (gives
    (binary bin.Add
    (binary bin.Mul (Paren 0 1 (binary bin.Mod (Unary 0 1 un.Neg (int 7)) (int 2))) (int 100))
    (binary bin.Mod (int 7) (Unary 0 1 un.Neg (int 2))) ∷ []) ∷ [])

remainder : run [] [] remainder_tree 100000 100000 ≡ Answers (value.Int (pos 99) ∷ []) 14 64 []
unfolding computing
remainder = refl

-- return (-9223372036854775807 - 1) / -1
abbrev least_quotient_tree : Tree
least_quotient_tree = block
    (gives
    (binary bin.Div
    (Paren 0 1 (binary bin.Sub (Unary 0 1 un.Neg (int 9223372036854775807)) (int 1)))
    (Unary 0 1 un.Neg (int 1)) ∷ []) ∷ [])

least_quotient : run [] [] least_quotient_tree 100000 100000 ≡ Answers (value.Int (negsuc 9223372036854775807) ∷ []) 10 64 []
unfolding computing
least_quotient = refl

-- return 1 / 0
abbrev no_divisor_tree : Tree
no_divisor_tree = block (gives (binary bin.Div (int 1) (int 0) ∷ []) ∷ [])

no_divisor : run [] [] no_divisor_tree 100000 100000 ≡ Fails (codes "[string \"channel program\"]:1: attempt to divide by zero") 5 143 []
unfolding computing
no_divisor = refl

-- return 2 ^ 10 + 0 ^ 0 + (-3) ^ 3
abbrev whole_powers_tree : Tree
whole_powers_tree = block
    (gives
    (binary bin.Add
    (binary bin.Add (binary bin.Pow (int 2) (int 10)) (binary bin.Pow (int 0) (int 0)))
    (binary bin.Pow (Paren 0 1 (Unary 0 1 un.Neg (int 3))) (int 3)) ∷ []) ∷ [])

whole_powers : run [] [] whole_powers_tree 100000 100000 ≡ Answers (value.Int (pos 998) ∷ []) 15 64 []
unfolding computing
whole_powers = refl

-- return 3 ^ 41
abbrev power_wraps_tree : Tree
power_wraps_tree = block (gives (binary bin.Pow (int 3) (int 41) ∷ []) ∷ [])

power_wraps : run [] [] power_wraps_tree 100000 100000 ≡ Answers (value.Int (negsuc 420491770248316828) ∷ []) 5 64 []
unfolding computing
power_wraps = refl

-- return 2 ^ -1
abbrev negative_power_tree : Tree
negative_power_tree = block (gives (binary bin.Pow (int 2) (Unary 0 1 un.Neg (int 1)) ∷ []) ∷ [])

negative_power : run [] [] negative_power_tree 100000 100000 ≡ Fails (codes "[string \"channel program\"]:1: negative exponent") 6 135 []
unfolding computing
negative_power = refl

-- return "10" + " 0x1F " - "-3"
abbrev texts_as_numbers_tree : Tree
texts_as_numbers_tree = block (gives (binary bin.Sub (binary bin.Add (text "10") (text " 0x1F ")) (text "-3") ∷ []) ∷ [])

texts_as_numbers : run [] [] texts_as_numbers_tree 100000 100000 ≡ Answers (value.Int (pos 44) ∷ []) 7 64 []
unfolding computing
texts_as_numbers = refl

-- return "10x" + 1
abbrev no_number_tree : Tree
no_number_tree = block (gives (binary bin.Add (text "10x") (int 1) ∷ []) ∷ [])

no_number : run [] [] no_number_tree 100000 100000 ≡ Fails (codes "[string \"channel program\"]:1: attempt to perform arithmetic on a string value") 5 165 []
unfolding computing
no_number = refl

-- return 1 - {}
abbrev no_number_right_tree : Tree
no_number_right_tree = block (gives (binary bin.Sub (int 1) (table no_field) ∷ []) ∷ [])

no_number_right : run [] [] no_number_right_tree 100000 100000 ≡ Fails (codes "[string \"channel program\"]:1: attempt to perform arithmetic on a table value") 5 228 []
unfolding computing
no_number_right = refl

-- return 1 .. "a" .. -2
abbrev joins_numbers_and_texts_tree : Tree
joins_numbers_and_texts_tree = block (gives (binary bin.Concat (int 1) (binary bin.Concat (text "a") (Unary 0 1 un.Neg (int 2))) ∷ []) ∷ [])

joins_numbers_and_texts : run [] [] joins_numbers_and_texts_tree 100000 100000 ≡ Answers (value.Text (codes "1a-2") ∷ []) 8 119 []
unfolding computing
joins_numbers_and_texts = refl

-- return "a" .. nil
abbrev joins_nil_tree : Tree
joins_nil_tree = block (gives (binary bin.Concat (text "a") nil ∷ []) ∷ [])

joins_nil : run [] [] joins_nil_tree 100000 100000 ≡ Fails (codes "[string \"channel program\"]:1: attempt to concatenate a nil value") 5 152 []
unfolding computing
joins_nil = refl

-- local s = "0123456789" s = s .. s s = s .. s s = s .. s s = s .. s return s == s .. ""
abbrev joining_costs_instructions_tree : Tree
joining_costs_instructions_tree = block
    (local 0 ("s" ∷ []) (text "0123456789" ∷ [])
    ∷ assign (name 0 "s" ∷ []) (binary bin.Concat (name 0 "s") (name 0 "s") ∷ [])
    ∷ assign (name 0 "s" ∷ []) (binary bin.Concat (name 0 "s") (name 0 "s") ∷ [])
    ∷ assign (name 0 "s" ∷ []) (binary bin.Concat (name 0 "s") (name 0 "s") ∷ [])
    ∷ assign (name 0 "s" ∷ []) (binary bin.Concat (name 0 "s") (name 0 "s") ∷ [])
    ∷ gives (binary bin.Eq (name 0 "s") (binary bin.Concat (name 0 "s") (text "")) ∷ []) ∷ [])

joining_costs_instructions : run [] [] joining_costs_instructions_tree 100000 100000 ≡ Answers (value.Bool true ∷ []) 34 644 []
unfolding computing
joining_costs_instructions = refl

-- local s = "0123456789" s = s .. s s = s .. s s = s .. s return s
abbrev joining_stays_below_the_limit_tree : Tree
joining_stays_below_the_limit_tree = block
    (local 0 ("s" ∷ []) (text "0123456789" ∷ [])
    ∷ assign (name 0 "s" ∷ []) (binary bin.Concat (name 0 "s") (name 0 "s") ∷ [])
    ∷ assign (name 0 "s" ∷ []) (binary bin.Concat (name 0 "s") (name 0 "s") ∷ [])
    ∷ assign (name 0 "s" ∷ []) (binary bin.Concat (name 0 "s") (name 0 "s") ∷ [])
    ∷ gives (name 0 "s" ∷ []) ∷ [])

joining_stays_below_the_limit : run [] [] joining_stays_below_the_limit_tree 29 1000 ≡ Answers (value.Text (codes "01234567890123456789012345678901234567890123456789012345678901234567890123456789") ∷ []) 21 276 []
unfolding computing
joining_stays_below_the_limit = refl

-- local s = "0123456789" s = s .. s s = s .. s s = s .. s return s
abbrev joining_stops_at_memory_tree : Tree
joining_stops_at_memory_tree = block
    (local 0 ("s" ∷ []) (text "0123456789" ∷ [])
    ∷ assign (name 0 "s" ∷ []) (binary bin.Concat (name 0 "s") (name 0 "s") ∷ [])
    ∷ assign (name 0 "s" ∷ []) (binary bin.Concat (name 0 "s") (name 0 "s") ∷ [])
    ∷ assign (name 0 "s" ∷ []) (binary bin.Concat (name 0 "s") (name 0 "s") ∷ [])
    ∷ gives (name 0 "s" ∷ []) ∷ [])

joining_stops_at_memory : run [] [] joining_stops_at_memory_tree 100 200 ≡ Ends stop.Memory 18 172 []
unfolding computing
joining_stops_at_memory = refl

-- return "a" < "b" and "a" <= "a" and not ("b" < "a") and "a" < "aa"
abbrev compare_texts_tree : Tree
compare_texts_tree = block
    (gives
    (Logic 0 1 logic_op.And
    (Logic 0 1 logic_op.And
    (Logic 0 1 logic_op.And (binary bin.Less (text "a") (text "b"))
    (binary bin.LessEq (text "a") (text "a")))
    (Unary 0 1 un.Not (Paren 0 1 (binary bin.Less (text "b") (text "a")))))
    (binary bin.Less (text "a") (text "aa")) ∷ []) ∷ [])

compare_texts : run [] [] compare_texts_tree 100000 100000 ≡ Answers (value.Bool true ∷ []) 19 64 []
unfolding computing
compare_texts = refl

-- return 1 < 2 and 2 <= 2 and 3 > 2 and 3 >= 3 and 1 ~= 2
abbrev compare_numbers_tree : Tree
compare_numbers_tree = block
    (gives
    (Logic 0 1 logic_op.And
    (Logic 0 1 logic_op.And
    (Logic 0 1 logic_op.And
    (Logic 0 1 logic_op.And (binary bin.Less (int 1) (int 2)) (binary bin.LessEq (int 2) (int 2)))
    (binary bin.Greater (int 3) (int 2)))
    (binary bin.GreaterEq (int 3) (int 3)))
    (binary bin.Ne (int 1) (int 2)) ∷ []) ∷ [])

compare_numbers : run [] [] compare_numbers_tree 100000 100000 ≡ Answers (value.Bool true ∷ []) 21 64 []
unfolding computing
compare_numbers = refl

-- return 1 > "x"
abbrev compare_kinds_tree : Tree
compare_kinds_tree = block (gives (binary bin.Greater (int 1) (text "x") ∷ []) ∷ [])

compare_kinds : run [] [] compare_kinds_tree 100000 100000 ≡ Fails (codes "[string \"channel program\"]:1: attempt to compare string with number") 5 155 []
unfolding computing
compare_kinds = refl

-- return nil <= 1
abbrev compare_nil_tree : Tree
compare_nil_tree = block (gives (binary bin.LessEq nil (int 1) ∷ []) ∷ [])

compare_nil : run [] [] compare_nil_tree 100000 100000 ≡ Fails (codes "[string \"channel program\"]:1: attempt to compare nil with number") 5 152 []
unfolding computing
compare_nil = refl

-- return 1 == "1" or {} == {}
abbrev equal_kinds_tree : Tree
equal_kinds_tree = block
    (gives
    (Logic 0 1 logic_op.Or (binary bin.Eq (int 1) (text "1")) (binary bin.Eq (table no_field) (table no_field)) ∷ []) ∷ [])

equal_kinds : run [] [] equal_kinds_tree 100000 100000 ≡ Answers (value.Bool false ∷ []) 9 192 []
unfolding computing
equal_kinds = refl

-- return -"2"
abbrev minus_of_a_text_tree : Tree
minus_of_a_text_tree = block (gives (Unary 0 1 un.Neg (text "2") ∷ []) ∷ [])

minus_of_a_text : run [] [] minus_of_a_text_tree 100 1000 ≡ Answers (value.Int (negsuc 1) ∷ []) 4 64 []
unfolding computing
minus_of_a_text = refl

-- return #{1, nil, 3}
abbrev least_border_tree : Tree
least_border_tree = block (gives (Unary 0 1 un.Len (table (item (item (item no_field (int 1)) nil) (int 3))) ∷ []) ∷ [])

least_border : run [] [] least_border_tree 100 1000 ≡ Answers (value.Int (pos 1) ∷ []) 7 224 []
unfolding computing
least_border = refl

-- return #5
abbrev length_of_a_number_tree : Tree
length_of_a_number_tree = block (gives (Unary 0 1 un.Len (int 5) ∷ []) ∷ [])

length_of_a_number : run [] [] length_of_a_number_tree 100 1000 ≡ Fails (codes "[string \"channel program\"]:1: attempt to get length of a number value") 4 157 []
unfolding computing
length_of_a_number = refl

-- return {} .. "a"
abbrev joins_a_table_tree : Tree
joins_a_table_tree = block (gives (binary bin.Concat (table no_field) (text "a") ∷ []) ∷ [])

joins_a_table : run [] [] joins_a_table_tree 100 1000 ≡ Fails (codes "[string \"channel program\"]:1: attempt to concatenate a table value") 5 218 []
unfolding computing
joins_a_table = refl

-- return "0123456789012345678901234567890123456789012345678901234567890123" .. ""
-- The memory of the result comes before its instructions.
abbrev joining_takes_memory_first_tree : Tree
joining_takes_memory_first_tree = block
    (gives (binary bin.Concat (text "0123456789012345678901234567890123456789012345678901234567890123") (text "") ∷ []) ∷ [])

joining_takes_memory_first : run [] [] joining_takes_memory_first_tree 5 1000 ≡ Ends stop.Instructions 5 152 []
unfolding computing
joining_takes_memory_first = refl

-- return "-9223372036854775808" + 0
-- A numeral has to be in range without its sign.
abbrev text_out_of_range_tree : Tree
text_out_of_range_tree = block (gives (binary bin.Add (text "-9223372036854775808") (int 0) ∷ []) ∷ [])

text_out_of_range : run [] [] text_out_of_range_tree 100 1000 ≡ Fails (codes "[string \"channel program\"]:1: attempt to perform arithmetic on a string value") 5 165 []
unfolding computing
text_out_of_range = refl

-- return "\t+7\f" + "-0xA"
abbrev texts_with_signs_tree : Tree
texts_with_signs_tree = block (gives (binary bin.Add (Const 0 1 (literal.Text (9 ∷ 43 ∷ 55 ∷ 12 ∷ []))) (text "-0xA") ∷ []) ∷ [])

texts_with_signs : run [] [] texts_with_signs_tree 100 1000 ≡ Answers (value.Int (negsuc 2) ∷ []) 5 64 []
unfolding computing
texts_with_signs = refl

-- return nil .. {}
-- Where both operands fail, the text names the type of the first.
abbrev two_operands_fail_tree : Tree
two_operands_fail_tree = block (gives (binary bin.Concat nil (table no_field) ∷ []) ∷ [])

two_operands_fail : run [] [] two_operands_fail_tree 100 1000 ≡ Fails (codes "[string \"channel program\"]:1: attempt to concatenate a nil value") 5 216 []
unfolding computing
two_operands_fail = refl

-- return 1 +
-- -nil
-- The line is that of the operator at work, not of the expression around it.
abbrev line_of_an_operand_tree : Tree
line_of_an_operand_tree = block (gives (binary bin.Add (int 1) (Unary 0 2 un.Neg (Const 0 2 literal.Nil)) ∷ []) ∷ [])

line_of_an_operand : run [] [] line_of_an_operand_tree 100 1000 ≡ Fails (codes "[string \"channel program\"]:2: attempt to perform arithmetic on a nil value") 6 162 []
unfolding computing
line_of_an_operand = refl
