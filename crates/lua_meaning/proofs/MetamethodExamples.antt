-- Metamethods (Lua 5.2 manual, 2.4). Before each example stands its text.
use Rattle.std.specs.Prelude.{◌≡◌, refl, pos, true, false, [], ◌∷◌, codes}
use Rattle.std.specs.Fmt.{digits}
use Rattle.std.specs.Int.{int_wrap}
use Rattle.lua_ast.specs.declared.node.Literal.TheVariants as literal
use Rattle.lua_ast.specs.declared.node.BinOp.TheVariants as bin
use Rattle.lua_ast.specs.declared.node.UnOp.TheVariants as un
use Rattle.lua_ast.specs.declared.node.LogicOp.TheVariants as logic_op
use Rattle.lua_ast.specs.Tree.{Tree, GenFor, Return, Const, Vararg, Name, Call, Binary, Logic, Unary, Paren, no_field, item, named}
use Rattle.lua_meaning.specs.declared.value.Value.TheVariants as value
use Rattle.lua_meaning.specs.Nodes.{eval, statements, each_first, expressions, targets_of, target_of, choose, maybe_eval, step_of, each_field, all_fields}
use Rattle.lua_meaning.specs.Programs.{jobs, resume}
use Rattle.lua_meaning.proofs.Writing.{parts, int, text, nil, name, global, dot, call, binary, table, function, block, gives, local, local_function, assign, written}
use Rattle.lua_meaning.proofs.SampleHost.{run, Answers, Fails}

-- What the examples compute with.
computing : Unit {0}
unfolding eval statements each_first expressions targets_of target_of choose maybe_eval step_of each_field all_fields jobs resume digits int_wrap
computing = tt

-- local m = {} m.__add = function(a, b) return 42 end local t = setmetatable({}, m) return t + 1 + (1 + t)
abbrev adds_by_metamethod_function : Tree
adds_by_metamethod_function = function 100 ("a" ∷ "b" ∷ []) false (gives (int 42 ∷ []) ∷ [])

abbrev adds_by_metamethod_tree : Tree
adds_by_metamethod_tree = block
    (local 0 ("m" ∷ []) (table no_field ∷ [])
    ∷ assign (dot (name 0 "m") "__add" ∷ []) (adds_by_metamethod_function ∷ [])
    ∷ local 3 ("t" ∷ []) (call (global "setmetatable") (table no_field ∷ name 0 "m" ∷ []) ∷ [])
    ∷ gives
    (binary bin.Add (binary bin.Add (name 3 "t") (int 1)) (Paren 0 1 (binary bin.Add (int 1) (name 3 "t"))) ∷ []) ∷ [])

adds_by_metamethod : run (written adds_by_metamethod_function 1 [] ∷ []) [] adds_by_metamethod_tree 100000 100000 ≡ Answers (value.Int (pos 84) ∷ []) 31 288 []
unfolding computing
adds_by_metamethod = refl

-- local m = {__sub = function() return 1 end, __mul = function() return 2 end, __div = function() return 3 end, __mod = function() return 4 end, __pow = function() return 5 end, __concat = function() return 6 end, __unm = function() return 7 end, __len = function() return 8 end} local t = setmetatable({}, m) return ((((((t - t) * 10 + t * t) * 10 + t / t) * 10 + t % t) * 10 + t ^ t) * 10 + (t .. t)) * 100 + -t * 10 + #t
abbrev metamethod_of_each_operator_function_1 : Tree
metamethod_of_each_operator_function_1 = function 100 [] false (gives (int 1 ∷ []) ∷ [])

abbrev metamethod_of_each_operator_function_2 : Tree
metamethod_of_each_operator_function_2 = function 101 [] false (gives (int 2 ∷ []) ∷ [])

abbrev metamethod_of_each_operator_function_3 : Tree
metamethod_of_each_operator_function_3 = function 102 [] false (gives (int 3 ∷ []) ∷ [])

abbrev metamethod_of_each_operator_function_4 : Tree
metamethod_of_each_operator_function_4 = function 103 [] false (gives (int 4 ∷ []) ∷ [])

abbrev metamethod_of_each_operator_function_5 : Tree
metamethod_of_each_operator_function_5 = function 104 [] false (gives (int 5 ∷ []) ∷ [])

abbrev metamethod_of_each_operator_function_6 : Tree
metamethod_of_each_operator_function_6 = function 105 [] false (gives (int 6 ∷ []) ∷ [])

abbrev metamethod_of_each_operator_function_7 : Tree
metamethod_of_each_operator_function_7 = function 106 [] false (gives (int 7 ∷ []) ∷ [])

abbrev metamethod_of_each_operator_function_8 : Tree
metamethod_of_each_operator_function_8 = function 107 [] false (gives (int 8 ∷ []) ∷ [])

abbrev metamethod_of_each_operator_tree : Tree
metamethod_of_each_operator_tree = block
    (local 0 ("m" ∷ [])
    (table
    (named
    (named
    (named
    (named
    (named
    (named
    (named
    (named no_field (codes "__sub") metamethod_of_each_operator_function_1)
    (codes "__mul")
    metamethod_of_each_operator_function_2)
    (codes "__div")
    metamethod_of_each_operator_function_3)
    (codes "__mod")
    metamethod_of_each_operator_function_4)
    (codes "__pow")
    metamethod_of_each_operator_function_5)
    (codes "__concat")
    metamethod_of_each_operator_function_6)
    (codes "__unm")
    metamethod_of_each_operator_function_7)
    (codes "__len")
    metamethod_of_each_operator_function_8) ∷ [])
    ∷ local 1 ("t" ∷ []) (call (global "setmetatable") (table no_field ∷ name 0 "m" ∷ []) ∷ [])
    ∷ gives
    (binary bin.Add
    (binary bin.Add
    (binary bin.Mul
    (Paren 0 1
    (binary bin.Add
    (binary bin.Mul
    (Paren 0 1
    (binary bin.Add
    (binary bin.Mul
    (Paren 0 1
    (binary bin.Add
    (binary bin.Mul
    (Paren 0 1
    (binary bin.Add
    (binary bin.Mul
    (Paren 0 1
    (binary bin.Add
    (binary
    bin.Mul
    (Paren
    0
    1
    (
    binary
    bin.Sub
    (name 1 "t")
    (name 1 "t")))
    (int 10))
    (binary bin.Mul (name 1 "t") (name 1 "t"))))
    (int 10))
    (binary bin.Div (name 1 "t") (name 1 "t"))))
    (int 10))
    (binary bin.Mod (name 1 "t") (name 1 "t"))))
    (int 10))
    (binary bin.Pow (name 1 "t") (name 1 "t"))))
    (int 10))
    (Paren 0 1 (binary bin.Concat (name 1 "t") (name 1 "t")))))
    (int 100))
    (binary bin.Mul (Unary 0 1 un.Neg (name 1 "t")) (int 10)))
    (Unary 0 1 un.Len (name 1 "t")) ∷ []) ∷ [])

metamethod_of_each_operator : run (written metamethod_of_each_operator_function_1 0 [] ∷ written metamethod_of_each_operator_function_2 0 [] ∷ written metamethod_of_each_operator_function_3 0 [] ∷ written metamethod_of_each_operator_function_4 0 [] ∷ written metamethod_of_each_operator_function_5 0 [] ∷ written metamethod_of_each_operator_function_6 0 [] ∷ written metamethod_of_each_operator_function_7 0 [] ∷ written metamethod_of_each_operator_function_8 0 [] ∷ []) [] metamethod_of_each_operator_tree 100000 100000 ≡ Answers (value.Int (pos 12345678) ∷ []) 100 960 []
unfolding computing
metamethod_of_each_operator = refl

-- local m = {__eq = function(a, b) return 1 end} local a, b = setmetatable({}, m), setmetatable({}, m) return a == b and not (a ~= b) and a ~= 1
abbrev equal_by_metamethod_function : Tree
equal_by_metamethod_function = function 100 ("a" ∷ "b" ∷ []) false (gives (int 1 ∷ []) ∷ [])

abbrev equal_by_metamethod_tree : Tree
equal_by_metamethod_tree = block
    (local 0 ("m" ∷ []) (table (named no_field (codes "__eq") equal_by_metamethod_function) ∷ [])
    ∷ local 3 ("a" ∷ "b" ∷ [])
    (call (global "setmetatable") (table no_field ∷ name 0 "m" ∷ [])
    ∷ call (global "setmetatable") (table no_field ∷ name 0 "m" ∷ []) ∷ [])
    ∷ gives
    (Logic 0 1 logic_op.And
    (Logic 0 1 logic_op.And (binary bin.Eq (name 3 "a") (name 4 "b"))
    (Unary 0 1 un.Not (Paren 0 1 (binary bin.Ne (name 3 "a") (name 4 "b")))))
    (binary bin.Ne (name 3 "a") (int 1)) ∷ []) ∷ [])

equal_by_metamethod : run (written equal_by_metamethod_function 1 [] ∷ []) [] equal_by_metamethod_tree 100000 100000 ≡ Answers (value.Bool true ∷ []) 37 352 []
unfolding computing
equal_by_metamethod = refl

-- local m = {__lt = function(a, b) return a.n < b.n end} local a, b = setmetatable({n = 1}, m), setmetatable({n = 2}, m) return a < b and a <= b and not (a > b) and not (a >= b)
abbrev less_by_metamethod_function : Tree
less_by_metamethod_function = function 100 ("a" ∷ "b" ∷ []) false (gives (binary bin.Less (dot (name 1 "a") "n") (dot (name 2 "b") "n") ∷ []) ∷ [])

abbrev less_by_metamethod_tree : Tree
less_by_metamethod_tree = block
    (local 0 ("m" ∷ []) (table (named no_field (codes "__lt") less_by_metamethod_function) ∷ [])
    ∷ local 3 ("a" ∷ "b" ∷ [])
    (call (global "setmetatable") (table (named no_field (codes "n") (int 1)) ∷ name 0 "m" ∷ [])
    ∷ call (global "setmetatable") (table (named no_field (codes "n") (int 2)) ∷ name 0 "m" ∷ []) ∷ [])
    ∷ gives
    (Logic 0 1 logic_op.And
    (Logic 0 1 logic_op.And
    (Logic 0 1 logic_op.And (binary bin.Less (name 3 "a") (name 4 "b"))
    (binary bin.LessEq (name 3 "a") (name 4 "b")))
    (Unary 0 1 un.Not (Paren 0 1 (binary bin.Greater (name 3 "a") (name 4 "b")))))
    (Unary 0 1 un.Not (Paren 0 1 (binary bin.GreaterEq (name 3 "a") (name 4 "b")))) ∷ []) ∷ [])

less_by_metamethod : run (written less_by_metamethod_function 1 [] ∷ []) [] less_by_metamethod_tree 100000 100000 ≡ Answers (value.Bool true ∷ []) 77 448 []
unfolding computing
less_by_metamethod = refl

-- local m = {__le = function(a, b) return a.n <= b.n end} local a, b = setmetatable({n = 1}, m), setmetatable({n = 2}, m) return a <= b and not (a >= b)
abbrev less_or_equal_by_metamethod_function : Tree
less_or_equal_by_metamethod_function = function 100 ("a" ∷ "b" ∷ []) false (gives (binary bin.LessEq (dot (name 1 "a") "n") (dot (name 2 "b") "n") ∷ []) ∷ [])

abbrev less_or_equal_by_metamethod_tree : Tree
less_or_equal_by_metamethod_tree = block
    (local 0 ("m" ∷ []) (table (named no_field (codes "__le") less_or_equal_by_metamethod_function) ∷ [])
    ∷ local 3 ("a" ∷ "b" ∷ [])
    (call (global "setmetatable") (table (named no_field (codes "n") (int 1)) ∷ name 0 "m" ∷ [])
    ∷ call (global "setmetatable") (table (named no_field (codes "n") (int 2)) ∷ name 0 "m" ∷ []) ∷ [])
    ∷ gives
    (Logic 0 1 logic_op.And (binary bin.LessEq (name 3 "a") (name 4 "b"))
    (Unary 0 1 un.Not (Paren 0 1 (binary bin.GreaterEq (name 3 "a") (name 4 "b")))) ∷ []) ∷ [])

less_or_equal_by_metamethod : run (written less_or_equal_by_metamethod_function 1 [] ∷ []) [] less_or_equal_by_metamethod_tree 100000 100000 ≡ Answers (value.Bool true ∷ []) 47 448 []
unfolding computing
less_or_equal_by_metamethod = refl

-- local t = setmetatable({}, {__call = function(self, a, b) return a * 10 + b end}) return t(4, 2)
abbrev call_metamethod_function : Tree
call_metamethod_function = function 100 ("self" ∷ "a" ∷ "b" ∷ []) false
    (gives (binary bin.Add (binary bin.Mul (name 2 "a") (int 10)) (name 3 "b") ∷ []) ∷ [])

abbrev call_metamethod_tree : Tree
call_metamethod_tree = block
    (local 0 ("t" ∷ [])
    (call (global "setmetatable")
    (table no_field ∷ table (named no_field (codes "__call") call_metamethod_function) ∷ []) ∷ [])
    ∷ gives (call (name 0 "t") (int 4 ∷ int 2 ∷ []) ∷ []) ∷ [])

call_metamethod : run (written call_metamethod_function 1 [] ∷ []) [] call_metamethod_tree 100000 100000 ≡ Answers (value.Int (pos 42) ∷ []) 21 288 []
unfolding computing
call_metamethod = refl

-- local f = setmetatable({}, {__call = function(self, t, a) return a end}) local t = setmetatable({}, {__call = f}) return t(7)
abbrev call_metamethod_of_call_metamethod_function : Tree
call_metamethod_of_call_metamethod_function = function 100 ("self" ∷ "t" ∷ "a" ∷ []) false (gives (name 3 "a" ∷ []) ∷ [])

abbrev call_metamethod_of_call_metamethod_tree : Tree
call_metamethod_of_call_metamethod_tree = block
    (local 0 ("f" ∷ [])
    (call (global "setmetatable")
    (table no_field
    ∷ table (named no_field (codes "__call") call_metamethod_of_call_metamethod_function) ∷ []) ∷ [])
    ∷ local 4 ("t" ∷ [])
    (call (global "setmetatable") (table no_field ∷ table (named no_field (codes "__call") (name 0 "f")) ∷ []) ∷ [])
    ∷ gives (call (name 4 "t") (int 7 ∷ []) ∷ []) ∷ [])

call_metamethod_of_call_metamethod : run (written call_metamethod_of_call_metamethod_function 1 [] ∷ []) [] call_metamethod_of_call_metamethod_tree 100000 100000 ≡ Answers (value.Int (pos 7) ∷ []) 24 464 []
unfolding computing
call_metamethod_of_call_metamethod = refl

-- local t = setmetatable({}, {__pairs = function(t) return next, {4, 5}, nil end}) local n = 0 for k, v in pairs(t) do n = n * 10 + v end return n
abbrev pairs_metamethod_function : Tree
pairs_metamethod_function = function 100 ("t" ∷ []) false (gives (global "next" ∷ table (item (item no_field (int 4)) (int 5)) ∷ nil ∷ []) ∷ [])

abbrev pairs_metamethod_tree : Tree
pairs_metamethod_tree = block
    (local 0 ("t" ∷ [])
    (call (global "setmetatable")
    (table no_field ∷ table (named no_field (codes "__pairs") pairs_metamethod_function) ∷ []) ∷ [])
    ∷ local 2 ("n" ∷ []) (int 0 ∷ [])
    ∷ GenFor 3 1 (codes "k" ∷ codes "v" ∷ [])
    (parts (call (global "pairs") (name 0 "t" ∷ []) ∷ []))
    (block
    (assign (name 2 "n" ∷ []) (binary bin.Add (binary bin.Mul (name 2 "n") (int 10)) (name 4 "v") ∷ []) ∷ []))
    ∷ gives (name 2 "n" ∷ []) ∷ [])

pairs_metamethod : run (written pairs_metamethod_function 1 [] ∷ []) [] pairs_metamethod_tree 100000 100000 ≡ Answers (value.Int (pos 45) ∷ []) 46 448 []
unfolding computing
pairs_metamethod = refl

-- local t = setmetatable({}, {__tostring = function() return "me" end}) return tostring(t)
abbrev tostring_metamethod_function : Tree
tostring_metamethod_function = function 100 [] false (gives (text "me" ∷ []) ∷ [])

abbrev tostring_metamethod_tree : Tree
tostring_metamethod_tree = block
    (local 0 ("t" ∷ [])
    (call (global "setmetatable")
    (table no_field ∷ table (named no_field (codes "__tostring") tostring_metamethod_function) ∷ []) ∷ [])
    ∷ gives (call (global "tostring") (name 0 "t" ∷ []) ∷ []) ∷ [])

tostring_metamethod : run (written tostring_metamethod_function 0 [] ∷ []) [] tostring_metamethod_tree 100000 100000 ≡ Answers (value.Text (codes "me") ∷ []) 16 288 []
unfolding computing
tostring_metamethod = refl

-- local t = setmetatable({}, {__tostring = function() return 5 end})
-- return tostring(t)
abbrev tostring_metamethod_gives_no_text_function : Tree
tostring_metamethod_gives_no_text_function = function 100 [] false (gives (int 5 ∷ []) ∷ [])

abbrev tostring_metamethod_gives_no_text_tree : Tree
tostring_metamethod_gives_no_text_tree = block
    (local 0 ("t" ∷ [])
    (call (global "setmetatable")
    (table no_field
    ∷ table (named no_field (codes "__tostring") tostring_metamethod_gives_no_text_function) ∷ []) ∷ [])
    ∷ Return 0 2 (parts (Call 0 2 (Name 0 2 (codes "tostring")) (parts (Name 1 2 (codes "t") ∷ [])) ∷ [])) ∷ [])

tostring_metamethod_gives_no_text : run (written tostring_metamethod_gives_no_text_function 0 [] ∷ []) [] tostring_metamethod_gives_no_text_tree 100000 100000 ≡ Fails (codes "[string \"channel program\"]:2: bad argument 1 to tostring") 16 368 []
unfolding computing
tostring_metamethod_gives_no_text = refl

-- local function f() return true end local function g() return true end
-- return setmetatable({}, {__eq = f}) == setmetatable({}, {__eq = g})
abbrev eq_of_two_functions_f : Tree
eq_of_two_functions_f = function 100 [] false (gives (Const 0 1 (literal.Bool true) ∷ []) ∷ [])

abbrev eq_of_two_functions_g : Tree
eq_of_two_functions_g = function 101 [] false (gives (Const 0 1 (literal.Bool true) ∷ []) ∷ [])

abbrev eq_of_two_functions_tree : Tree
eq_of_two_functions_tree = block
    (local_function 0 "f" eq_of_two_functions_f
    ∷ local_function 1 "g" eq_of_two_functions_g
    ∷ gives
    (binary bin.Eq
    (call (global "setmetatable") (table no_field ∷ table (named no_field (codes "__eq") (name 0 "f")) ∷ []))
    (call (global "setmetatable") (table no_field ∷ table (named no_field (codes "__eq") (name 1 "g")) ∷ [])) ∷ []) ∷ [])

eq_of_two_functions : run (written eq_of_two_functions_f 2 [] ∷ written eq_of_two_functions_g 2 [] ∷ []) [] eq_of_two_functions_tree 100 1000 ≡ Answers (value.Bool false ∷ []) 19 512 []
unfolding computing
eq_of_two_functions = refl

-- local a = setmetatable({}, {__add = function() return 1 end}) local b = setmetatable({}, {__add = function() return 2 end}) return (a + b) * 10 + (b + a)
abbrev metamethod_of_the_left_a : Tree
metamethod_of_the_left_a = function 100 [] false (gives (int 1 ∷ []) ∷ [])

abbrev metamethod_of_the_left_b : Tree
metamethod_of_the_left_b = function 101 [] false (gives (int 2 ∷ []) ∷ [])

abbrev metamethod_of_the_left_tree : Tree
metamethod_of_the_left_tree = block
    (local 0 ("a" ∷ [])
    (call (global "setmetatable") (table no_field ∷ table (named no_field (codes "__add") metamethod_of_the_left_a) ∷ []) ∷ [])
    ∷ local 1 ("b" ∷ [])
    (call (global "setmetatable") (table no_field ∷ table (named no_field (codes "__add") metamethod_of_the_left_b) ∷ []) ∷ [])
    ∷ gives
    (binary bin.Add
    (binary bin.Mul (Paren 0 1 (binary bin.Add (name 0 "a") (name 1 "b"))) (int 10))
    (Paren 0 1 (binary bin.Add (name 1 "b") (name 0 "a"))) ∷ []) ∷ [])

metamethod_of_the_left : run (written metamethod_of_the_left_a 2 [] ∷ written metamethod_of_the_left_b 2 [] ∷ []) [] metamethod_of_the_left_tree 100 1000 ≡ Answers (value.Int (pos 12) ∷ []) 35 512 []
unfolding computing
metamethod_of_the_left = refl

-- local a = setmetatable({}, {__lt = function() return true end}) local b = setmetatable({}, {__lt = function() return false end}) return a <= b
-- It is `not (b < a)`, for which the metamethod of `b` is taken first.
abbrev less_or_equal_by_lt_of_the_right_a : Tree
less_or_equal_by_lt_of_the_right_a = function 100 [] false (gives (Const 0 1 (literal.Bool true) ∷ []) ∷ [])

abbrev less_or_equal_by_lt_of_the_right_b : Tree
less_or_equal_by_lt_of_the_right_b = function 101 [] false (gives (Const 0 1 (literal.Bool false) ∷ []) ∷ [])

abbrev less_or_equal_by_lt_of_the_right_tree : Tree
less_or_equal_by_lt_of_the_right_tree = block
    (local 0 ("a" ∷ [])
    (call (global "setmetatable") (table no_field ∷ table (named no_field (codes "__lt") less_or_equal_by_lt_of_the_right_a) ∷ []) ∷ [])
    ∷ local 1 ("b" ∷ [])
    (call (global "setmetatable") (table no_field ∷ table (named no_field (codes "__lt") less_or_equal_by_lt_of_the_right_b) ∷ []) ∷ [])
    ∷ gives (binary bin.LessEq (name 0 "a") (name 1 "b") ∷ []) ∷ [])

less_or_equal_by_lt_of_the_right : run (written less_or_equal_by_lt_of_the_right_a 2 [] ∷ written less_or_equal_by_lt_of_the_right_b 2 [] ∷ []) [] less_or_equal_by_lt_of_the_right_tree 100 1000 ≡ Answers (value.Bool true ∷ []) 23 512 []
unfolding computing
less_or_equal_by_lt_of_the_right = refl

-- local a = setmetatable({}, {__lt = function() return true end}) local b = setmetatable({}, {__le = function() return true end}) return a <= b
-- `__le` of either comes before `__lt`, which would give false.
abbrev le_before_lt_a : Tree
le_before_lt_a = function 100 [] false (gives (Const 0 1 (literal.Bool true) ∷ []) ∷ [])

abbrev le_before_lt_b : Tree
le_before_lt_b = function 101 [] false (gives (Const 0 1 (literal.Bool true) ∷ []) ∷ [])

abbrev le_before_lt_tree : Tree
le_before_lt_tree = block
    (local 0 ("a" ∷ [])
    (call (global "setmetatable") (table no_field ∷ table (named no_field (codes "__lt") le_before_lt_a) ∷ []) ∷ [])
    ∷ local 1 ("b" ∷ [])
    (call (global "setmetatable") (table no_field ∷ table (named no_field (codes "__le") le_before_lt_b) ∷ []) ∷ [])
    ∷ gives (binary bin.LessEq (name 0 "a") (name 1 "b") ∷ []) ∷ [])

le_before_lt : run (written le_before_lt_a 2 [] ∷ written le_before_lt_b 2 [] ∷ []) [] le_before_lt_tree 100 1000 ≡ Answers (value.Bool true ∷ []) 23 512 []
unfolding computing
le_before_lt = refl

-- local t = setmetatable({}, {__add = 5})
-- return t + 1
-- The instruction of the metamethod comes before its call fails.
abbrev metamethod_is_no_function_tree : Tree
metamethod_is_no_function_tree = block
    (local 0 ("t" ∷ [])
    (call (global "setmetatable") (table no_field ∷ table (named no_field (codes "__add") (int 5)) ∷ []) ∷ [])
    ∷ Return 0 2 (parts (Binary 0 2 bin.Add (Name 1 2 (codes "t")) (int 1) ∷ [])) ∷ [])

metamethod_is_no_function : run [] [] metamethod_is_no_function_tree 100 1000 ≡ Fails (codes "[string \"channel program\"]:2: attempt to call a number value") 13 324 []
unfolding computing
metamethod_is_no_function = refl

-- local t = setmetatable({}, {__unm = function(...) return #{...} end}) return -t
-- A metamethod of an operator on one operand has that argument alone.
abbrev unm_has_one_argument_function : Tree
unm_has_one_argument_function = function 100 [] true (gives (Unary 0 1 un.Len (table (item no_field (Vararg 0 1))) ∷ []) ∷ [])

abbrev unm_has_one_argument_tree : Tree
unm_has_one_argument_tree = block
    (local 0 ("t" ∷ [])
    (call (global "setmetatable") (table no_field ∷ table (named no_field (codes "__unm") unm_has_one_argument_function) ∷ []) ∷ [])
    ∷ gives (Unary 0 1 un.Neg (name 0 "t") ∷ []) ∷ [])

unm_has_one_argument : run (written unm_has_one_argument_function 1 [] ∷ []) [] unm_has_one_argument_tree 100 1000 ≡ Answers (value.Int (pos 1) ∷ []) 17 400 []
unfolding computing
unm_has_one_argument = refl
