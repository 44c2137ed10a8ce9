-- Lists of values and how they are adjusted (Lua 5.2 manual, 3.4). Before each example stands its text.
use Rattle.std.specs.Prelude.{◌≡◌, refl, ℕ, zero, suc, pos, true, false, List, [], ◌∷◌, codes}
use Rattle.std.specs.Fmt.{digits}
use Rattle.std.specs.Int.{int_wrap}
use Rattle.lua_ast.specs.declared.node.Literal.TheVariants as literal
use Rattle.lua_ast.specs.declared.node.BinOp.TheVariants as bin
use Rattle.lua_ast.specs.declared.node.UnOp.TheVariants as un
use Rattle.lua_ast.specs.declared.node.LogicOp.TheVariants as logic_op
use Rattle.lua_ast.specs.Tree.{Tree, Block, CallStat, Return, Const, Vararg, Function, Name, Index, Call, Method, Logic, Unary, Paren, no_field, item, named}
use Rattle.lua_meaning.specs.declared.value.Value.TheVariants as value
use Rattle.lua_meaning.specs.Nodes.{eval, statements, each_first, expressions, targets_of, target_of, choose, maybe_eval, step_of, each_field, all_fields}
use Rattle.lua_meaning.specs.Programs.{jobs, resume}
use Rattle.lua_meaning.proofs.Writing.{parts, int, text, name, global, dot, call, binary, table, function, block, gives, local, local_function, written}
use Rattle.lua_meaning.proofs.SampleHost.{run, Answers, Fails}

-- What the examples compute with.
computing : Unit {0}
unfolding eval statements each_first expressions targets_of target_of choose maybe_eval step_of each_field all_fields jobs resume digits int_wrap
computing = tt

-- local function t(...) return 1, 1, 1, 1, 1, 1, 1, 1, 1, 1, 1, 1, 1, 1, 1, 1, 1, 1, 1, 1, 1, 1, 1, 1, 1, ... end
abbrev twenty_five_more : Tree
twenty_five_more = function 100 [] true (gives (repeat (int 1) 25 (Vararg 0 1 ∷ [])) ∷ [])
  where
    repeat : Tree → ℕ → List Tree → List Tree
    repeat t zero ts = ts
    repeat t (suc n) ts = t ∷ repeat t n ts

-- t(t(t(t(t(t(t(t(t(t()))))))))), where t is variable 0
abbrev two_hundred_and_fifty : Tree
two_hundred_and_fifty = times 9
  where
    times : ℕ → Tree
    times zero = call (name 0 "t") []
    times (suc n) = call (name 0 "t") (times n ∷ [])

-- local function f() return 1, 2, 3 end local t = {f(), f()} return #t
abbrev table_last_call_function : Tree
table_last_call_function = function 100 [] false (gives (int 1 ∷ int 2 ∷ int 3 ∷ []) ∷ [])

abbrev table_last_call_tree : Tree
table_last_call_tree = block
    (local_function 0 "f" table_last_call_function
    ∷ local 1 ("t" ∷ []) (table (item (item no_field (call (name 0 "f") [])) (call (name 0 "f") [])) ∷ [])
    ∷ gives (Unary 0 1 un.Len (name 1 "t") ∷ []) ∷ [])

table_last_call : run (written table_last_call_function 0 [] ∷ []) [] table_last_call_tree 100000 100000 ≡ Answers (value.Int (pos 4) ∷ []) 22 368 []
unfolding computing
table_last_call = refl

-- local function f() return 1, 2, 3 end local t = {f(), (f())} return #t
abbrev table_paren_function : Tree
table_paren_function = function 100 [] false (gives (int 1 ∷ int 2 ∷ int 3 ∷ []) ∷ [])

abbrev table_paren_tree : Tree
table_paren_tree = block
    (local_function 0 "f" table_paren_function
    ∷ local 1 ("t" ∷ []) (table (item (item no_field (call (name 0 "f") [])) (Paren 0 1 (call (name 0 "f") []))) ∷ [])
    ∷ gives (Unary 0 1 un.Len (name 1 "t") ∷ []) ∷ [])

table_paren : run (written table_paren_function 0 [] ∷ []) [] table_paren_tree 100000 100000 ≡ Answers (value.Int (pos 2) ∷ []) 23 272 []
unfolding computing
table_paren = refl

-- local function f(...) local t = {..., ...} return #t end return f(1, 2, 3)
abbrev table_varargs_function : Tree
table_varargs_function = function 100 [] true
    (local 1 ("t" ∷ []) (table (item (item no_field (Vararg 0 1)) (Vararg 0 1)) ∷ [])
    ∷ gives (Unary 0 1 un.Len (name 1 "t") ∷ []) ∷ [])

abbrev table_varargs_tree : Tree
table_varargs_tree = block (local_function 0 "f" table_varargs_function ∷ gives (call (name 0 "f") (int 1 ∷ int 2 ∷ int 3 ∷ []) ∷ []) ∷ [])

table_varargs : run (written table_varargs_function 0 [] ∷ []) [] table_varargs_tree 100000 100000 ≡ Answers (value.Int (pos 4) ∷ []) 17 368 []
unfolding computing
table_varargs = refl

-- local function f(a, ...) local b, c = ... return a + b * 10 + (c or 5) * 100 end return f(1, 2)
abbrev varargs_adjust_function : Tree
varargs_adjust_function = function 100 ("a" ∷ []) true
    (local 2 ("b" ∷ "c" ∷ []) (Vararg 0 1 ∷ [])
    ∷ gives
    (binary bin.Add
    (binary bin.Add (name 1 "a") (binary bin.Mul (name 2 "b") (int 10)))
    (binary bin.Mul (Paren 0 1 (Logic 0 1 logic_op.Or (name 3 "c") (int 5))) (int 100)) ∷ []) ∷ [])

abbrev varargs_adjust_tree : Tree
varargs_adjust_tree = block (local_function 0 "f" varargs_adjust_function ∷ gives (call (name 0 "f") (int 1 ∷ int 2 ∷ []) ∷ []) ∷ [])

varargs_adjust : run (written varargs_adjust_function 1 [] ∷ []) [] varargs_adjust_tree 100000 100000 ≡ Answers (value.Int (pos 521) ∷ []) 24 112 []
unfolding computing
varargs_adjust = refl

-- local function f(...) return (...) end return f(7, 8)
abbrev varargs_first_function : Tree
varargs_first_function = function 100 [] true (gives (Paren 0 1 (Vararg 0 1) ∷ []) ∷ [])

abbrev varargs_first_tree : Tree
varargs_first_tree = block (local_function 0 "f" varargs_first_function ∷ gives (call (name 0 "f") (int 7 ∷ int 8 ∷ []) ∷ []) ∷ [])

varargs_first : run (written varargs_first_function 0 [] ∷ []) [] varargs_first_tree 100000 100000 ≡ Answers (value.Int (pos 7) ∷ []) 12 112 []
unfolding computing
varargs_first = refl

-- local function f(a, b, c) return a * 100 + b * 10 + c end local function g() return 2, 3 end return f(1, g())
abbrev args_last_function_1 : Tree
args_last_function_1 = function 100 ("a" ∷ "b" ∷ "c" ∷ []) false
    (gives
    (binary bin.Add
    (binary bin.Add (binary bin.Mul (name 1 "a") (int 100)) (binary bin.Mul (name 2 "b") (int 10)))
    (name 3 "c") ∷ []) ∷ [])

abbrev args_last_function_2 : Tree
args_last_function_2 = function 101 [] false (gives (int 2 ∷ int 3 ∷ []) ∷ [])

abbrev args_last_tree : Tree
args_last_tree = block
    (local_function 0 "f" args_last_function_1
    ∷ local_function 4 "g" args_last_function_2
    ∷ gives (call (name 0 "f") (int 1 ∷ call (name 4 "g") [] ∷ []) ∷ []) ∷ [])

args_last : run (written args_last_function_1 1 [] ∷ written args_last_function_2 0 [] ∷ []) [] args_last_tree 100000 100000 ≡ Answers (value.Int (pos 123) ∷ []) 26 160 []
unfolding computing
args_last = refl

-- local function f(a, b, c) return a * 100 + b * 10 + (c or 0) end local function g() return 2, 3 end return f(g(), 1)
abbrev args_middle_function_1 : Tree
args_middle_function_1 = function 100 ("a" ∷ "b" ∷ "c" ∷ []) false
    (gives
    (binary bin.Add
    (binary bin.Add (binary bin.Mul (name 1 "a") (int 100)) (binary bin.Mul (name 2 "b") (int 10)))
    (Paren 0 1 (Logic 0 1 logic_op.Or (name 3 "c") (int 0))) ∷ []) ∷ [])

abbrev args_middle_function_2 : Tree
args_middle_function_2 = function 101 [] false (gives (int 2 ∷ int 3 ∷ []) ∷ [])

abbrev args_middle_tree : Tree
args_middle_tree = block
    (local_function 0 "f" args_middle_function_1
    ∷ local_function 4 "g" args_middle_function_2
    ∷ gives (call (name 0 "f") (call (name 4 "g") [] ∷ int 1 ∷ []) ∷ []) ∷ [])

args_middle : run (written args_middle_function_1 1 [] ∷ written args_middle_function_2 0 [] ∷ []) [] args_middle_tree 100000 100000 ≡ Answers (value.Int (pos 210) ∷ []) 29 160 []
unfolding computing
args_middle = refl

-- local function f() return 1, 2 end local t = {true and f()} return #t
abbrev logic_gives_one_value_function : Tree
logic_gives_one_value_function = function 100 [] false (gives (int 1 ∷ int 2 ∷ []) ∷ [])

abbrev logic_gives_one_value_tree : Tree
logic_gives_one_value_tree = block
    (local_function 0 "f" logic_gives_one_value_function
    ∷ local 1 ("t" ∷ [])
    (table (item no_field (Logic 0 1 logic_op.And (Const 0 1 (literal.Bool true)) (call (name 0 "f") []))) ∷ [])
    ∷ gives (Unary 0 1 un.Len (name 1 "t") ∷ []) ∷ [])

logic_gives_one_value : run (written logic_gives_one_value_function 0 [] ∷ []) [] logic_gives_one_value_tree 100000 100000 ≡ Answers (value.Int (pos 1) ∷ []) 16 224 []
unfolding computing
logic_gives_one_value = refl

-- local function t(...) return 1, 1, 1, 1, 1, 1, 1, 1, 1, 1, 1, 1, 1, 1, 1, 1, 1, 1, 1, 1, 1, 1, 1, 1, 1, ... end return #{t(t(t(t(t(t(t(t(t(t())))))))))}
abbrev values_250_tree : Tree
values_250_tree = block
    (local_function 0 "t" twenty_five_more
    ∷ gives (Unary 0 1 un.Len (table (item no_field two_hundred_and_fifty)) ∷ []) ∷ [])

values_250 : run (written twenty_five_more 0 [] ∷ []) [] values_250_tree 100000 100000 ≡ Answers (value.Int (pos 250) ∷ []) 306 12176 []
unfolding computing
values_250 = refl

-- local function t(...) return 1, 1, 1, 1, 1, 1, 1, 1, 1, 1, 1, 1, 1, 1, 1, 1, 1, 1, 1, 1, 1, 1, 1, 1, 1, ... end local function u(...)
-- return 1, ... end
-- return u(t(t(t(t(t(t(t(t(t(t()))))))))))
abbrev results_251_function_2 : Tree
results_251_function_2 = Function 101 1 [] true (Block 0 2 (parts (Return 0 2 (parts (int 1 ∷ Vararg 0 2 ∷ [])) ∷ [])))

abbrev results_251_tree : Tree
results_251_tree = block
    (local_function 0 "t" twenty_five_more
    ∷ local_function 1 "u" results_251_function_2
    ∷ Return 0 3 (parts (Call 0 3 (Name 2 3 (codes "u")) (parts (two_hundred_and_fifty ∷ [])) ∷ [])) ∷ [])

results_251 : run (written twenty_five_more 0 [] ∷ written results_251_function_2 0 [] ∷ []) [] results_251_tree 100000 100000 ≡ Fails (codes "[string \"channel program\"]:2: too many values") 312 229 []
unfolding computing
results_251 = refl

-- local function t(...) return 1, 1, 1, 1, 1, 1, 1, 1, 1, 1, 1, 1, 1, 1, 1, 1, 1, 1, 1, 1, 1, 1, 1, 1, 1, ... end local x = 5
-- return x(1, t(t(t(t(t(t(t(t(t(t()))))))))))
abbrev args_251_tree : Tree
args_251_tree = block
    (local_function 0 "t" twenty_five_more
    ∷ local 1 ("x" ∷ []) (int 5 ∷ [])
    ∷ Return 0 2 (parts (Call 0 2 (Name 2 2 (codes "x")) (parts (int 1 ∷ two_hundred_and_fifty ∷ [])) ∷ [])) ∷ [])

args_251 : run (written twenty_five_more 0 [] ∷ []) [] args_251_tree 100000 100000 ≡ Fails (codes "[string \"channel program\"]:2: too many values") 309 181 []
unfolding computing
args_251 = refl

-- local function t(...) return 1, 1, 1, 1, 1, 1, 1, 1, 1, 1, 1, 1, 1, 1, 1, 1, 1, 1, 1, 1, 1, 1, 1, 1, 1, ... end local co = coroutine.create(function() return t(t(t(t(t(t(t(t(t(t()))))))))) end)
-- return coroutine.resume(co)
abbrev resume_251_function_2 : Tree
resume_251_function_2 = function 101 [] false (gives (two_hundred_and_fifty ∷ []) ∷ [])

abbrev resume_251_tree : Tree
resume_251_tree = block
    (local_function 0 "t" twenty_five_more
    ∷ local 1 ("co" ∷ []) (call (dot (global "coroutine") "create") (resume_251_function_2 ∷ []) ∷ [])
    ∷ Return 0 2
    (parts
    (Call 0 2 (Index 0 2 (Name 0 2 (codes "coroutine")) (text "resume")) (parts (Name 2 2 (codes "co") ∷ [])) ∷ [])) ∷ [])

resume_251 : run (written twenty_five_more 0 [] ∷ written resume_251_function_2 0 (0 ∷ []) ∷ []) (0 ∷ []) resume_251_tree 100000 100000 ≡ Fails (codes "[string \"channel program\"]:2: too many values") 319 525 []
unfolding computing
resume_251 = refl

-- local function t(...) return 1, 1, 1, 1, 1, 1, 1, 1, 1, 1, 1, 1, 1, 1, 1, 1, 1, 1, 1, 1, 1, 1, 1, 1, 1, ... end local o = setmetatable({}, {__call = function() end})
-- o(t(t(t(t(t(t(t(t(t(t()))))))))))
abbrev call_front_251_function_2 : Tree
call_front_251_function_2 = function 101 [] false []

abbrev call_front_251_tree : Tree
call_front_251_tree = block
    (local_function 0 "t" twenty_five_more
    ∷ local 1 ("o" ∷ [])
    (call (global "setmetatable")
    (table no_field ∷ table (named no_field (codes "__call") call_front_251_function_2) ∷ []) ∷ [])
    ∷ CallStat 0 2 (Call 0 2 (Name 2 2 (codes "o")) (parts (two_hundred_and_fifty ∷ []))) ∷ [])

call_front_251 : run (written twenty_five_more 0 [] ∷ written call_front_251_function_2 0 [] ∷ []) [] call_front_251_tree 100000 100000 ≡ Fails (codes "[string \"channel program\"]:2: too many values") 314 405 []
unfolding computing
call_front_251 = refl

-- local function t(...) return 1, 1, 1, 1, 1, 1, 1, 1, 1, 1, 1, 1, 1, 1, 1, 1, 1, 1, 1, 1, 1, 1, 1, 1, 1, ... end local o = {}
-- o:m(t(t(t(t(t(t(t(t(t(t()))))))))))
-- The object counts, and the list is told before the nil that would be called.
abbrev method_251_tree : Tree
method_251_tree = block
    (local_function 0 "t" twenty_five_more
    ∷ local 1 ("o" ∷ []) (table no_field ∷ [])
    ∷ CallStat 0 2 (Method 0 2 (Name 2 2 (codes "o")) (codes "m") (parts (two_hundred_and_fifty ∷ []))) ∷ [])

method_251 : run (written twenty_five_more 0 [] ∷ []) [] method_251_tree 100000 100000 ≡ Fails (codes "[string \"channel program\"]:2: too many values") 308 245 []
unfolding computing
method_251 = refl
