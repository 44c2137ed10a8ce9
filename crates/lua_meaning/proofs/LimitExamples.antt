-- The limits of instructions, memory and calls. Before each example stands its text.
use Rattle.std.specs.Prelude.{◌≡◌, refl, pos, true, false, List, [], ◌∷◌, codes}
use Rattle.std.specs.Fmt.{digits}
use Rattle.std.specs.Int.{int_wrap}
use Rattle.zc_budget.specs.declared.budget.Stop.TheVariants as stop
use Rattle.lua_ast.specs.declared.node.Literal.TheVariants as literal
use Rattle.lua_ast.specs.declared.node.BinOp.TheVariants as bin
use Rattle.lua_ast.specs.Tree.{Tree, While, If, NumFor, Const, no_case, case, absent, present, no_field, item, named}
use Rattle.lua_meaning.specs.declared.value.Value.TheVariants as value
use Rattle.lua_meaning.specs.Nodes.{eval, statements, each_first, expressions, targets_of, target_of, choose, maybe_eval, step_of, each_field, all_fields}
use Rattle.lua_meaning.specs.Programs.{jobs, resume}
use Rattle.lua_meaning.proofs.Writing.{int, text, name, global, dot, call, binary, table, function, block, does, gives, local, local_function, assign, goto, label, Written, written}
use Rattle.lua_meaning.proofs.SampleHost.{run, Answers, Fails, Ends}

-- What the examples compute with.
computing : Unit {0}
unfolding eval statements each_first expressions targets_of target_of choose maybe_eval step_of each_field all_fields jobs resume digits int_wrap
computing = tt

-- while true do end
abbrev endless_loop_tree : Tree
endless_loop_tree = block (While 0 1 (Const 0 1 (literal.Bool true)) (block []) ∷ [])

endless_loop : run [] [] endless_loop_tree 1000 100000 ≡ Ends stop.Instructions 1000 64 []
unfolding computing
endless_loop = refl

-- local t = {} while true do t = {t} end
abbrev tables_without_end_tree : Tree
tables_without_end_tree = block
    (local 0 ("t" ∷ []) (table no_field ∷ [])
    ∷ While 0 1 (Const 0 1 (literal.Bool true))
    (block (assign (name 0 "t" ∷ []) (table (item no_field (name 0 "t")) ∷ []) ∷ [])) ∷ [])

tables_without_end : run [] [] tables_without_end_tree 100000 1000 ≡ Ends stop.Memory 60 976 []
unfolding computing
tables_without_end = refl

-- while true do coroutine.create(function() end) end
abbrev coroutines_without_end_function : Tree
coroutines_without_end_function = function 100 [] false []

abbrev coroutines_without_end_tree : Tree
coroutines_without_end_tree = block
    (While 0 1 (Const 0 1 (literal.Bool true))
    (block (does (call (dot (global "coroutine") "create") (coroutines_without_end_function ∷ [])) ∷ [])) ∷ [])

coroutines_without_end : run (written coroutines_without_end_function 0 [] ∷ []) [] coroutines_without_end_tree 100000 1000 ≡ Ends stop.Memory 41 976 []
unfolding computing
coroutines_without_end = refl

-- ::a:: goto a
abbrev endless_goto_tree : Tree
endless_goto_tree = block (label "a" ∷ goto "a" ∷ [])

endless_goto : run [] [] endless_goto_tree 11 100000 ≡ Ends stop.Instructions 11 64 []
unfolding computing
endless_goto = refl

-- error("x")
abbrev error_text_over_memory_tree : Tree
error_text_over_memory_tree = block (does (call (global "error") (text "x" ∷ [])) ∷ [])

error_text_over_memory : run [] [] error_text_over_memory_tree 100000 100 ≡ Ends stop.Memory 6 64 []
unfolding computing
error_text_over_memory = refl

-- error("x")
abbrev error_text_at_memory_tree : Tree
error_text_at_memory_tree = block (does (call (global "error") (text "x" ∷ [])) ∷ [])

error_text_at_memory : run [] [] error_text_at_memory_tree 100000 120 ≡ Fails (codes "[string \"channel program\"]:1: x") 6 119 []
unfolding computing
error_text_at_memory = refl

-- local a = 1 local function f() return a end return 1
abbrev captured_over_memory_function : Tree
captured_over_memory_function = function 100 [] false (gives (name 0 "a" ∷ []) ∷ [])

abbrev captured_over_memory_tree : Tree
captured_over_memory_tree = block (local 0 ("a" ∷ []) (int 1 ∷ []) ∷ local_function 1 "f" captured_over_memory_function ∷ gives (int 1 ∷ []) ∷ [])

captured_over_memory : run (written captured_over_memory_function 0 (0 ∷ []) ∷ []) (0 ∷ []) captured_over_memory_tree 100000 87 ≡ Ends stop.Memory 3 64 []
unfolding computing
captured_over_memory = refl

-- local a = 1 local function f() return a end return 1
abbrev captured_at_memory_function : Tree
captured_at_memory_function = function 100 [] false (gives (name 0 "a" ∷ []) ∷ [])

abbrev captured_at_memory_tree : Tree
captured_at_memory_tree = block (local 0 ("a" ∷ []) (int 1 ∷ []) ∷ local_function 1 "f" captured_at_memory_function ∷ gives (int 1 ∷ []) ∷ [])

captured_at_memory : run (written captured_at_memory_function 0 (0 ∷ []) ∷ []) (0 ∷ []) captured_at_memory_tree 100000 152 ≡ Answers (value.Int (pos 1) ∷ []) 7 152 []
unfolding computing
captured_at_memory = refl

-- x = 1 return x
abbrev key_over_memory_tree : Tree
key_over_memory_tree = block (assign (global "x" ∷ []) (int 1 ∷ []) ∷ gives (global "x" ∷ []) ∷ [])

key_over_memory : run [] [] key_over_memory_tree 100000 111 ≡ Ends stop.Memory 4 64 []
unfolding computing
key_over_memory = refl

-- local co = coroutine.create(function() while true do end end) coroutine.resume(co) return 5
abbrev stop_inside_function : Tree
stop_inside_function = function 100 [] false (While 0 1 (Const 0 1 (literal.Bool true)) (block []) ∷ [])

abbrev stop_inside_tree : Tree
stop_inside_tree = block
    (local 0 ("co" ∷ []) (call (dot (global "coroutine") "create") (stop_inside_function ∷ []) ∷ [])
    ∷ does (call (dot (global "coroutine") "resume") (name 0 "co" ∷ []))
    ∷ gives (int 5 ∷ []) ∷ [])

stop_inside : run (written stop_inside_function 0 [] ∷ []) [] stop_inside_tree 40 100000 ≡ Ends stop.Instructions 40 368 []
unfolding computing
stop_inside = refl

-- local function f() return f() end return f()
abbrev stack_overflow_function : Tree
stack_overflow_function = function 100 [] false (gives (call (name 0 "f") [] ∷ []) ∷ [])

abbrev stack_overflow_tree : Tree
stack_overflow_tree = block (local_function 0 "f" stack_overflow_function ∷ gives (call (name 0 "f") [] ∷ []) ∷ [])

stack_overflow : run (written stack_overflow_function 0 (0 ∷ []) ∷ []) (0 ∷ []) stack_overflow_tree 100000 100000 ≡ Fails (codes "[string \"channel program\"]:1: stack overflow") 802 220 []
unfolding computing
stack_overflow = refl

-- local function g() return coroutine.wrap(g)() end return g()
abbrev wraps_overflow_function : Tree
wraps_overflow_function = function 100 [] false (gives (call (call (dot (global "coroutine") "wrap") (name 0 "g" ∷ [])) [] ∷ []) ∷ [])

abbrev wraps_overflow_tree : Tree
wraps_overflow_tree = block (local_function 0 "g" wraps_overflow_function ∷ gives (call (name 0 "g") [] ∷ []) ∷ [])

wraps_overflow : run (written wraps_overflow_function 0 (0 ∷ []) ∷ []) (0 ∷ []) wraps_overflow_tree 100000 100000 ≡ Fails (codes "[string \"channel program\"]:1: stack overflow") 1005 31900 []
unfolding computing
wraps_overflow = refl

-- local n = 0 for i = 1, 300 do n = n + i end return n
abbrev three_hundred_turns_tree : Tree
three_hundred_turns_tree = block
    (local 0 ("n" ∷ []) (int 0 ∷ [])
    ∷ NumFor 1 1 (codes "i") (int 1) (int 300) absent
    (block (assign (name 0 "n" ∷ []) (binary bin.Add (name 0 "n") (name 1 "i") ∷ []) ∷ []))
    ∷ gives (name 0 "n" ∷ []) ∷ [])

three_hundred_turns : run [] [] three_hundred_turns_tree 100000 100000 ≡ Answers (value.Int (pos 45150) ∷ []) 2108 64 []
unfolding computing
three_hundred_turns = refl

-- local t = setmetatable({}, {__tostring = function() return "" end}) local function f(n) if n == 0 then return tostring(t) else return f(n - 1) end end f(197)
-- `tostring` is a call in progress while the function that it called runs.
abbrev tostring_in_progress_function_1 : Tree
tostring_in_progress_function_1 = function 100 [] false (gives (text "" ∷ []) ∷ [])

abbrev tostring_in_progress_function_2 : Tree
tostring_in_progress_function_2 = function 101 ("n" ∷ []) false
    (If 0 1
    (case no_case (binary bin.Eq (name 2 "n") (int 0)) (block (gives (call (global "tostring") (name 0 "t" ∷ []) ∷ []) ∷ [])))
    (present (block (gives (call (name 1 "f") (binary bin.Sub (name 2 "n") (int 1) ∷ []) ∷ []) ∷ []))) ∷ [])

abbrev tostring_in_progress_tree : Tree
tostring_in_progress_tree = block
    (local 0 ("t" ∷ [])
    (call (global "setmetatable")
    (table no_field ∷ table (named no_field (codes "__tostring") tostring_in_progress_function_1) ∷ []) ∷ [])
    ∷ local_function 1 "f" tostring_in_progress_function_2
    ∷ does (call (name 1 "f") (int 197 ∷ [])) ∷ [])

tostring_in_progress : run (written tostring_in_progress_function_1 0 [] ∷ written tostring_in_progress_function_2 2 (0 ∷ 1 ∷ []) ∷ []) (0 ∷ 1 ∷ []) tostring_in_progress_tree 100000 100000 ≡ Fails (codes "[string \"channel program\"]:1: stack overflow") 2389 484 []
unfolding computing
tostring_in_progress = refl

-- local function down(n) if n == 0 then coroutine.yield() return 5 end return down(n - 1) end local co = coroutine.create(down) coroutine.resume(co, 100) local function deep(n) if n == 0 then return coroutine.resume(co) end return deep(n - 1) end return deep(100)
-- 103 calls are in progress where the coroutine is resumed, and 101 in it. Going on with it begins no call.
abbrev down_function : List Tree → Tree
down_function answer = function 100 ("n" ∷ []) false
    (If 0 1
    (case no_case (binary bin.Eq (name 1 "n") (int 0))
    (block (does (call (dot (global "coroutine") "yield") []) ∷ gives answer ∷ [])))
    absent
    ∷ gives (call (name 0 "down") (binary bin.Sub (name 1 "n") (int 1) ∷ []) ∷ []) ∷ [])

abbrev deep_function : Tree
deep_function = function 101 ("n" ∷ []) false
    (If 0 1
    (case no_case (binary bin.Eq (name 4 "n") (int 0))
    (block (gives (call (dot (global "coroutine") "resume") (name 2 "co" ∷ []) ∷ []) ∷ [])))
    absent
    ∷ gives (call (name 3 "deep") (binary bin.Sub (name 4 "n") (int 1) ∷ []) ∷ []) ∷ [])

abbrev resumes_deep_tree : List Tree → Tree
resumes_deep_tree answer = block
    (local_function 0 "down" (down_function answer)
    ∷ local 2 ("co" ∷ []) (call (dot (global "coroutine") "create") (name 0 "down" ∷ []) ∷ [])
    ∷ does (call (dot (global "coroutine") "resume") (name 2 "co" ∷ int 100 ∷ []))
    ∷ local_function 3 "deep" deep_function
    ∷ gives (call (name 3 "deep") (int 100 ∷ []) ∷ []) ∷ [])

abbrev resumes_deep_functions : List Tree → List Written
resumes_deep_functions answer = written (down_function answer) 1 (0 ∷ []) ∷ written deep_function 4 (3 ∷ 2 ∷ []) ∷ []

resumes_deep : run (resumes_deep_functions (int 5 ∷ [])) (0 ∷ 2 ∷ 3 ∷ []) (resumes_deep_tree (int 5 ∷ [])) 10000 1000 ≡ Answers (value.Bool true ∷ value.Int (pos 5) ∷ []) 2251 536 []
unfolding computing
resumes_deep = refl

-- the same with `return tostring(5)` in the first function, which begins a call
calls_when_resumed_deep : run (resumes_deep_functions (call (global "tostring") (int 5 ∷ []) ∷ [])) (0 ∷ 2 ∷ 3 ∷ []) (resumes_deep_tree (call (global "tostring") (int 5 ∷ []) ∷ [])) 10000 1000 ≡ Answers (value.Bool false ∷ value.Text (codes "[string \"channel program\"]:1: stack overflow") ∷ []) 2254 604 []
unfolding computing
calls_when_resumed_deep = refl
