-- Coroutines (Lua 5.2 manual, 2.6 and 6.2). Before each example stands its text.
use Rattle.std.specs.Prelude.{◌≡◌, refl, pos, true, false, [], ◌∷◌, codes}
use Rattle.std.specs.Fmt.{digits}
use Rattle.std.specs.Int.{int_wrap}
use Rattle.lua_ast.specs.declared.node.Literal.TheVariants as literal
use Rattle.lua_ast.specs.declared.node.BinOp.TheVariants as bin
use Rattle.lua_ast.specs.Tree.{Tree, Block, Local, CallStat, While, If, NumFor, GenFor, Return, Const, Function, Name, Index, Call, no_case, case, absent, no_field, named}
use Rattle.lua_meaning.specs.declared.value.Value.TheVariants as value
use Rattle.lua_meaning.specs.Nodes.{eval, statements, each_first, expressions, targets_of, target_of, choose, maybe_eval, step_of, each_field, all_fields}
use Rattle.lua_meaning.specs.Programs.{jobs, resume}
use Rattle.lua_meaning.proofs.Writing.{parts, int, text, nil, name, global, dot, call, binary, table, function, block, does, gives, local, local_function, assign, written}
use Rattle.lua_meaning.proofs.SampleHost.{run, Answers, Fails}

-- What the examples compute with.
computing : Unit {0}
unfolding eval statements each_first expressions targets_of target_of choose maybe_eval step_of each_field all_fields jobs resume digits int_wrap
computing = tt

-- local co = coroutine.create(function(a) local b = coroutine.yield(a + 1) return b * 2 end) local p, x = coroutine.resume(co, 1) local q, y = coroutine.resume(co, 10) return x * 100 + y
abbrev yield_and_return_function : Tree
yield_and_return_function = function 100 ("a" ∷ []) false
    (local 2 ("b" ∷ []) (call (dot (global "coroutine") "yield") (binary bin.Add (name 1 "a") (int 1) ∷ []) ∷ [])
    ∷ gives (binary bin.Mul (name 2 "b") (int 2) ∷ []) ∷ [])

abbrev yield_and_return_tree : Tree
yield_and_return_tree = block
    (local 0 ("co" ∷ []) (call (dot (global "coroutine") "create") (yield_and_return_function ∷ []) ∷ [])
    ∷ local 3 ("p" ∷ "x" ∷ []) (call (dot (global "coroutine") "resume") (name 0 "co" ∷ int 1 ∷ []) ∷ [])
    ∷ local 5 ("q" ∷ "y" ∷ []) (call (dot (global "coroutine") "resume") (name 0 "co" ∷ int 10 ∷ []) ∷ [])
    ∷ gives (binary bin.Add (binary bin.Mul (name 4 "x") (int 100)) (name 6 "y") ∷ []) ∷ [])

yield_and_return : run (written yield_and_return_function 1 [] ∷ []) [] yield_and_return_tree 100000 100000 ≡ Answers (value.Int (pos 220) ∷ []) 44 368 []
unfolding computing
yield_and_return = refl

-- local f = coroutine.wrap(function() coroutine.yield(1) return 2 end) return f() * 10 + f()
abbrev wraps_values_function : Tree
wraps_values_function = function 100 [] false (does (call (dot (global "coroutine") "yield") (int 1 ∷ [])) ∷ gives (int 2 ∷ []) ∷ [])

abbrev wraps_values_tree : Tree
wraps_values_tree = block
    (local 0 ("f" ∷ []) (call (dot (global "coroutine") "wrap") (wraps_values_function ∷ []) ∷ [])
    ∷ gives (binary bin.Add (binary bin.Mul (call (name 0 "f") []) (int 10)) (call (name 0 "f") []) ∷ []) ∷ [])

wraps_values : run (written wraps_values_function 0 [] ∷ []) [] wraps_values_tree 100000 100000 ≡ Answers (value.Int (pos 12) ∷ []) 28 432 []
unfolding computing
wraps_values = refl

-- local co = coroutine.create(function() end) coroutine.resume(co) local a, b = coroutine.resume(co) return b
abbrev resumes_dead_function : Tree
resumes_dead_function = function 100 [] false []

abbrev resumes_dead_tree : Tree
resumes_dead_tree = block
    (local 0 ("co" ∷ []) (call (dot (global "coroutine") "create") (resumes_dead_function ∷ []) ∷ [])
    ∷ does (call (dot (global "coroutine") "resume") (name 0 "co" ∷ []))
    ∷ local 1 ("a" ∷ "b" ∷ []) (call (dot (global "coroutine") "resume") (name 0 "co" ∷ []) ∷ [])
    ∷ gives (name 2 "b" ∷ []) ∷ [])

resumes_dead : run (written resumes_dead_function 0 [] ∷ []) [] resumes_dead_tree 100000 100000 ≡ Answers (value.Text (codes "cannot resume dead coroutine") ∷ []) 25 420 []
unfolding computing
resumes_dead = refl

-- local f = coroutine.wrap(function() end) f()
-- f()
abbrev wrap_dead_function : Tree
wrap_dead_function = function 100 [] false []

abbrev wrap_dead_tree : Tree
wrap_dead_tree = block
    (local 0 ("f" ∷ []) (call (dot (global "coroutine") "wrap") (wrap_dead_function ∷ []) ∷ [])
    ∷ does (call (name 0 "f") [])
    ∷ CallStat 0 2 (Call 0 2 (Name 1 2 (codes "f")) (parts [])) ∷ [])

wrap_dead : run (written wrap_dead_function 0 [] ∷ []) [] wrap_dead_tree 100000 100000 ≡ Fails (codes "[string \"channel program\"]:2: cannot resume dead coroutine") 17 514 []
unfolding computing
wrap_dead = refl

-- local co co = coroutine.create(function() return coroutine.resume(co) end) local a, b, c = coroutine.resume(co) return c
abbrev resumes_itself_function : Tree
resumes_itself_function = function 100 [] false (gives (call (dot (global "coroutine") "resume") (name 0 "co" ∷ []) ∷ []) ∷ [])

abbrev resumes_itself_tree : Tree
resumes_itself_tree = block
    (local 0 ("co" ∷ []) []
    ∷ assign (name 0 "co" ∷ []) (call (dot (global "coroutine") "create") (resumes_itself_function ∷ []) ∷ [])
    ∷ local 1 ("a" ∷ "b" ∷ "c" ∷ []) (call (dot (global "coroutine") "resume") (name 0 "co" ∷ []) ∷ [])
    ∷ gives (name 3 "c" ∷ []) ∷ [])

resumes_itself : run (written resumes_itself_function 0 (0 ∷ []) ∷ []) (0 ∷ []) resumes_itself_tree 100000 100000 ≡ Answers (value.Text (codes "cannot resume non-suspended coroutine") ∷ []) 27 469 []
unfolding computing
resumes_itself = refl

-- local co = coroutine.create(function()
-- zfs.sync.snapshot("rpool/a@s")
-- error("x") end)
-- local a, b = coroutine.resume(co)
-- return b
abbrev error_inside_function : Tree
error_inside_function = Function 100 1 [] false
    (Block 0 2
    (parts
    (CallStat 0 2
    (Call 0 2
    (Index 0 2 (Index 0 2 (Name 0 2 (codes "zfs")) (text "sync")) (text "snapshot"))
    (parts (text "rpool/a@s" ∷ [])))
    ∷ CallStat 0 3 (Call 0 3 (Name 0 3 (codes "error")) (parts (text "x" ∷ []))) ∷ [])))

abbrev error_inside_tree : Tree
error_inside_tree = block
    (local 0 ("co" ∷ []) (call (dot (global "coroutine") "create") (error_inside_function ∷ []) ∷ [])
    ∷ Local 1 4 (codes "a" ∷ codes "b" ∷ [])
    (parts
    (Call 0 4 (Index 0 4 (Name 0 4 (codes "coroutine")) (text "resume")) (parts (Name 1 4 (codes "co") ∷ [])) ∷ []))
    ∷ Return 0 5 (parts (Name 3 5 (codes "b") ∷ [])) ∷ [])

error_inside : run (written error_inside_function 0 [] ∷ []) [] error_inside_tree 100000 100000 ≡ Answers (value.Text (codes "[string \"channel program\"]:3: x") ∷ []) 32 423 ((codes "rpool/a@s") ∷ [])
unfolding computing
error_inside = refl

-- local f = coroutine.wrap(function() error("x") end) return f()
abbrev wrap_error_function : Tree
wrap_error_function = function 100 [] false (does (call (global "error") (text "x" ∷ [])) ∷ [])

abbrev wrap_error_tree : Tree
wrap_error_tree = block
    (local 0 ("f" ∷ []) (call (dot (global "coroutine") "wrap") (wrap_error_function ∷ []) ∷ [])
    ∷ gives (call (name 0 "f") [] ∷ []) ∷ [])

wrap_error : run (written wrap_error_function 0 [] ∷ []) [] wrap_error_tree 100000 100000 ≡ Fails (codes "[string \"channel program\"]:1: x") 18 487 []
unfolding computing
wrap_error = refl

-- return coroutine.yield(1)
abbrev yield_outside_tree : Tree
yield_outside_tree = block (gives (call (dot (global "coroutine") "yield") (int 1 ∷ []) ∷ []) ∷ [])

yield_outside : run [] [] yield_outside_tree 100000 100000 ≡ Fails (codes "[string \"channel program\"]:1: attempt to yield from outside a coroutine") 8 159 []
unfolding computing
yield_outside = refl

-- local m = {__add = function(a, b) return coroutine.yield(b) end} local f = coroutine.wrap(function() return setmetatable({}, m) + 5 end) local x = f() return x * 10 + f(7)
abbrev yield_in_metamethod_function_1 : Tree
yield_in_metamethod_function_1 = function 100 ("a" ∷ "b" ∷ []) false (gives (call (dot (global "coroutine") "yield") (name 2 "b" ∷ []) ∷ []) ∷ [])

abbrev yield_in_metamethod_function_2 : Tree
yield_in_metamethod_function_2 = function 101 [] false
    (gives (binary bin.Add (call (global "setmetatable") (table no_field ∷ name 0 "m" ∷ [])) (int 5) ∷ []) ∷ [])

abbrev yield_in_metamethod_tree : Tree
yield_in_metamethod_tree = block
    (local 0 ("m" ∷ []) (table (named no_field (codes "__add") yield_in_metamethod_function_1) ∷ [])
    ∷ local 3 ("f" ∷ []) (call (dot (global "coroutine") "wrap") (yield_in_metamethod_function_2 ∷ []) ∷ [])
    ∷ local 4 ("x" ∷ []) (call (name 3 "f") [] ∷ [])
    ∷ gives (binary bin.Add (binary bin.Mul (name 4 "x") (int 10)) (call (name 3 "f") (int 7 ∷ [])) ∷ []) ∷ [])

yield_in_metamethod : run (written yield_in_metamethod_function_1 1 [] ∷ written yield_in_metamethod_function_2 0 (0 ∷ []) ∷ []) (0 ∷ []) yield_in_metamethod_tree 100000 100000 ≡ Answers (value.Int (pos 57) ∷ []) 42 696 []
unfolding computing
yield_in_metamethod = refl

-- local t = setmetatable({}, {__tostring = function() coroutine.yield(1) return "x" end}) local co = coroutine.create(function() return tostring(t) end) local a, b = coroutine.resume(co) return b
abbrev yield_across_function_1 : Tree
yield_across_function_1 = function 100 [] false (does (call (dot (global "coroutine") "yield") (int 1 ∷ [])) ∷ gives (text "x" ∷ []) ∷ [])

abbrev yield_across_function_2 : Tree
yield_across_function_2 = function 101 [] false (gives (call (global "tostring") (name 0 "t" ∷ []) ∷ []) ∷ [])

abbrev yield_across_tree : Tree
yield_across_tree = block
    (local 0 ("t" ∷ [])
    (call (global "setmetatable")
    (table no_field ∷ table (named no_field (codes "__tostring") yield_across_function_1) ∷ []) ∷ [])
    ∷ local 1 ("co" ∷ []) (call (dot (global "coroutine") "create") (yield_across_function_2 ∷ []) ∷ [])
    ∷ local 2 ("a" ∷ "b" ∷ []) (call (dot (global "coroutine") "resume") (name 1 "co" ∷ []) ∷ [])
    ∷ gives (name 3 "b" ∷ []) ∷ [])

yield_across : run (written yield_across_function_1 0 [] ∷ written yield_across_function_2 0 (0 ∷ []) ∷ []) (0 ∷ []) yield_across_tree 100000 100000 ≡ Answers (value.Text (codes "[string \"channel program\"]:1: attempt to yield across a built-in call") ∷ []) 38 725 []
unfolding computing
yield_across = refl

-- local f = coroutine.wrap(function() for i in function() return coroutine.yield() end do zfs.sync.snapshot(i) end return 5 end) f() f("rpool/a@x") f("rpool/a@y") return f(nil)
abbrev yield_in_iterator_function_1 : Tree
yield_in_iterator_function_1 = function 100 [] false (gives (call (dot (global "coroutine") "yield") [] ∷ []) ∷ [])

abbrev yield_in_iterator_function_2 : Tree
yield_in_iterator_function_2 = function 101 [] false
    (GenFor 1 1 (codes "i" ∷ []) (parts (yield_in_iterator_function_1 ∷ []))
    (block (does (call (dot (dot (global "zfs") "sync") "snapshot") (name 1 "i" ∷ [])) ∷ []))
    ∷ gives (int 5 ∷ []) ∷ [])

abbrev yield_in_iterator_tree : Tree
yield_in_iterator_tree = block
    (local 0 ("f" ∷ []) (call (dot (global "coroutine") "wrap") (yield_in_iterator_function_2 ∷ []) ∷ [])
    ∷ does (call (name 0 "f") [])
    ∷ does (call (name 0 "f") (text "rpool/a@x" ∷ []))
    ∷ does (call (name 0 "f") (text "rpool/a@y" ∷ []))
    ∷ gives (call (name 0 "f") (nil ∷ []) ∷ []) ∷ [])

yield_in_iterator : run (written yield_in_iterator_function_1 0 [] ∷ written yield_in_iterator_function_2 0 [] ∷ []) [] yield_in_iterator_tree 100000 100000 ≡ Answers (value.Int (pos 5) ∷ []) 76 480 ((codes "rpool/a@x") ∷ (codes "rpool/a@y") ∷ [])
unfolding computing
yield_in_iterator = refl

-- local function gen(n) return coroutine.wrap(function() for i = 1, n do coroutine.yield(i) end end) end local a, b = gen(2), gen(3) return a() + b() * 10 + a() * 100 + b() * 1000
abbrev two_coroutines_function_1 : Tree
two_coroutines_function_1 = function 100 [] false
    (NumFor 2 1 (codes "i") (int 1) (name 1 "n") absent
    (block (does (call (dot (global "coroutine") "yield") (name 2 "i" ∷ [])) ∷ [])) ∷ [])

abbrev two_coroutines_function_2 : Tree
two_coroutines_function_2 = function 101 ("n" ∷ []) false
    (gives (call (dot (global "coroutine") "wrap") (two_coroutines_function_1 ∷ []) ∷ []) ∷ [])

abbrev two_coroutines_tree : Tree
two_coroutines_tree = block
    (local_function 0 "gen" two_coroutines_function_2
    ∷ local 3 ("a" ∷ "b" ∷ []) (call (name 0 "gen") (int 2 ∷ []) ∷ call (name 0 "gen") (int 3 ∷ []) ∷ [])
    ∷ gives
    (binary bin.Add
    (binary bin.Add
    (binary bin.Add (call (name 3 "a") []) (binary bin.Mul (call (name 4 "b") []) (int 10)))
    (binary bin.Mul (call (name 3 "a") []) (int 100)))
    (binary bin.Mul (call (name 4 "b") []) (int 1000)) ∷ []) ∷ [])

two_coroutines : run (written two_coroutines_function_1 0 (1 ∷ []) ∷ written two_coroutines_function_2 1 [] ∷ []) (1 ∷ []) two_coroutines_tree 100000 100000 ≡ Answers (value.Int (pos 2211) ∷ []) 92 928 []
unfolding computing
two_coroutines = refl

-- local inner = coroutine.wrap(function() for i = 1, 3 do coroutine.yield(i) end end) local outer = coroutine.wrap(function() while true do local x = inner() if x == nil then return 0 end coroutine.yield(x * 10) end end) return outer() + outer() + outer()
abbrev nested_coroutines_function_1 : Tree
nested_coroutines_function_1 = function 100 [] false
    (NumFor 1 1 (codes "i") (int 1) (int 3) absent
    (block (does (call (dot (global "coroutine") "yield") (name 1 "i" ∷ [])) ∷ [])) ∷ [])

abbrev nested_coroutines_function_2 : Tree
nested_coroutines_function_2 = function 101 [] false
    (While 0 1 (Const 0 1 (literal.Bool true))
    (block
    (local 3 ("x" ∷ []) (call (name 0 "inner") [] ∷ [])
    ∷ If 0 1 (case no_case (binary bin.Eq (name 3 "x") nil) (block (gives (int 0 ∷ []) ∷ []))) absent
    ∷ does (call (dot (global "coroutine") "yield") (binary bin.Mul (name 3 "x") (int 10) ∷ [])) ∷ [])) ∷ [])

abbrev nested_coroutines_tree : Tree
nested_coroutines_tree = block
    (local 0 ("inner" ∷ []) (call (dot (global "coroutine") "wrap") (nested_coroutines_function_1 ∷ []) ∷ [])
    ∷ local 2 ("outer" ∷ []) (call (dot (global "coroutine") "wrap") (nested_coroutines_function_2 ∷ []) ∷ [])
    ∷ gives
    (binary bin.Add
    (binary bin.Add (call (name 2 "outer") []) (call (name 2 "outer") []))
    (call (name 2 "outer") []) ∷ []) ∷ [])

nested_coroutines : run (written nested_coroutines_function_1 0 [] ∷ written nested_coroutines_function_2 0 (0 ∷ []) ∷ []) (0 ∷ []) nested_coroutines_tree 100000 100000 ≡ Answers (value.Int (pos 60) ∷ []) 120 840 []
unfolding computing
nested_coroutines = refl

-- local f = coroutine.wrap(coroutine.yield) f(1) return f(2)
abbrev builtin_inside_tree : Tree
builtin_inside_tree = block
    (local 0 ("f" ∷ []) (call (dot (global "coroutine") "wrap") (dot (global "coroutine") "yield" ∷ []) ∷ [])
    ∷ does (call (name 0 "f") (int 1 ∷ []))
    ∷ gives (call (name 0 "f") (int 2 ∷ []) ∷ []) ∷ [])

builtin_inside : run [] [] builtin_inside_tree 100000 100000 ≡ Answers (value.Int (pos 2) ∷ []) 21 384 []
unfolding computing
builtin_inside = refl

-- local n = 0 local f = coroutine.wrap(function() while true do n = n + 1 coroutine.yield() end end) f() n = n + 10 f() return n
abbrev shared_local_function : Tree
shared_local_function = function 100 [] false
    (While 0 1 (Const 0 1 (literal.Bool true))
    (block
    (assign (name 0 "n" ∷ []) (binary bin.Add (name 0 "n") (int 1) ∷ [])
    ∷ does (call (dot (global "coroutine") "yield") []) ∷ [])) ∷ [])

abbrev shared_local_tree : Tree
shared_local_tree = block
    (local 0 ("n" ∷ []) (int 0 ∷ [])
    ∷ local 1 ("f" ∷ []) (call (dot (global "coroutine") "wrap") (shared_local_function ∷ []) ∷ [])
    ∷ does (call (name 1 "f") [])
    ∷ assign (name 0 "n" ∷ []) (binary bin.Add (name 0 "n") (int 10) ∷ [])
    ∷ does (call (name 1 "f") [])
    ∷ gives (name 0 "n" ∷ []) ∷ [])

shared_local : run (written shared_local_function 0 (0 ∷ []) ∷ []) (0 ∷ []) shared_local_tree 100000 100000 ≡ Answers (value.Int (pos 12) ∷ []) 55 472 []
unfolding computing
shared_local = refl

-- local function f()
-- error("deep")
-- end
-- local co = coroutine.create(f)
-- local a, b = coroutine.resume(co)
-- return b
abbrev lines_in_coroutine_function : Tree
lines_in_coroutine_function = Function 100 1 [] false
    (Block 0 2 (parts (CallStat 0 2 (Call 0 2 (Name 0 2 (codes "error")) (parts (text "deep" ∷ []))) ∷ [])))

abbrev lines_in_coroutine_tree : Tree
lines_in_coroutine_tree = block
    (local_function 0 "f" lines_in_coroutine_function
    ∷ Local 1 4 (codes "co" ∷ [])
    (parts
    (Call 0 4 (Index 0 4 (Name 0 4 (codes "coroutine")) (text "create")) (parts (Name 1 4 (codes "f") ∷ [])) ∷ []))
    ∷ Local 2 5 (codes "a" ∷ codes "b" ∷ [])
    (parts
    (Call 0 5 (Index 0 5 (Name 0 5 (codes "coroutine")) (text "resume")) (parts (Name 2 5 (codes "co") ∷ [])) ∷ []))
    ∷ Return 0 6 (parts (Name 4 6 (codes "b") ∷ [])) ∷ [])

lines_in_coroutine : run (written lines_in_coroutine_function 0 [] ∷ []) [] lines_in_coroutine_tree 100000 100000 ≡ Answers (value.Text (codes "[string \"channel program\"]:2: deep") ∷ []) 25 426 []
unfolding computing
lines_in_coroutine = refl

-- return tostring(setmetatable({}, {__tostring = coroutine.yield}))
-- In the main thread the first of the two errors of a yield counts.
abbrev yield_across_outside_tree : Tree
yield_across_outside_tree = block
    (gives
    (call (global "tostring")
    (call (global "setmetatable")
    (table no_field ∷ table (named no_field (codes "__tostring") (dot (global "coroutine") "yield")) ∷ []) ∷ []) ∷ []) ∷ [])

yield_across_outside : run [] [] yield_across_outside_tree 100 1000 ≡ Fails (codes "[string \"channel program\"]:1: attempt to yield from outside a coroutine") 14 335 []
unfolding computing
yield_across_outside = refl

-- local co = coroutine.create(error)
-- local a, b = coroutine.resume(co, "x")
-- return b
-- A built-in that is a coroutine's function has the line of the resumption.
abbrev built_in_has_the_line_of_its_resumption_tree : Tree
built_in_has_the_line_of_its_resumption_tree = block
    (local 0 ("co" ∷ []) (call (dot (global "coroutine") "create") (global "error" ∷ []) ∷ [])
    ∷ Local 1 2 (codes "a" ∷ codes "b" ∷ [])
    (parts (Call 0 2 (dot (global "coroutine") "resume") (parts (name 0 "co" ∷ text "x" ∷ [])) ∷ []))
    ∷ gives (name 2 "b" ∷ []) ∷ [])

built_in_has_the_line_of_its_resumption : run [] [] built_in_has_the_line_of_its_resumption_tree 100 1000 ≡ Answers (value.Text (codes "[string \"channel program\"]:2: x") ∷ []) 19 375 []
unfolding computing
built_in_has_the_line_of_its_resumption = refl

-- local t = setmetatable({}, {__tostring = function() return coroutine.wrap(function() coroutine.yield("x") end)() end}) local f = coroutine.wrap(function() coroutine.yield(tostring(t)) return 2 end) return f(), f()
-- While `tostring` waits, a coroutine that is resumed in it may yield to it; when it has answered, its caller may yield.
abbrev yields_beside_a_built_in_function_1 : Tree
yields_beside_a_built_in_function_1 = function 100 [] false (does (call (dot (global "coroutine") "yield") (text "x" ∷ [])) ∷ [])

abbrev yields_beside_a_built_in_function_2 : Tree
yields_beside_a_built_in_function_2 = function 101 [] false
    (gives (call (call (dot (global "coroutine") "wrap") (yields_beside_a_built_in_function_1 ∷ [])) [] ∷ []) ∷ [])

abbrev yields_beside_a_built_in_function_3 : Tree
yields_beside_a_built_in_function_3 = function 102 [] false
    (does (call (dot (global "coroutine") "yield") (call (global "tostring") (name 0 "t" ∷ []) ∷ []))
    ∷ gives (int 2 ∷ []) ∷ [])

abbrev yields_beside_a_built_in_tree : Tree
yields_beside_a_built_in_tree = block
    (local 0 ("t" ∷ [])
    (call (global "setmetatable")
    (table no_field ∷ table (named no_field (codes "__tostring") yields_beside_a_built_in_function_2) ∷ []) ∷ [])
    ∷ local 1 ("f" ∷ []) (call (dot (global "coroutine") "wrap") (yields_beside_a_built_in_function_3 ∷ []) ∷ [])
    ∷ gives (call (name 1 "f") [] ∷ call (name 1 "f") [] ∷ []) ∷ [])

yields_beside_a_built_in : run (written yields_beside_a_built_in_function_1 0 [] ∷ written yields_beside_a_built_in_function_2 0 [] ∷ written yields_beside_a_built_in_function_3 0 (0 ∷ []) ∷ []) (0 ∷ []) yields_beside_a_built_in_tree 100 10000 ≡ Answers (value.Text (codes "x") ∷ value.Int (pos 2) ∷ []) 53 1064 []
unfolding computing
yields_beside_a_built_in = refl

-- local j = coroutine.wrap(function() local k = 0 while true do k = k + 1 coroutine.yield(k) end end) local i = coroutine.wrap(function() local a = j() coroutine.yield(a) local b = j() return a * 10 + b end) local x = i() local y = j() return x * 1000 + y * 100 + i()
-- One coroutine is resumed by another, then by the main chunk, then by the other again.
abbrev resumed_by_two_function_1 : Tree
resumed_by_two_function_1 = function 100 [] false
    (local 1 ("k" ∷ []) (int 0 ∷ [])
    ∷ While 0 1 (Const 0 1 (literal.Bool true))
    (block
    (assign (name 1 "k" ∷ []) (binary bin.Add (name 1 "k") (int 1) ∷ [])
    ∷ does (call (dot (global "coroutine") "yield") (name 1 "k" ∷ [])) ∷ [])) ∷ [])

abbrev resumed_by_two_function_2 : Tree
resumed_by_two_function_2 = function 101 [] false
    (local 3 ("a" ∷ []) (call (name 0 "j") [] ∷ [])
    ∷ does (call (dot (global "coroutine") "yield") (name 3 "a" ∷ []))
    ∷ local 4 ("b" ∷ []) (call (name 0 "j") [] ∷ [])
    ∷ gives (binary bin.Add (binary bin.Mul (name 3 "a") (int 10)) (name 4 "b") ∷ []) ∷ [])

abbrev resumed_by_two_tree : Tree
resumed_by_two_tree = block
    (local 0 ("j" ∷ []) (call (dot (global "coroutine") "wrap") (resumed_by_two_function_1 ∷ []) ∷ [])
    ∷ local 2 ("i" ∷ []) (call (dot (global "coroutine") "wrap") (resumed_by_two_function_2 ∷ []) ∷ [])
    ∷ local 5 ("x" ∷ []) (call (name 2 "i") [] ∷ [])
    ∷ local 6 ("y" ∷ []) (call (name 0 "j") [] ∷ [])
    ∷ gives
    (binary bin.Add
    (binary bin.Add (binary bin.Mul (name 5 "x") (int 1000)) (binary bin.Mul (name 6 "y") (int 100)))
    (call (name 2 "i") []) ∷ []) ∷ [])

resumed_by_two : run (written resumed_by_two_function_1 1 [] ∷ written resumed_by_two_function_2 3 (0 ∷ []) ∷ []) (0 ∷ []) resumed_by_two_tree 1000 1000 ≡ Answers (value.Int (pos 1213) ∷ []) 106 840 []
unfolding computing
resumed_by_two = refl

-- local co = coroutine.create(function() coroutine.yield()
-- error("x") end) coroutine.resume(co) local a, b = coroutine.resume(co) local c, d = coroutine.resume(co) return b, d
abbrev dead_by_an_error_function : Tree
dead_by_an_error_function = function 100 [] false
    (does (call (dot (global "coroutine") "yield") [])
    ∷ CallStat 0 2 (Call 0 2 (Name 0 2 (codes "error")) (parts (text "x" ∷ []))) ∷ [])

abbrev dead_by_an_error_tree : Tree
dead_by_an_error_tree = block
    (local 0 ("co" ∷ []) (call (dot (global "coroutine") "create") (dead_by_an_error_function ∷ []) ∷ [])
    ∷ does (call (dot (global "coroutine") "resume") (name 0 "co" ∷ []))
    ∷ local 1 ("a" ∷ "b" ∷ []) (call (dot (global "coroutine") "resume") (name 0 "co" ∷ []) ∷ [])
    ∷ local 3 ("c" ∷ "d" ∷ []) (call (dot (global "coroutine") "resume") (name 0 "co" ∷ []) ∷ [])
    ∷ gives (name 2 "b" ∷ name 4 "d" ∷ []) ∷ [])

dead_by_an_error : run (written dead_by_an_error_function 0 [] ∷ []) [] dead_by_an_error_tree 100 1000 ≡ Answers (value.Text (codes "[string \"channel program\"]:2: x") ∷ value.Text (codes "cannot resume dead coroutine") ∷ []) 44 475 []
unfolding computing
dead_by_an_error = refl

-- local co co = coroutine.create(function() return coroutine.wrap(function() return coroutine.resume(co) end)() end) local a, b, c = coroutine.resume(co) return c
-- A coroutine that waits for another one isn't resumed.
abbrev resumes_what_waits_function_2 : Tree
resumes_what_waits_function_2 = function 101 [] false (gives (call (dot (global "coroutine") "resume") (name 0 "co" ∷ []) ∷ []) ∷ [])

abbrev resumes_what_waits_function_1 : Tree
resumes_what_waits_function_1 = function 100 [] false
    (gives (call (call (dot (global "coroutine") "wrap") (resumes_what_waits_function_2 ∷ [])) [] ∷ []) ∷ [])

abbrev resumes_what_waits_tree : Tree
resumes_what_waits_tree = block
    (local 0 ("co" ∷ []) []
    ∷ assign (name 0 "co" ∷ []) (call (dot (global "coroutine") "create") (resumes_what_waits_function_1 ∷ []) ∷ [])
    ∷ local 1 ("a" ∷ "b" ∷ "c" ∷ []) (call (dot (global "coroutine") "resume") (name 0 "co" ∷ []) ∷ [])
    ∷ gives (name 3 "c" ∷ []) ∷ [])

resumes_what_waits : run (written resumes_what_waits_function_1 0 (0 ∷ []) ∷ written resumes_what_waits_function_2 0 (0 ∷ []) ∷ []) (0 ∷ []) resumes_what_waits_tree 100 1000 ≡ Answers (value.Text (codes "cannot resume non-suspended coroutine") ∷ []) 37 853 []
unfolding computing
resumes_what_waits = refl
