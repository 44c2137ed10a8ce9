-- Loops (Lua 5.2 manual, 3.3.4 and 3.3.5). Before each example stands its text.
use Rattle.std.specs.Prelude.{◌≡◌, refl, pos, true, false, [], ◌∷◌, codes}
use Rattle.std.specs.Fmt.{digits}
use Rattle.std.specs.Int.{int_wrap}
use Rattle.zc_budget.specs.declared.budget.Stop.TheVariants as stop
use Rattle.lua_ast.specs.declared.node.Literal.TheVariants as literal
use Rattle.lua_ast.specs.declared.node.BinOp.TheVariants as bin
use Rattle.lua_ast.specs.declared.node.UnOp.TheVariants as un
use Rattle.lua_ast.specs.Tree.{Tree, While, Repeat, If, NumFor, GenFor, Break, Const, Index, Call, Unary, no_case, case, absent, present, no_field, item, named}
use Rattle.lua_meaning.specs.declared.value.Value.TheVariants as value
use Rattle.lua_meaning.specs.Nodes.{eval, statements, each_first, expressions, targets_of, target_of, choose, maybe_eval, step_of, each_field, all_fields}
use Rattle.lua_meaning.specs.Programs.{jobs, resume}
use Rattle.lua_meaning.proofs.Writing.{parts, int, text, name, global, dot, call, binary, table, function, block, gives, local, local_function, assign, written}
use Rattle.lua_meaning.proofs.SampleHost.{run, Answers, Fails, Ends}

-- What the examples compute with.
computing : Unit {0}
unfolding eval statements each_first expressions targets_of target_of choose maybe_eval step_of each_field all_fields jobs resume digits int_wrap
computing = tt

-- local i = 0 while true do local j = i i = j + 1 if 2 < i then break end end return i
abbrev while_break_tree : Tree
while_break_tree = block
    (local 0 ("i" ∷ []) (int 0 ∷ [])
    ∷ While 0 1 (Const 0 1 (literal.Bool true))
    (block
    (local 1 ("j" ∷ []) (name 0 "i" ∷ [])
    ∷ assign (name 0 "i" ∷ []) (binary bin.Add (name 1 "j") (int 1) ∷ [])
    ∷ If 0 1 (case no_case (binary bin.Less (int 2) (name 0 "i")) (block (Break 0 1 ∷ []))) absent ∷ []))
    ∷ gives (name 0 "i" ∷ []) ∷ [])

while_break : run [] [] while_break_tree 100000 100000 ≡ Answers (value.Int (pos 3) ∷ []) 50 64 []
unfolding computing
while_break = refl

-- local i = 0 repeat local j = i * i i = i + 1 until j > 8 return i
abbrev repeat_sees_locals_tree : Tree
repeat_sees_locals_tree = block
    (local 0 ("i" ∷ []) (int 0 ∷ [])
    ∷ Repeat 0 1
    (block
    (local 1 ("j" ∷ []) (binary bin.Mul (name 0 "i") (name 0 "i") ∷ [])
    ∷ assign (name 0 "i" ∷ []) (binary bin.Add (name 0 "i") (int 1) ∷ []) ∷ []))
    (binary bin.Greater (name 1 "j") (int 8))
    ∷ gives (name 0 "i" ∷ []) ∷ [])

repeat_sees_locals : run [] [] repeat_sees_locals_tree 100000 100000 ≡ Answers (value.Int (pos 4) ∷ []) 62 64 []
unfolding computing
repeat_sees_locals = refl

-- local i = 0 local f repeat local j = i i = i + 1 f = function() return j end until j == 2 return f()
abbrev repeat_captures_function : Tree
repeat_captures_function = function 100 [] false (gives (name 2 "j" ∷ []) ∷ [])

abbrev repeat_captures_tree : Tree
repeat_captures_tree = block
    (local 0 ("i" ∷ []) (int 0 ∷ [])
    ∷ local 1 ("f" ∷ []) []
    ∷ Repeat 0 1
    (block
    (local 2 ("j" ∷ []) (name 0 "i" ∷ [])
    ∷ assign (name 0 "i" ∷ []) (binary bin.Add (name 0 "i") (int 1) ∷ [])
    ∷ assign (name 1 "f" ∷ []) (repeat_captures_function ∷ []) ∷ []))
    (binary bin.Eq (name 2 "j") (int 2))
    ∷ gives (call (name 1 "f") [] ∷ []) ∷ [])

repeat_captures : run (written repeat_captures_function 0 (2 ∷ []) ∷ []) (2 ∷ []) repeat_captures_tree 100000 100000 ≡ Answers (value.Int (pos 2) ∷ []) 56 328 []
unfolding computing
repeat_captures = refl

-- local i = 0 repeat i = i + 1 if i == 3 then break end until false return i
abbrev repeat_break_tree : Tree
repeat_break_tree = block
    (local 0 ("i" ∷ []) (int 0 ∷ [])
    ∷ Repeat 0 1
    (block
    (assign (name 0 "i" ∷ []) (binary bin.Add (name 0 "i") (int 1) ∷ [])
    ∷ If 0 1 (case no_case (binary bin.Eq (name 0 "i") (int 3)) (block (Break 0 1 ∷ []))) absent ∷ []))
    (Const 0 1 (literal.Bool false))
    ∷ gives (name 0 "i" ∷ []) ∷ [])

repeat_break : run [] [] repeat_break_tree 100000 100000 ≡ Answers (value.Int (pos 3) ∷ []) 43 64 []
unfolding computing
repeat_break = refl

-- local n = 0 for i = 10, 1, -3 do n = n * 10 + i end return n
abbrev num_for_down_tree : Tree
num_for_down_tree = block
    (local 0 ("n" ∷ []) (int 0 ∷ [])
    ∷ NumFor 1 1 (codes "i") (int 10) (int 1) (present (Unary 0 1 un.Neg (int 3)))
    (block
    (assign (name 0 "n" ∷ []) (binary bin.Add (binary bin.Mul (name 0 "n") (int 10)) (name 1 "i") ∷ []) ∷ []))
    ∷ gives (name 0 "n" ∷ []) ∷ [])

num_for_down : run [] [] num_for_down_tree 100000 100000 ≡ Answers (value.Int (pos 10741) ∷ []) 46 64 []
unfolding computing
num_for_down = refl

-- local n = 0 for i = 5, 1 do n = n + i end return n
abbrev num_for_none_tree : Tree
num_for_none_tree = block
    (local 0 ("n" ∷ []) (int 0 ∷ [])
    ∷ NumFor 1 1 (codes "i") (int 5) (int 1) absent
    (block (assign (name 0 "n" ∷ []) (binary bin.Add (name 0 "n") (name 1 "i") ∷ []) ∷ []))
    ∷ gives (name 0 "n" ∷ []) ∷ [])

num_for_none : run [] [] num_for_none_tree 100000 100000 ≡ Answers (value.Int (pos 0) ∷ []) 8 64 []
unfolding computing
num_for_none = refl

-- local n = 0 for i = 9223372036854775806, 9223372036854775807 do n = n + 1 end return n
abbrev num_for_at_the_end_tree : Tree
num_for_at_the_end_tree = block
    (local 0 ("n" ∷ []) (int 0 ∷ [])
    ∷ NumFor 1 1 (codes "i") (int 9223372036854775806) (int 9223372036854775807) absent
    (block (assign (name 0 "n" ∷ []) (binary bin.Add (name 0 "n") (int 1) ∷ []) ∷ []))
    ∷ gives (name 0 "n" ∷ []) ∷ [])

num_for_at_the_end : run [] [] num_for_at_the_end_tree 100000 100000 ≡ Answers (value.Int (pos 2) ∷ []) 22 64 []
unfolding computing
num_for_at_the_end = refl

-- local n = 0 for i = " 1", "0x3" do n = n + i end return n
abbrev num_for_texts_tree : Tree
num_for_texts_tree = block
    (local 0 ("n" ∷ []) (int 0 ∷ [])
    ∷ NumFor 1 1 (codes "i") (text " 1") (text "0x3") absent
    (block (assign (name 0 "n" ∷ []) (binary bin.Add (name 0 "n") (name 1 "i") ∷ []) ∷ []))
    ∷ gives (name 0 "n" ∷ []) ∷ [])

num_for_texts : run [] [] num_for_texts_tree 100000 100000 ≡ Answers (value.Int (pos 6) ∷ []) 29 64 []
unfolding computing
num_for_texts = refl

-- for i = 1, {} do end
abbrev num_for_bad_tree : Tree
num_for_bad_tree = block (NumFor 0 1 (codes "i") (int 1) (table no_field) absent (block []) ∷ [])

num_for_bad : run [] [] num_for_bad_tree 100000 100000 ≡ Fails (codes "[string \"channel program\"]:1: for value is not a number") 4 207 []
unfolding computing
num_for_bad = refl

-- local f for i = 1, 3 do local g = f f = function(a) i = i + a return i end if g then f = g end end return f(10) + f(10)
abbrev num_for_captures_function : Tree
num_for_captures_function = function 100 ("a" ∷ []) false
    (assign (name 1 "i" ∷ []) (binary bin.Add (name 1 "i") (name 3 "a") ∷ []) ∷ gives (name 1 "i" ∷ []) ∷ [])

abbrev num_for_captures_tree : Tree
num_for_captures_tree = block
    (local 0 ("f" ∷ []) []
    ∷ NumFor 1 1 (codes "i") (int 1) (int 3) absent
    (block
    (local 2 ("g" ∷ []) (name 0 "f" ∷ [])
    ∷ assign (name 0 "f" ∷ []) (num_for_captures_function ∷ [])
    ∷ If 0 1 (case no_case (name 2 "g") (block (assign (name 0 "f" ∷ []) (name 2 "g" ∷ []) ∷ []))) absent ∷ []))
    ∷ gives (binary bin.Add (call (name 0 "f") (int 10 ∷ [])) (call (name 0 "f") (int 10 ∷ [])) ∷ []) ∷ [])

num_for_captures : run (written num_for_captures_function 3 (1 ∷ []) ∷ []) (1 ∷ []) num_for_captures_tree 100000 100000 ≡ Answers (value.Int (pos 32) ∷ []) 64 328 []
unfolding computing
num_for_captures = refl

-- local n = 0 for i = 1, 3 do i = i * 10 n = n + i end return n
abbrev num_for_changed_tree : Tree
num_for_changed_tree = block
    (local 0 ("n" ∷ []) (int 0 ∷ [])
    ∷ NumFor 1 1 (codes "i") (int 1) (int 3) absent
    (block
    (assign (name 1 "i" ∷ []) (binary bin.Mul (name 1 "i") (int 10) ∷ [])
    ∷ assign (name 0 "n" ∷ []) (binary bin.Add (name 0 "n") (name 1 "i") ∷ []) ∷ []))
    ∷ gives (name 0 "n" ∷ []) ∷ [])

num_for_changed : run [] [] num_for_changed_tree 100000 100000 ≡ Answers (value.Int (pos 60) ∷ []) 44 64 []
unfolding computing
num_for_changed = refl

-- local n = 0 for k, v in pairs({3, 1, x = 2}) do n = n * 10 + v end return n
abbrev gen_for_tree : Tree
gen_for_tree = block
    (local 0 ("n" ∷ []) (int 0 ∷ [])
    ∷ GenFor 1 1 (codes "k" ∷ codes "v" ∷ [])
    (parts
    (call (global "pairs") (table (named (item (item no_field (int 3)) (int 1)) (codes "x") (int 2)) ∷ []) ∷ []))
    (block
    (assign (name 0 "n" ∷ []) (binary bin.Add (binary bin.Mul (name 0 "n") (int 10)) (name 2 "v") ∷ []) ∷ []))
    ∷ gives (name 0 "n" ∷ []) ∷ [])

gen_for : run [] [] gen_for_tree 100000 100000 ≡ Answers (value.Int (pos 312) ∷ []) 45 272 []
unfolding computing
gen_for = refl

-- local function up(n, i) if i < n then return i + 1, i * i end end local s = 0 for i, q in up, 4, 0 do s = s + q end return s
abbrev gen_for_closure_function : Tree
gen_for_closure_function = function 100 ("n" ∷ "i" ∷ []) false
    (If 0 1
    (case no_case (binary bin.Less (name 2 "i") (name 1 "n"))
    (block (gives (binary bin.Add (name 2 "i") (int 1) ∷ binary bin.Mul (name 2 "i") (name 2 "i") ∷ []) ∷ [])))
    absent ∷ [])

abbrev gen_for_closure_tree : Tree
gen_for_closure_tree = block
    (local_function 0 "up" gen_for_closure_function
    ∷ local 3 ("s" ∷ []) (int 0 ∷ [])
    ∷ GenFor 4 1 (codes "i" ∷ codes "q" ∷ []) (parts (name 0 "up" ∷ int 4 ∷ int 0 ∷ []))
    (block (assign (name 3 "s" ∷ []) (binary bin.Add (name 3 "s") (name 5 "q") ∷ []) ∷ []))
    ∷ gives (name 3 "s" ∷ []) ∷ [])

gen_for_closure : run (written gen_for_closure_function 1 [] ∷ []) [] gen_for_closure_tree 100000 100000 ≡ Answers (value.Int (pos 14) ∷ []) 97 112 []
unfolding computing
gen_for_closure = refl

-- local fs = {} for k, v in pairs({5, 6}) do fs[k] = function() return v end end return fs[1]() * 10 + fs[2]()
abbrev gen_for_captures_function : Tree
gen_for_captures_function = function 100 [] false (gives (name 2 "v" ∷ []) ∷ [])

abbrev gen_for_captures_tree : Tree
gen_for_captures_tree = block
    (local 0 ("fs" ∷ []) (table no_field ∷ [])
    ∷ GenFor 1 1 (codes "k" ∷ codes "v" ∷ [])
    (parts (call (global "pairs") (table (item (item no_field (int 5)) (int 6)) ∷ []) ∷ []))
    (block (assign (Index 0 1 (name 0 "fs") (name 1 "k") ∷ []) (gen_for_captures_function ∷ []) ∷ []))
    ∷ gives
    (binary bin.Add
    (binary bin.Mul (call (Index 0 1 (name 0 "fs") (int 1)) []) (int 10))
    (call (Index 0 1 (name 0 "fs") (int 2)) []) ∷ []) ∷ [])

gen_for_captures : run (written gen_for_captures_function 0 (2 ∷ []) ∷ []) (2 ∷ []) gen_for_captures_tree 100000 100000 ≡ Answers (value.Int (pos 56) ∷ []) 46 560 []
unfolding computing
gen_for_captures = refl

-- for x in 5 do end
abbrev gen_for_bad_tree : Tree
gen_for_bad_tree = block (GenFor 0 1 (codes "x" ∷ []) (parts (int 5 ∷ [])) (block []) ∷ [])

gen_for_bad : run [] [] gen_for_bad_tree 100000 100000 ≡ Fails (codes "[string \"channel program\"]:1: attempt to call a number value") 4 148 []
unfolding computing
gen_for_bad = refl

-- for i = 1, 10 do for j = 1, 10 do if i * j == 42 then return i * 100 + j end end end
abbrev return_from_loop_tree : Tree
return_from_loop_tree = block
    (NumFor 0 1 (codes "i") (int 1) (int 10) absent
    (block
    (NumFor 1 1 (codes "j") (int 1) (int 10) absent
    (block
    (If 0 1
    (case no_case
    (binary bin.Eq (binary bin.Mul (name 0 "i") (name 1 "j")) (int 42))
    (block
    (gives (binary bin.Add (binary bin.Mul (name 0 "i") (int 100)) (name 1 "j") ∷ []) ∷ [])))
    absent ∷ [])) ∷ [])) ∷ [])

return_from_loop : run [] [] return_from_loop_tree 100000 100000 ≡ Answers (value.Int (pos 607) ∷ []) 497 64 []
unfolding computing
return_from_loop = refl

-- for i = 1, 1 do local function f() return i end end
-- The variable of a turn is made after the instruction of the turn.
abbrev turn_makes_its_variable_function : Tree
turn_makes_its_variable_function = function 100 [] false (gives (name 0 "i" ∷ []) ∷ [])

abbrev turn_makes_its_variable_tree : Tree
turn_makes_its_variable_tree = block
    (NumFor 0 1 (codes "i") (int 1) (int 1) absent (block (local_function 1 "f" turn_makes_its_variable_function ∷ [])) ∷ [])

turn_makes_its_variable : run (written turn_makes_its_variable_function 1 (0 ∷ []) ∷ []) (0 ∷ []) turn_makes_its_variable_tree 100 87 ≡ Ends stop.Memory 5 64 []
unfolding computing
turn_makes_its_variable = refl

-- for k in pairs({1}) do local function f() return k end end
-- The variable of a turn is made after the iterator has answered.
abbrev iterator_answers_first_function : Tree
iterator_answers_first_function = function 100 [] false (gives (name 0 "k" ∷ []) ∷ [])

abbrev iterator_answers_first_tree : Tree
iterator_answers_first_tree = block
    (GenFor 0 1 (codes "k" ∷ [])
    (parts (call (global "pairs") (table (item no_field (int 1)) ∷ []) ∷ []))
    (block (local_function 1 "f" iterator_answers_first_function ∷ [])) ∷ [])

iterator_answers_first : run (written iterator_answers_first_function 1 (0 ∷ []) ∷ []) (0 ∷ []) iterator_answers_first_tree 100 199 ≡ Ends stop.Memory 9 176 []
unfolding computing
iterator_answers_first = refl

-- for i = 1, 0, 0 do end
-- With a step of 0 a turn is made while the value is at least the limit.
abbrev step_of_zero_tree : Tree
step_of_zero_tree = block (NumFor 0 1 (codes "i") (int 1) (int 0) (present (int 0)) (block []) ∷ [])

step_of_zero : run [] [] step_of_zero_tree 20 100 ≡ Ends stop.Instructions 20 64 []
unfolding computing
step_of_zero = refl

-- for i = "x",
-- zfs.sync.snapshot("rpool/a@s") do end
-- What is no number is told after all three values are there, with the line of the loop.
abbrev num_for_has_all_values_first_tree : Tree
num_for_has_all_values_first_tree = block
    (NumFor 0 1 (codes "i") (text "x")
    (Call 0 2 (dot (dot (global "zfs") "sync") "snapshot") (parts (text "rpool/a@s" ∷ [])))
    absent (block []) ∷ [])

num_for_has_all_values_first : run [] [] num_for_has_all_values_first_tree 100 1000 ≡ Fails (codes "[string \"channel program\"]:1: for value is not a number") 11 143 ((codes "rpool/a@s") ∷ [])
unfolding computing
num_for_has_all_values_first = refl

-- local n = 0 for i = -9223372036854775807, -9223372036854775807 - 1, -1 do n = n + 1 end return n
abbrev num_for_down_to_the_least_tree : Tree
num_for_down_to_the_least_tree = block
    (local 0 ("n" ∷ []) (int 0 ∷ [])
    ∷ NumFor 1 1 (codes "i") (Unary 0 1 un.Neg (int 9223372036854775807))
    (binary bin.Sub (Unary 0 1 un.Neg (int 9223372036854775807)) (int 1))
    (present (Unary 0 1 un.Neg (int 1)))
    (block (assign (name 0 "n" ∷ []) (binary bin.Add (name 0 "n") (int 1) ∷ []) ∷ []))
    ∷ gives (name 0 "n" ∷ []) ∷ [])

num_for_down_to_the_least : run [] [] num_for_down_to_the_least_tree 100 1000 ≡ Answers (value.Int (pos 2) ∷ []) 28 64 []
unfolding computing
num_for_down_to_the_least = refl

-- local function up(n, i) if i < n then return i + 1 end end local s = 0 for i in up, 3, 0 do i = i * 10 s = s + i end return s
-- An assignment to the variable of a turn doesn't change what the function is called with next.
abbrev gen_for_changed_function : Tree
gen_for_changed_function = function 100 ("n" ∷ "i" ∷ []) false
    (If 0 1
    (case no_case (binary bin.Less (name 2 "i") (name 1 "n"))
    (block (gives (binary bin.Add (name 2 "i") (int 1) ∷ []) ∷ [])))
    absent ∷ [])

abbrev gen_for_changed_tree : Tree
gen_for_changed_tree = block
    (local_function 0 "up" gen_for_changed_function
    ∷ local 3 ("s" ∷ []) (int 0 ∷ [])
    ∷ GenFor 4 1 (codes "i" ∷ []) (parts (name 0 "up" ∷ int 3 ∷ int 0 ∷ []))
    (block
    (assign (name 4 "i" ∷ []) (binary bin.Mul (name 4 "i") (int 10) ∷ [])
    ∷ assign (name 3 "s" ∷ []) (binary bin.Add (name 3 "s") (name 4 "i") ∷ []) ∷ []))
    ∷ gives (name 3 "s" ∷ []) ∷ [])

gen_for_changed : run (written gen_for_changed_function 1 [] ∷ []) [] gen_for_changed_tree 100 1000 ≡ Answers (value.Int (pos 60) ∷ []) 83 112 []
unfolding computing
gen_for_changed = refl
