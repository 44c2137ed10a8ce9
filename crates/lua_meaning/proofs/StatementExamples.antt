-- Locals, assignments and conditions (Lua 5.2 manual, 3.3.1 to 3.3.4 and 3.3.7). Before each example stands its text.
use Rattle.std.specs.Prelude.{◌≡◌, refl, pos, false, [], ◌∷◌, codes}
use Rattle.std.specs.Fmt.{digits}
use Rattle.std.specs.Int.{int_wrap}
use Rattle.zc_budget.specs.declared.budget.Stop.TheVariants as stop
use Rattle.lua_ast.specs.declared.node.Literal.TheVariants as literal
use Rattle.lua_ast.specs.declared.node.BinOp.TheVariants as bin
use Rattle.lua_ast.specs.Tree.{Tree, Do, If, NumFor, Const, Name, Index, no_case, case, absent, present, no_field}
use Rattle.lua_meaning.specs.declared.value.Value.TheVariants as value
use Rattle.lua_meaning.specs.Nodes.{eval, statements, each_first, expressions, targets_of, target_of, choose, maybe_eval, step_of, each_field, all_fields}
use Rattle.lua_meaning.specs.Programs.{jobs, resume}
use Rattle.lua_meaning.proofs.Writing.{int, text, nil, name, global, dot, call, binary, table, function, block, does, gives, local, local_function, assign, written}
use Rattle.lua_meaning.proofs.SampleHost.{run, Answers, Fails, Ends}

-- What the examples compute with.
computing : Unit {0}
unfolding eval statements each_first expressions targets_of target_of choose maybe_eval step_of each_field all_fields jobs resume digits int_wrap
computing = tt

-- local a, b, c = 1, 2 a, b = b, a x = a return a * 10 + b
abbrev local_and_assign_tree : Tree
local_and_assign_tree = block
    (local 0 ("a" ∷ "b" ∷ "c" ∷ []) (int 1 ∷ int 2 ∷ [])
    ∷ assign (name 0 "a" ∷ name 1 "b" ∷ []) (name 1 "b" ∷ name 0 "a" ∷ [])
    ∷ assign (global "x" ∷ []) (name 0 "a" ∷ [])
    ∷ gives (binary bin.Add (binary bin.Mul (name 0 "a") (int 10)) (name 1 "b") ∷ []) ∷ [])

local_and_assign : run [] [] local_and_assign_tree 100000 100000 ≡ Answers (value.Int (pos 21) ∷ []) 18 112 []
unfolding computing
local_and_assign = refl

-- local t = {} local i = 1 i, t[i] = i + 1, 20 return t[1]
abbrev assign_left_to_right_tree : Tree
assign_left_to_right_tree = block
    (local 0 ("t" ∷ []) (table no_field ∷ [])
    ∷ local 1 ("i" ∷ []) (int 1 ∷ [])
    ∷ assign (name 1 "i" ∷ Index 0 1 (name 0 "t") (name 1 "i") ∷ []) (binary bin.Add (name 1 "i") (int 1) ∷ int 20 ∷ [])
    ∷ gives (Index 0 1 (name 0 "t") (int 1) ∷ []) ∷ [])

assign_left_to_right : run [] [] assign_left_to_right_tree 100000 100000 ≡ Answers (value.Int (pos 20) ∷ []) 18 176 []
unfolding computing
assign_left_to_right = refl

-- local a = 1 local function f() a = a + 1 return a end f() return f()
abbrev captured_local_function : Tree
captured_local_function = function 100 [] false
    (assign (name 0 "a" ∷ []) (binary bin.Add (name 0 "a") (int 1) ∷ []) ∷ gives (name 0 "a" ∷ []) ∷ [])

abbrev captured_local_tree : Tree
captured_local_tree = block
    (local 0 ("a" ∷ []) (int 1 ∷ [])
    ∷ local_function 1 "f" captured_local_function
    ∷ does (call (name 1 "f") [])
    ∷ gives (call (name 1 "f") [] ∷ []) ∷ [])

captured_local : run (written captured_local_function 0 (0 ∷ []) ∷ []) (0 ∷ []) captured_local_tree 100000 100000 ≡ Answers (value.Int (pos 3) ∷ []) 27 152 []
unfolding computing
captured_local = refl

-- local a = 1 do local a = 2 a = a + 1 end return a
abbrev do_block_tree : Tree
do_block_tree = block
    (local 0 ("a" ∷ []) (int 1 ∷ [])
    ∷ Do 0 1
    (block
    (local 1 ("a" ∷ []) (int 2 ∷ [])
    ∷ assign (name 1 "a" ∷ []) (binary bin.Add (name 1 "a") (int 1) ∷ []) ∷ []))
    ∷ gives (name 0 "a" ∷ []) ∷ [])

do_block : run [] [] do_block_tree 100000 100000 ≡ Answers (value.Int (pos 1) ∷ []) 14 64 []
unfolding computing
do_block = refl

-- local n = 0 for i = 1, 4 do if i == 1 then n = n + 1 elseif i == 2 then n = n + 10 elseif i == 3 then n = n + 100 else n = n + 1000 end end return n
abbrev if_cases_tree : Tree
if_cases_tree = block
    (local 0 ("n" ∷ []) (int 0 ∷ [])
    ∷ NumFor 1 1 (codes "i") (int 1) (int 4) absent
    (block
    (If 0 1
    (case
    (case
    (case no_case (binary bin.Eq (name 1 "i") (int 1))
    (block (assign (name 0 "n" ∷ []) (binary bin.Add (name 0 "n") (int 1) ∷ []) ∷ [])))
    (binary bin.Eq (name 1 "i") (int 2))
    (block (assign (name 0 "n" ∷ []) (binary bin.Add (name 0 "n") (int 10) ∷ []) ∷ [])))
    (binary bin.Eq (name 1 "i") (int 3))
    (block (assign (name 0 "n" ∷ []) (binary bin.Add (name 0 "n") (int 100) ∷ []) ∷ [])))
    (present (block (assign (name 0 "n" ∷ []) (binary bin.Add (name 0 "n") (int 1000) ∷ []) ∷ []))) ∷ []))
    ∷ gives (name 0 "n" ∷ []) ∷ [])

if_cases : run [] [] if_cases_tree 100000 100000 ≡ Answers (value.Int (pos 1111) ∷ []) 71 64 []
unfolding computing
if_cases = refl

-- if false then x = 1 end return x
abbrev if_without_else_tree : Tree
if_without_else_tree = block
    (If 0 1 (case no_case (Const 0 1 (literal.Bool false)) (block (assign (global "x" ∷ []) (int 1 ∷ []) ∷ []))) absent
    ∷ gives (global "x" ∷ []) ∷ [])

if_without_else : run [] [] if_without_else_tree 100000 100000 ≡ Answers (value.Nil ∷ []) 5 64 []
unfolding computing
if_without_else = refl

-- x = 5 y = x x = nil return y
abbrev globals_tree : Tree
globals_tree = block
    (assign (global "x" ∷ []) (int 5 ∷ [])
    ∷ assign (global "y" ∷ []) (global "x" ∷ [])
    ∷ assign (global "x" ∷ []) (nil ∷ [])
    ∷ gives (global "y" ∷ []) ∷ [])

globals : run [] [] globals_tree 100000 100000 ≡ Answers (value.Int (pos 5) ∷ []) 12 160 []
unfolding computing
globals = refl

-- local t = {} t.a = 1 t.a = nil t.a = 2 return t.a
abbrev key_put_again_tree : Tree
key_put_again_tree = block
    (local 0 ("t" ∷ []) (table no_field ∷ [])
    ∷ assign (dot (name 0 "t") "a" ∷ []) (int 1 ∷ [])
    ∷ assign (dot (name 0 "t") "a" ∷ []) (nil ∷ [])
    ∷ assign (dot (name 0 "t") "a" ∷ []) (int 2 ∷ [])
    ∷ gives (dot (name 0 "t") "a" ∷ []) ∷ [])

key_put_again : run [] [] key_put_again_tree 100000 100000 ≡ Answers (value.Int (pos 2) ∷ []) 22 176 []
unfolding computing
key_put_again = refl

-- a.b = 1
abbrev assigns_into_nil_tree : Tree
assigns_into_nil_tree = block (assign (dot (global "a") "b" ∷ []) (int 1 ∷ []) ∷ [])

assigns_into_nil : run [] [] assigns_into_nil_tree 100000 100000 ≡ Fails (codes "[string \"channel program\"]:1: attempt to index a nil value") 6 146 []
unfolding computing
assigns_into_nil = refl

-- local s = "x" s.y = 1
abbrev assigns_into_a_text_tree : Tree
assigns_into_a_text_tree = block (local 0 ("s" ∷ []) (text "x" ∷ []) ∷ assign (dot (name 0 "s") "y" ∷ []) (int 1 ∷ []) ∷ [])

assigns_into_a_text : run [] [] assigns_into_a_text_tree 100000 100000 ≡ Fails (codes "[string \"channel program\"]:1: attempt to index a string value") 8 149 []
unfolding computing
assigns_into_a_text = refl

-- local a = {} local function f() return a end
-- The variable is made after the expression: the table costs 64 bytes, and 23 are left.
abbrev local_is_made_after_its_value_function : Tree
local_is_made_after_its_value_function = function 100 [] false (gives (name 0 "a" ∷ []) ∷ [])

abbrev local_is_made_after_its_value_tree : Tree
local_is_made_after_its_value_tree = block
    (local 0 ("a" ∷ []) (table no_field ∷ []) ∷ local_function 1 "f" local_is_made_after_its_value_function ∷ [])

local_is_made_after_its_value : run (written local_is_made_after_its_value_function 0 (0 ∷ []) ∷ []) (0 ∷ []) local_is_made_after_its_value_tree 100 151 ≡ Ends stop.Memory 3 128 []
unfolding computing
local_is_made_after_its_value = refl

-- local function f() return f end
-- The variable is made before the function, which costs 64 bytes.
abbrev local_is_made_before_its_function_function : Tree
local_is_made_before_its_function_function = function 100 [] false (gives (name 0 "f" ∷ []) ∷ [])

abbrev local_is_made_before_its_function_tree : Tree
local_is_made_before_its_function_tree = block (local_function 0 "f" local_is_made_before_its_function_function ∷ [])

local_is_made_before_its_function : run (written local_is_made_before_its_function_function 0 (0 ∷ []) ∷ []) (0 ∷ []) local_is_made_before_its_function_tree 100 151 ≡ Ends stop.Memory 3 88 []
unfolding computing
local_is_made_before_its_function = refl

-- local a a, a = 1, 2 return a
-- The stores go from left to right, so the last one counts.
abbrev last_store_counts_tree : Tree
last_store_counts_tree = block
    (local 0 ("a" ∷ []) []
    ∷ assign (name 0 "a" ∷ name 0 "a" ∷ []) (int 1 ∷ int 2 ∷ [])
    ∷ gives (name 0 "a" ∷ []) ∷ [])

last_store_counts : run [] [] last_store_counts_tree 100 1000 ≡ Answers (value.Int (pos 2) ∷ []) 9 64 []
unfolding computing
last_store_counts = refl

-- t.x = zfs.sync.snapshot("rpool/a@s")
-- What can't be indexed is told when it is stored to, after the expressions.
abbrev fails_when_it_stores_tree : Tree
fails_when_it_stores_tree = block
    (assign (dot (global "t") "x" ∷ []) (call (dot (dot (global "zfs") "sync") "snapshot") (text "rpool/a@s" ∷ []) ∷ []) ∷ [])

fails_when_it_stores : run [] [] fails_when_it_stores_tree 100 1000 ≡ Fails (codes "[string \"channel program\"]:1: attempt to index a nil value") 13 146 ((codes "rpool/a@s") ∷ [])
unfolding computing
fails_when_it_stores = refl

-- x,
-- a.b = 1, 2
-- A failing store has the line of its assignment, and the stores before it are done.
abbrev store_has_the_line_of_its_assignment_tree : Tree
store_has_the_line_of_its_assignment_tree = block
    (assign (global "x" ∷ Index 0 2 (Name 0 2 (codes "a")) (text "b") ∷ []) (int 1 ∷ int 2 ∷ []) ∷ [])

store_has_the_line_of_its_assignment : run [] [] store_has_the_line_of_its_assignment_tree 100 1000 ≡ Fails (codes "[string \"channel program\"]:1: attempt to index a nil value") 8 194 []
unfolding computing
store_has_the_line_of_its_assignment = refl

-- local function f(s) zfs.sync.snapshot(s) return {} end f("rpool/a@1").x, f("rpool/a@2").y = f("rpool/a@3"), f("rpool/a@4")
-- All targets are prepared before the first expression is evaluated.
abbrev targets_come_first_function : Tree
targets_come_first_function = function 100 ("s" ∷ []) false
    (does (call (dot (dot (global "zfs") "sync") "snapshot") (name 1 "s" ∷ [])) ∷ gives (table no_field ∷ []) ∷ [])

abbrev targets_come_first_tree : Tree
targets_come_first_tree = block
    (local_function 0 "f" targets_come_first_function
    ∷ assign
    (dot (call (name 0 "f") (text "rpool/a@1" ∷ [])) "x" ∷ dot (call (name 0 "f") (text "rpool/a@2" ∷ [])) "y" ∷ [])
    (call (name 0 "f") (text "rpool/a@3" ∷ []) ∷ call (name 0 "f") (text "rpool/a@4" ∷ []) ∷ []) ∷ [])

targets_come_first : run (written targets_come_first_function 1 [] ∷ []) [] targets_come_first_tree 100 1000 ≡ Answers [] 68 464 ((codes "rpool/a@1") ∷ (codes "rpool/a@2") ∷ (codes "rpool/a@3") ∷ (codes "rpool/a@4") ∷ [])
unfolding computing
targets_come_first = refl
