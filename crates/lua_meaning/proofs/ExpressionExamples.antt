-- Constants, tables, calls, functions and names (Lua 5.2 manual, 3.4). Before each example stands its text.
use Rattle.std.specs.Prelude.{◌≡◌, refl, pos, false, [], ◌∷◌, codes}
use Rattle.std.specs.Fmt.{digits}
use Rattle.std.specs.Int.{int_wrap}
use Rattle.zc_budget.specs.declared.budget.Stop.TheVariants as stop
use Rattle.lua_ast.specs.declared.node.Literal.TheVariants as literal
use Rattle.lua_ast.specs.declared.node.BinOp.TheVariants as bin
use Rattle.lua_ast.specs.declared.node.UnOp.TheVariants as un
use Rattle.lua_ast.specs.declared.node.LogicOp.TheVariants as logic_op
use Rattle.lua_ast.specs.Tree.{Tree, CallStat, If, Const, Name, Index, Call, Method, Logic, Unary, Paren, no_case, case, absent, no_field, item, named, keyed}
use Rattle.lua_meaning.specs.declared.value.Value.TheVariants as value
use Rattle.lua_meaning.specs.Nodes.{eval, statements, each_first, expressions, targets_of, target_of, choose, maybe_eval, step_of, each_field, all_fields}
use Rattle.lua_meaning.specs.Programs.{jobs, resume}
use Rattle.lua_meaning.proofs.Writing.{parts, int, text, nil, name, global, dot, call, binary, table, function, block, does, gives, local, local_function, assign, written}
use Rattle.lua_meaning.proofs.SampleHost.{run, Answers, Fails, Ends}

-- What the examples compute with.
computing : Unit {0}
unfolding eval statements each_first expressions targets_of target_of choose maybe_eval step_of each_field all_fields jobs resume digits int_wrap
computing = tt

-- return nil == false
abbrev constants_tree : Tree
constants_tree = block (gives (binary bin.Eq nil (Const 0 1 (literal.Bool false)) ∷ []) ∷ [])

constants : run [] [] constants_tree 100000 100000 ≡ Answers (value.Bool false ∷ []) 5 64 []
unfolding computing
constants = refl

-- local t = {1, 2, x = 3, ["y"] = 4, 5} return t[3] * 100 + t.x * 10 + t.y
abbrev table_fields_tree : Tree
table_fields_tree = block
    (local 0 ("t" ∷ [])
    (table
    (item
    (keyed (named (item (item no_field (int 1)) (int 2)) (codes "x") (int 3)) (text "y") (int 4))
    (int 5)) ∷ [])
    ∷ gives
    (binary bin.Add
    (binary bin.Add (binary bin.Mul (Index 0 1 (name 0 "t") (int 3)) (int 100))
    (binary bin.Mul (dot (name 0 "t") "x") (int 10)))
    (dot (name 0 "t") "y") ∷ []) ∷ [])

table_fields : run [] [] table_fields_tree 100000 100000 ≡ Answers (value.Int (pos 534) ∷ []) 25 368 []
unfolding computing
table_fields = refl

-- local t = {nil, 2, nil, 4} return t[4]
abbrev table_nil_fields_tree : Tree
table_nil_fields_tree = block
    (local 0 ("t" ∷ []) (table (item (item (item (item no_field nil) (int 2)) nil) (int 4)) ∷ [])
    ∷ gives (Index 0 1 (name 0 "t") (int 4) ∷ []) ∷ [])

table_nil_fields : run [] [] table_nil_fields_tree 100000 100000 ≡ Answers (value.Int (pos 4) ∷ []) 11 224 []
unfolding computing
table_nil_fields = refl

-- return {[nil] = 1}
abbrev table_nil_key_tree : Tree
table_nil_key_tree = block (gives (table (keyed no_field nil (int 1)) ∷ []) ∷ [])

table_nil_key : run [] [] table_nil_key_tree 100000 100000 ≡ Fails (codes "[string \"channel program\"]:1: table index is nil") 5 200 []
unfolding computing
table_nil_key = refl

-- local t = {n = 5} function t:get(k) return self.n + k end return t:get(10)
abbrev method_call_function : Tree
method_call_function = function 100 ("self" ∷ "k" ∷ []) false (gives (binary bin.Add (dot (name 1 "self") "n") (name 2 "k") ∷ []) ∷ [])

abbrev method_call_tree : Tree
method_call_tree = block
    (local 0 ("t" ∷ []) (table (named no_field (codes "n") (int 5)) ∷ [])
    ∷ assign (dot (name 0 "t") "get" ∷ []) (method_call_function ∷ [])
    ∷ gives (Method 0 1 (name 0 "t") (codes "get") (parts (int 10 ∷ [])) ∷ []) ∷ [])

method_call : run (written method_call_function 1 [] ∷ []) [] method_call_tree 100000 100000 ≡ Answers (value.Int (pos 15) ∷ []) 20 272 []
unfolding computing
method_call = refl

-- local t = {} return t:get(10)
abbrev method_of_no_such_name_tree : Tree
method_of_no_such_name_tree = block
    (local 0 ("t" ∷ []) (table no_field ∷ [])
    ∷ gives (Method 0 1 (name 0 "t") (codes "get") (parts (int 10 ∷ [])) ∷ []) ∷ [])

method_of_no_such_name : run [] [] method_of_no_such_name_tree 100000 100000 ≡ Fails (codes "[string \"channel program\"]:1: attempt to call a nil value") 7 209 []
unfolding computing
method_of_no_such_name = refl

-- local function f(x) return x and 1 or 2 end return f(1) * 100 + f(nil) * 10 + f(false)
abbrev logic_values_function : Tree
logic_values_function = function 100 ("x" ∷ []) false
    (gives (Logic 0 1 logic_op.Or (Logic 0 1 logic_op.And (name 1 "x") (int 1)) (int 2) ∷ []) ∷ [])

abbrev logic_values_tree : Tree
logic_values_tree = block
    (local_function 0 "f" logic_values_function
    ∷ gives
    (binary bin.Add
    (binary bin.Add (binary bin.Mul (call (name 0 "f") (int 1 ∷ [])) (int 100))
    (binary bin.Mul (call (name 0 "f") (nil ∷ [])) (int 10)))
    (call (name 0 "f") (Const 0 1 (literal.Bool false) ∷ [])) ∷ []) ∷ [])

logic_values : run (written logic_values_function 1 [] ∷ []) [] logic_values_tree 100000 100000 ≡ Answers (value.Int (pos 122) ∷ []) 37 112 []
unfolding computing
logic_values = refl

-- return not nil and -(-5)
abbrev not_and_minus_tree : Tree
not_and_minus_tree = block
    (gives (Logic 0 1 logic_op.And (Unary 0 1 un.Not nil) (Unary 0 1 un.Neg (Paren 0 1 (Unary 0 1 un.Neg (int 5)))) ∷ []) ∷ [])

not_and_minus : run [] [] not_and_minus_tree 100000 100000 ≡ Answers (value.Int (pos 5) ∷ []) 9 64 []
unfolding computing
not_and_minus = refl

-- return #"abc" * 10 + #{1, 2}
abbrev lengths_tree : Tree
lengths_tree = block
    (gives
    (binary bin.Add (binary bin.Mul (Unary 0 1 un.Len (text "abc")) (int 10))
    (Unary 0 1 un.Len (table (item (item no_field (int 1)) (int 2)))) ∷ []) ∷ [])

lengths : run [] [] lengths_tree 100000 100000 ≡ Answers (value.Int (pos 32) ∷ []) 11 224 []
unfolding computing
lengths = refl

-- local a = 0 local function inc() a = a + 1 end local function get() return a end inc() inc() return get()
abbrev closures_share_function_1 : Tree
closures_share_function_1 = function 100 [] false (assign (name 0 "a" ∷ []) (binary bin.Add (name 0 "a") (int 1) ∷ []) ∷ [])

abbrev closures_share_function_2 : Tree
closures_share_function_2 = function 101 [] false (gives (name 0 "a" ∷ []) ∷ [])

abbrev closures_share_tree : Tree
closures_share_tree = block
    (local 0 ("a" ∷ []) (int 0 ∷ [])
    ∷ local_function 1 "inc" closures_share_function_1
    ∷ local_function 2 "get" closures_share_function_2
    ∷ does (call (name 1 "inc") [])
    ∷ does (call (name 1 "inc") [])
    ∷ gives (call (name 2 "get") [] ∷ []) ∷ [])

closures_share : run (written closures_share_function_1 0 (0 ∷ []) ∷ written closures_share_function_2 0 (0 ∷ []) ∷ []) (0 ∷ []) closures_share_tree 100000 100000 ≡ Answers (value.Int (pos 2) ∷ []) 31 216 []
unfolding computing
closures_share = refl

-- local function f(x) return function() return function() x = x + 1 return x end end end local g = f(3)() g() return g()
abbrev closure_of_closure_function_1 : Tree
closure_of_closure_function_1 = function 100 [] false
    (assign (name 1 "x" ∷ []) (binary bin.Add (name 1 "x") (int 1) ∷ []) ∷ gives (name 1 "x" ∷ []) ∷ [])

abbrev closure_of_closure_function_2 : Tree
closure_of_closure_function_2 = function 101 [] false (gives (closure_of_closure_function_1 ∷ []) ∷ [])

abbrev closure_of_closure_function_3 : Tree
closure_of_closure_function_3 = function 102 ("x" ∷ []) false (gives (closure_of_closure_function_2 ∷ []) ∷ [])

abbrev closure_of_closure_tree : Tree
closure_of_closure_tree = block
    (local_function 0 "f" closure_of_closure_function_3
    ∷ local 2 ("g" ∷ []) (call (call (name 0 "f") (int 3 ∷ [])) [] ∷ [])
    ∷ does (call (name 2 "g") [])
    ∷ gives (call (name 2 "g") [] ∷ []) ∷ [])

closure_of_closure : run (written closure_of_closure_function_1 0 (1 ∷ []) ∷ written closure_of_closure_function_2 0 (1 ∷ []) ∷ written closure_of_closure_function_3 1 [] ∷ []) (1 ∷ []) closure_of_closure_tree 100000 100000 ≡ Answers (value.Int (pos 5) ∷ []) 36 264 []
unfolding computing
closure_of_closure = refl

-- local function f(x) return function() x = x + 1 return x end end local g = f(3) g() return g()
abbrev parameter_captured_function_1 : Tree
parameter_captured_function_1 = function 100 [] false
    (assign (name 1 "x" ∷ []) (binary bin.Add (name 1 "x") (int 1) ∷ []) ∷ gives (name 1 "x" ∷ []) ∷ [])

abbrev parameter_captured_function_2 : Tree
parameter_captured_function_2 = function 101 ("x" ∷ []) false (gives (parameter_captured_function_1 ∷ []) ∷ [])

abbrev parameter_captured_tree : Tree
parameter_captured_tree = block
    (local_function 0 "f" parameter_captured_function_2
    ∷ local 2 ("g" ∷ []) (call (name 0 "f") (int 3 ∷ []) ∷ [])
    ∷ does (call (name 2 "g") [])
    ∷ gives (call (name 2 "g") [] ∷ []) ∷ [])

parameter_captured : run (written parameter_captured_function_1 0 (1 ∷ []) ∷ written parameter_captured_function_2 1 [] ∷ []) (1 ∷ []) parameter_captured_tree 100000 100000 ≡ Answers (value.Int (pos 5) ∷ []) 32 200 []
unfolding computing
parameter_captured = refl

-- return a.b
abbrev index_nil_tree : Tree
index_nil_tree = block (gives (dot (global "a") "b" ∷ []) ∷ [])

index_nil : run [] [] index_nil_tree 100000 100000 ≡ Fails (codes "[string \"channel program\"]:1: attempt to index a nil value") 5 146 []
unfolding computing
index_nil = refl

-- string.up = function(s) return s .. "!" end local s = "a" return s:up()
abbrev text_index_function : Tree
text_index_function = function 100 ("s" ∷ []) false (gives (binary bin.Concat (name 0 "s") (text "!") ∷ []) ∷ [])

abbrev text_index_tree : Tree
text_index_tree = block
    (assign (dot (global "string") "up" ∷ []) (text_index_function ∷ [])
    ∷ local 1 ("s" ∷ []) (text "a" ∷ [])
    ∷ gives (Method 0 1 (name 1 "s") (codes "up") (parts []) ∷ []) ∷ [])

text_index : run (written text_index_function 0 [] ∷ []) [] text_index_tree 100000 100000 ≡ Answers (value.Text (codes "a!") ∷ []) 16 186 []
unfolding computing
text_index = refl

-- local x = 5
-- x()
abbrev call_number_tree : Tree
call_number_tree = block (local 0 ("x" ∷ []) (int 5 ∷ []) ∷ CallStat 0 2 (Call 0 2 (Name 1 2 (codes "x")) (parts [])) ∷ [])

call_number : run [] [] call_number_tree 100000 100000 ≡ Fails (codes "[string \"channel program\"]:2: attempt to call a number value") 6 148 []
unfolding computing
call_number = refl

-- local function fact(n) if n == 0 then return 1 end return n * fact(n - 1) end return fact(5)
abbrev function_that_calls_itself_function : Tree
function_that_calls_itself_function = function 100 ("n" ∷ []) false
    (If 0 1 (case no_case (binary bin.Eq (name 1 "n") (int 0)) (block (gives (int 1 ∷ []) ∷ []))) absent
    ∷ gives (binary bin.Mul (name 1 "n") (call (name 0 "fact") (binary bin.Sub (name 1 "n") (int 1) ∷ [])) ∷ []) ∷ [])

abbrev function_that_calls_itself_tree : Tree
function_that_calls_itself_tree = block
    (local_function 0 "fact" function_that_calls_itself_function ∷ gives (call (name 0 "fact") (int 5 ∷ []) ∷ []) ∷ [])

function_that_calls_itself : run (written function_that_calls_itself_function 1 (0 ∷ []) ∷ []) (0 ∷ []) function_that_calls_itself_tree 100000 100000 ≡ Answers (value.Int (pos 120) ∷ []) 80 152 []
unfolding computing
function_that_calls_itself = refl

-- local function f(x) return function() return x end end f(1)
-- A parameter is made before the body's block begins.
abbrev parameter_is_made_before_the_block_inner : Tree
parameter_is_made_before_the_block_inner = function 100 [] false (gives (name 1 "x" ∷ []) ∷ [])

abbrev parameter_is_made_before_the_block_function : Tree
parameter_is_made_before_the_block_function = function 101 ("x" ∷ []) false (gives (parameter_is_made_before_the_block_inner ∷ []) ∷ [])

abbrev parameter_is_made_before_the_block_tree : Tree
parameter_is_made_before_the_block_tree = block
    (local_function 0 "f" parameter_is_made_before_the_block_function ∷ does (call (name 0 "f") (int 1 ∷ [])) ∷ [])

parameter_is_made_before_the_block : run (written parameter_is_made_before_the_block_inner 2 (1 ∷ []) ∷ written parameter_is_made_before_the_block_function 1 [] ∷ []) (1 ∷ []) parameter_is_made_before_the_block_tree 100 135 ≡ Ends stop.Memory 7 112 []
unfolding computing
parameter_is_made_before_the_block = refl

-- return {[nil] = x()}
-- The value is evaluated before the pair is stored.
abbrev value_before_the_store_tree : Tree
value_before_the_store_tree = block (gives (table (keyed no_field nil (call (global "x") [])) ∷ []) ∷ [])

value_before_the_store : run [] [] value_before_the_store_tree 100 1000 ≡ Fails (codes "[string \"channel program\"]:1: attempt to call a nil value") 6 209 []
unfolding computing
value_before_the_store = refl

-- return ("x").foo
abbrev text_has_no_such_key_tree : Tree
text_has_no_such_key_tree = block (gives (dot (Paren 0 1 (text "x")) "foo" ∷ []) ∷ [])

text_has_no_such_key : run [] [] text_has_no_such_key_tree 100 1000 ≡ Answers (value.Nil ∷ []) 6 64 []
unfolding computing
text_has_no_such_key = refl

-- x:f(y())
-- The method is looked up before the arguments are evaluated.
abbrev method_before_its_arguments_tree : Tree
method_before_its_arguments_tree = block (does (Method 0 1 (global "x") (codes "f") (parts (call (global "y") [] ∷ []))) ∷ [])

method_before_its_arguments : run [] [] method_before_its_arguments_tree 100 1000 ≡ Fails (codes "[string \"channel program\"]:1: attempt to index a nil value") 4 146 []
unfolding computing
method_before_its_arguments = refl
