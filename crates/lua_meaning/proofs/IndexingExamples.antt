-- `__index` and `__newindex` (Lua 5.2 manual, 2.4). Before each example stands its text.
use Rattle.std.specs.Prelude.{◌≡◌, refl, pos, false, [], ◌∷◌, codes}
use Rattle.std.specs.Fmt.{digits}
use Rattle.std.specs.Int.{int_wrap}
use Rattle.lua_ast.specs.declared.node.BinOp.TheVariants as bin
use Rattle.lua_ast.specs.Tree.{Tree, Assign, Name, Index, Paren, no_field, named}
use Rattle.lua_meaning.specs.declared.value.Value.TheVariants as value
use Rattle.lua_meaning.specs.Nodes.{eval, statements, each_first, expressions, targets_of, target_of, choose, maybe_eval, step_of, each_field, all_fields}
use Rattle.lua_meaning.specs.Programs.{jobs, resume}
use Rattle.lua_meaning.proofs.Writing.{parts, int, text, nil, name, global, dot, call, binary, table, function, block, does, gives, local, local_function, assign, written}
use Rattle.lua_meaning.proofs.SampleHost.{run, Answers, Fails}

-- What the examples compute with.
computing : Unit {0}
unfolding eval statements each_first expressions targets_of target_of choose maybe_eval step_of each_field all_fields jobs resume digits int_wrap
computing = tt

-- local t = setmetatable({}, {__index = function(t, k) return k .. "!" end}) return t.a
abbrev index_function_function : Tree
index_function_function = function 100 ("t" ∷ "k" ∷ []) false (gives (binary bin.Concat (name 2 "k") (text "!") ∷ []) ∷ [])

abbrev index_function_tree : Tree
index_function_tree = block
    (local 0 ("t" ∷ [])
    (call (global "setmetatable")
    (table no_field ∷ table (named no_field (codes "__index") index_function_function) ∷ []) ∷ [])
    ∷ gives (dot (name 0 "t") "a" ∷ []) ∷ [])

index_function : run (written index_function_function 1 [] ∷ []) [] index_function_tree 100000 100000 ≡ Answers (value.Text (codes "a!") ∷ []) 18 314 []
unfolding computing
index_function = refl

-- local a = {x = 5} local b = setmetatable({}, {__index = a}) local c = setmetatable({}, {__index = b}) return c.x
abbrev index_table_of_index_table_tree : Tree
index_table_of_index_table_tree = block
    (local 0 ("a" ∷ []) (table (named no_field (codes "x") (int 5)) ∷ [])
    ∷ local 1 ("b" ∷ [])
    (call (global "setmetatable") (table no_field ∷ table (named no_field (codes "__index") (name 0 "a")) ∷ []) ∷ [])
    ∷ local 2 ("c" ∷ [])
    (call (global "setmetatable") (table no_field ∷ table (named no_field (codes "__index") (name 1 "b")) ∷ []) ∷ [])
    ∷ gives (dot (name 2 "c") "x" ∷ []) ∷ [])

index_table_of_index_table : run [] [] index_table_of_index_table_tree 100000 100000 ≡ Answers (value.Int (pos 5) ∷ []) 24 528 []
unfolding computing
index_table_of_index_table = refl

-- local t = setmetatable({}, {__index = 5}) return t.a
abbrev index_number_tree : Tree
index_number_tree = block
    (local 0 ("t" ∷ [])
    (call (global "setmetatable") (table no_field ∷ table (named no_field (codes "__index") (int 5)) ∷ []) ∷ [])
    ∷ gives (dot (name 0 "t") "a" ∷ []) ∷ [])

index_number : run [] [] index_number_tree 100000 100000 ≡ Fails (codes "[string \"channel program\"]:1: attempt to index a number value") 13 325 []
unfolding computing
index_number = refl

-- local function g(k) return k .. k end local t = setmetatable({}, {__index = function(t, k) return g(k) end}) return t.ab
abbrev index_function_that_calls_another_function_1 : Tree
index_function_that_calls_another_function_1 = function 100 ("k" ∷ []) false (gives (binary bin.Concat (name 1 "k") (name 1 "k") ∷ []) ∷ [])

abbrev index_function_that_calls_another_function_2 : Tree
index_function_that_calls_another_function_2 = function 101 ("t" ∷ "k" ∷ []) false (gives (call (name 0 "g") (name 4 "k" ∷ []) ∷ []) ∷ [])

abbrev index_function_that_calls_another_tree : Tree
index_function_that_calls_another_tree = block
    (local_function 0 "g" index_function_that_calls_another_function_1
    ∷ local 2 ("t" ∷ [])
    (call (global "setmetatable")
    (table no_field
    ∷ table (named no_field (codes "__index") index_function_that_calls_another_function_2) ∷ []) ∷ [])
    ∷ gives (dot (name 2 "t") "ab" ∷ []) ∷ [])

index_function_that_calls_another : run (written index_function_that_calls_another_function_1 1 [] ∷ written index_function_that_calls_another_function_2 3 (0 ∷ []) ∷ []) (0 ∷ []) index_function_that_calls_another_tree 100000 100000 ≡ Answers (value.Text (codes "abab") ∷ []) 25 404 []
unfolding computing
index_function_that_calls_another = refl

-- local log = {} local t = setmetatable({}, {__newindex = function(t, k, v) log[k] = v end}) t.a = 5 return log.a
abbrev newindex_function_function : Tree
newindex_function_function = function 100 ("t" ∷ "k" ∷ "v" ∷ []) false (assign (Index 0 1 (name 0 "log") (name 3 "k") ∷ []) (name 4 "v" ∷ []) ∷ [])

abbrev newindex_function_tree : Tree
newindex_function_tree = block
    (local 0 ("log" ∷ []) (table no_field ∷ [])
    ∷ local 1 ("t" ∷ [])
    (call (global "setmetatable")
    (table no_field ∷ table (named no_field (codes "__newindex") newindex_function_function) ∷ []) ∷ [])
    ∷ assign (dot (name 1 "t") "a" ∷ []) (int 5 ∷ [])
    ∷ gives (dot (name 0 "log") "a" ∷ []) ∷ [])

newindex_function : run (written newindex_function_function 2 (0 ∷ []) ∷ []) (0 ∷ []) newindex_function_tree 100000 100000 ≡ Answers (value.Int (pos 5) ∷ []) 26 440 []
unfolding computing
newindex_function = refl

-- local a = {} local t = setmetatable({}, {__newindex = a}) t.x = 5 return a.x
abbrev newindex_table_tree : Tree
newindex_table_tree = block
    (local 0 ("a" ∷ []) (table no_field ∷ [])
    ∷ local 1 ("t" ∷ [])
    (call (global "setmetatable") (table no_field ∷ table (named no_field (codes "__newindex") (name 0 "a")) ∷ []) ∷ [])
    ∷ assign (dot (name 1 "t") "x" ∷ []) (int 5 ∷ [])
    ∷ gives (dot (name 0 "a") "x" ∷ []) ∷ [])

newindex_table : run [] [] newindex_table_tree 100000 100000 ≡ Answers (value.Int (pos 5) ∷ []) 20 352 []
unfolding computing
newindex_table = refl

-- local t = setmetatable({a = 1}, {__newindex = 5}) t.a = 2 return t.a
-- A key that has a value is assigned without the metamethod.
abbrev newindex_of_a_key_with_a_value_tree : Tree
newindex_of_a_key_with_a_value_tree = block
    (local 0 ("t" ∷ [])
    (call (global "setmetatable")
    (table (named no_field (codes "a") (int 1)) ∷ table (named no_field (codes "__newindex") (int 5)) ∷ []) ∷ [])
    ∷ assign (dot (name 0 "t") "a" ∷ []) (int 2 ∷ [])
    ∷ gives (dot (name 0 "t") "a" ∷ []) ∷ [])

newindex_of_a_key_with_a_value : run [] [] newindex_of_a_key_with_a_value_tree 100 1000 ≡ Answers (value.Int (pos 2) ∷ []) 18 288 []
unfolding computing
newindex_of_a_key_with_a_value = refl

-- local t = setmetatable({}, {__newindex = 5})
-- t.b = 2
abbrev newindex_number_tree : Tree
newindex_number_tree = block
    (local 0 ("t" ∷ [])
    (call (global "setmetatable") (table no_field ∷ table (named no_field (codes "__newindex") (int 5)) ∷ []) ∷ [])
    ∷ Assign 0 2 (parts (Index 0 2 (Name 1 2 (codes "t")) (text "b") ∷ [])) (parts (int 2 ∷ [])) ∷ [])

newindex_number : run [] [] newindex_number_tree 100 1000 ≡ Fails (codes "[string \"channel program\"]:2: attempt to index a number value") 14 325 []
unfolding computing
newindex_number = refl

-- local b = setmetatable({n = 1}, {__index = function(t) return t.n end}) local a = setmetatable({n = 2}, {__index = b}) return a.x
-- The function is given the table of the last step.
abbrev index_function_of_a_further_table_function : Tree
index_function_of_a_further_table_function = function 100 ("t" ∷ []) false (gives (dot (name 1 "t") "n" ∷ []) ∷ [])

abbrev index_function_of_a_further_table_tree : Tree
index_function_of_a_further_table_tree = block
    (local 0 ("b" ∷ [])
    (call (global "setmetatable")
    (table (named no_field (codes "n") (int 1))
    ∷ table (named no_field (codes "__index") index_function_of_a_further_table_function) ∷ []) ∷ [])
    ∷ local 2 ("a" ∷ [])
    (call (global "setmetatable")
    (table (named no_field (codes "n") (int 2)) ∷ table (named no_field (codes "__index") (name 0 "b")) ∷ []) ∷ [])
    ∷ gives (dot (name 2 "a") "x" ∷ []) ∷ [])

index_function_of_a_further_table : run (written index_function_of_a_further_table_function 1 [] ∷ []) [] index_function_of_a_further_table_tree 100 1000 ≡ Answers (value.Int (pos 1) ∷ []) 28 560 []
unfolding computing
index_function_of_a_further_table = refl

-- local t = setmetatable({}, {__newindex = function(t, k, v) x = v end}) t[nil] = 5 return x
-- A key of nil fails where it would be put, not before.
abbrev newindex_of_nil_function : Tree
newindex_of_nil_function = function 100 ("t" ∷ "k" ∷ "v" ∷ []) false (assign (global "x" ∷ []) (name 3 "v" ∷ []) ∷ [])

abbrev newindex_of_nil_tree : Tree
newindex_of_nil_tree = block
    (local 0 ("t" ∷ [])
    (call (global "setmetatable") (table no_field ∷ table (named no_field (codes "__newindex") newindex_of_nil_function) ∷ []) ∷ [])
    ∷ assign (Index 0 1 (name 0 "t") nil ∷ []) (int 5 ∷ [])
    ∷ gives (global "x" ∷ []) ∷ [])

newindex_of_nil : run (written newindex_of_nil_function 1 [] ∷ []) [] newindex_of_nil_tree 100 1000 ≡ Answers (value.Int (pos 5) ∷ []) 20 336 []
unfolding computing
newindex_of_nil = refl

-- setmetatable(string, {__index = function(t, k) return k end}) return ("x").foo
abbrev index_of_the_string_table_function : Tree
index_of_the_string_table_function = function 100 ("t" ∷ "k" ∷ []) false (gives (name 1 "k" ∷ []) ∷ [])

abbrev index_of_the_string_table_tree : Tree
index_of_the_string_table_tree = block
    (does
    (call (global "setmetatable")
    (global "string" ∷ table (named no_field (codes "__index") index_of_the_string_table_function) ∷ []))
    ∷ gives (dot (Paren 0 1 (text "x")) "foo" ∷ []) ∷ [])

index_of_the_string_table : run (written index_of_the_string_table_function 0 [] ∷ []) [] index_of_the_string_table_tree 100 1000 ≡ Answers (value.Text (codes "foo") ∷ []) 17 224 []
unfolding computing
index_of_the_string_table = refl
