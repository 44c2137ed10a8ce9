-- Jumps and labels (Lua 5.2 manual, 3.3.4). Before each example stands its text.
use Rattle.std.specs.Prelude.{◌≡◌, refl, pos, false, [], ◌∷◌, codes}
use Rattle.std.specs.Fmt.{digits}
use Rattle.std.specs.Int.{int_wrap}
use Rattle.lua_ast.specs.declared.node.BinOp.TheVariants as bin
use Rattle.lua_ast.specs.Tree.{Tree, Do, Repeat, If, NumFor, Index, no_case, case, absent, no_field}
use Rattle.lua_meaning.specs.declared.value.Value.TheVariants as value
use Rattle.lua_meaning.specs.Nodes.{eval, statements, each_first, expressions, targets_of, target_of, choose, maybe_eval, step_of, each_field, all_fields}
use Rattle.lua_meaning.specs.Programs.{jobs, resume}
use Rattle.lua_meaning.proofs.Writing.{int, name, global, call, binary, table, function, block, gives, local, assign, goto, label, written}
use Rattle.lua_meaning.proofs.SampleHost.{run, Answers}

-- What the examples compute with.
computing : Unit {0}
unfolding eval statements each_first expressions targets_of target_of choose maybe_eval step_of each_field all_fields jobs resume digits int_wrap
computing = tt

-- i = 0 ::top:: i = i + 1 if i < 5 then goto top end return i
abbrev goto_back_tree : Tree
goto_back_tree = block
    (assign (global "i" ∷ []) (int 0 ∷ [])
    ∷ label "top"
    ∷ assign (global "i" ∷ []) (binary bin.Add (global "i") (int 1) ∷ [])
    ∷ If 0 1 (case no_case (binary bin.Less (global "i") (int 5)) (block (goto "top" ∷ []))) absent
    ∷ gives (global "i" ∷ []) ∷ [])

goto_back : run [] [] goto_back_tree 100000 100000 ≡ Answers (value.Int (pos 5) ∷ []) 64 112 []
unfolding computing
goto_back = refl

-- local i = 0 ::top:: local j = i i = j + 1 if i < 5 then goto top end return i
abbrev goto_back_local_tree : Tree
goto_back_local_tree = block
    (local 0 ("i" ∷ []) (int 0 ∷ [])
    ∷ label "top"
    ∷ local 1 ("j" ∷ []) (name 0 "i" ∷ [])
    ∷ assign (name 0 "i" ∷ []) (binary bin.Add (name 1 "j") (int 1) ∷ [])
    ∷ If 0 1 (case no_case (binary bin.Less (name 0 "i") (int 5)) (block (goto "top" ∷ []))) absent
    ∷ gives (name 0 "i" ∷ []) ∷ [])

goto_back_local : run [] [] goto_back_local_tree 100000 100000 ≡ Answers (value.Int (pos 5) ∷ []) 73 64 []
unfolding computing
goto_back_local = refl

-- local i = 0 goto done i = 1 ::done:: return i
abbrev goto_forward_tree : Tree
goto_forward_tree = block
    (local 0 ("i" ∷ []) (int 0 ∷ [])
    ∷ goto "done"
    ∷ assign (name 0 "i" ∷ []) (int 1 ∷ [])
    ∷ label "done"
    ∷ gives (name 0 "i" ∷ []) ∷ [])

goto_forward : run [] [] goto_forward_tree 100000 100000 ≡ Answers (value.Int (pos 0) ∷ []) 7 64 []
unfolding computing
goto_forward = refl

-- local n = 0 for i = 1, 5 do if i % 2 == 0 then goto continue end n = n + i ::continue:: end return n
abbrev goto_continue_tree : Tree
goto_continue_tree = block
    (local 0 ("n" ∷ []) (int 0 ∷ [])
    ∷ NumFor 1 1 (codes "i") (int 1) (int 5) absent
    (block
    (If 0 1
    (case no_case
    (binary bin.Eq (binary bin.Mod (name 1 "i") (int 2)) (int 0))
    (block (goto "continue" ∷ [])))
    absent
    ∷ assign (name 0 "n" ∷ []) (binary bin.Add (name 0 "n") (name 1 "i") ∷ [])
    ∷ label "continue" ∷ []))
    ∷ gives (name 0 "n" ∷ []) ∷ [])

goto_continue : run [] [] goto_continue_tree 100000 100000 ≡ Answers (value.Int (pos 9) ∷ []) 72 64 []
unfolding computing
goto_continue = refl

-- local n = 0 for i = 1, 3 do goto continue local x = 5 n = n + x ::continue:: end return n
abbrev goto_over_locals_tree : Tree
goto_over_locals_tree = block
    (local 0 ("n" ∷ []) (int 0 ∷ [])
    ∷ NumFor 1 1 (codes "i") (int 1) (int 3) absent
    (block
    (goto "continue"
    ∷ local 2 ("x" ∷ []) (int 5 ∷ [])
    ∷ assign (name 0 "n" ∷ []) (binary bin.Add (name 0 "n") (name 2 "x") ∷ [])
    ∷ label "continue" ∷ []))
    ∷ gives (name 0 "n" ∷ []) ∷ [])

goto_over_locals : run [] [] goto_over_locals_tree 100000 100000 ≡ Answers (value.Int (pos 0) ∷ []) 20 64 []
unfolding computing
goto_over_locals = refl

-- local n = 0 for i = 1, 3 do for j = 1, 3 do n = n + 1 if j == 2 then goto out end end end ::out:: return n
abbrev goto_out_of_two_tree : Tree
goto_out_of_two_tree = block
    (local 0 ("n" ∷ []) (int 0 ∷ [])
    ∷ NumFor 1 1 (codes "i") (int 1) (int 3) absent
    (block
    (NumFor 2 1 (codes "j") (int 1) (int 3) absent
    (block
    (assign (name 0 "n" ∷ []) (binary bin.Add (name 0 "n") (int 1) ∷ [])
    ∷ If 0 1 (case no_case (binary bin.Eq (name 2 "j") (int 2)) (block (goto "out" ∷ []))) absent ∷ [])) ∷ []))
    ∷ label "out"
    ∷ gives (name 0 "n" ∷ []) ∷ [])

goto_out_of_two : run [] [] goto_out_of_two_tree 100000 100000 ≡ Answers (value.Int (pos 2) ∷ []) 38 64 []
unfolding computing
goto_out_of_two = refl

-- local n = 0 do goto a end ::a:: n = n + 1 if n < 3 then goto a end return n
abbrev goto_first_label_tree : Tree
goto_first_label_tree = block
    (local 0 ("n" ∷ []) (int 0 ∷ [])
    ∷ Do 0 1 (block (goto "a" ∷ []))
    ∷ label "a"
    ∷ assign (name 0 "n" ∷ []) (binary bin.Add (name 0 "n") (int 1) ∷ [])
    ∷ If 0 1 (case no_case (binary bin.Less (name 0 "n") (int 3)) (block (goto "a" ∷ []))) absent
    ∷ gives (name 0 "n" ∷ []) ∷ [])

goto_first_label : run [] [] goto_first_label_tree 100000 100000 ≡ Answers (value.Int (pos 3) ∷ []) 42 64 []
unfolding computing
goto_first_label = refl

-- local fs = {} local i = 0 ::top:: local j = i i = i + 1 fs[i] = function() j = j + 1 return j end if i < 2 then goto top end return fs[1]() + fs[1]() * 10 + fs[2]() * 100
abbrev goto_captured_function : Tree
goto_captured_function = function 100 [] false
    (assign (name 2 "j" ∷ []) (binary bin.Add (name 2 "j") (int 1) ∷ []) ∷ gives (name 2 "j" ∷ []) ∷ [])

abbrev goto_captured_tree : Tree
goto_captured_tree = block
    (local 0 ("fs" ∷ []) (table no_field ∷ [])
    ∷ local 1 ("i" ∷ []) (int 0 ∷ [])
    ∷ label "top"
    ∷ local 2 ("j" ∷ []) (name 1 "i" ∷ [])
    ∷ assign (name 1 "i" ∷ []) (binary bin.Add (name 1 "i") (int 1) ∷ [])
    ∷ assign (Index 0 1 (name 0 "fs") (name 1 "i") ∷ []) (goto_captured_function ∷ [])
    ∷ If 0 1 (case no_case (binary bin.Less (name 1 "i") (int 2)) (block (goto "top" ∷ []))) absent
    ∷ gives
    (binary bin.Add
    (binary bin.Add (call (Index 0 1 (name 0 "fs") (int 1)) [])
    (binary bin.Mul (call (Index 0 1 (name 0 "fs") (int 1)) []) (int 10)))
    (binary bin.Mul (call (Index 0 1 (name 0 "fs") (int 2)) []) (int 100)) ∷ []) ∷ [])

goto_captured : run (written goto_captured_function 0 (2 ∷ []) ∷ []) (2 ∷ []) goto_captured_tree 100000 100000 ≡ Answers (value.Int (pos 221) ∷ []) 84 400 []
unfolding computing
goto_captured = refl

-- local n = 0 repeat local j = n do local k = 5 n = n + 1 goto next end ::next:: until j == 1 return n
-- The jump leaves the locals of the inner block, and the test still sees those of the body.
abbrev goto_before_until_tree : Tree
goto_before_until_tree = block
    (local 0 ("n" ∷ []) (int 0 ∷ [])
    ∷ Repeat 0 1
    (block
    (local 1 ("j" ∷ []) (name 0 "n" ∷ [])
    ∷ Do 0 1
    (block
    (local 2 ("k" ∷ []) (int 5 ∷ [])
    ∷ assign (name 0 "n" ∷ []) (binary bin.Add (name 0 "n") (int 1) ∷ [])
    ∷ goto "next" ∷ []))
    ∷ label "next" ∷ []))
    (binary bin.Eq (name 1 "j") (int 1))
    ∷ gives (name 0 "n" ∷ []) ∷ [])

goto_before_until : run [] [] goto_before_until_tree 100 1000 ≡ Answers (value.Int (pos 2) ∷ []) 42 64 []
unfolding computing
goto_before_until = refl

-- local n = 0 do goto a n = 1 ::a:: n = n + 10 end ::a:: n = n + 100 return n
-- Of two labels of one name the jump means that of the innermost block.
abbrev goto_innermost_label_tree : Tree
goto_innermost_label_tree = block
    (local 0 ("n" ∷ []) (int 0 ∷ [])
    ∷ Do 0 1
    (block
    (goto "a"
    ∷ assign (name 0 "n" ∷ []) (int 1 ∷ [])
    ∷ label "a"
    ∷ assign (name 0 "n" ∷ []) (binary bin.Add (name 0 "n") (int 10) ∷ []) ∷ []))
    ∷ label "a"
    ∷ assign (name 0 "n" ∷ []) (binary bin.Add (name 0 "n") (int 100) ∷ [])
    ∷ gives (name 0 "n" ∷ []) ∷ [])

goto_innermost_label : run [] [] goto_innermost_label_tree 100 1000 ≡ Answers (value.Int (pos 110) ∷ []) 20 64 []
unfolding computing
goto_innermost_label = refl
