-- The rules worked out on small texts, as a reader would.
use Rattle.std.specs.Prelude.{◌≡◌, ℕ, true, false, pos, List, [], ◌∷◌, codes, Option, Some, None, refl}
use Rattle.lua_ast.specs.declared.node.Literal.TheVariants as literal
use Rattle.lua_ast.specs.Tree.{Tree, Block, Local, Assign, Do, While, Repeat, NumFor, LocalFunction, Return, Break, Goto, Label, Const, Vararg, Function, Name, Trees, none, snoc, absent}
use Rattle.lua_scope.specs.declared.occurrence.Occurrence.{Occurrence}
use Rattle.lua_scope.specs.declared.load_error.LoadError.{LoadError}
use Rattle.lua_scope.specs.declared.load_error.LoadError.TheVariants.{NoLabel, TwoLabels, JumpsIntoLocal, BreakOutside, VarargOutside}
use Rattle.lua_scope.specs.declared.place.Place.TheVariants as place
use Rattle.lua_scope.specs.Labels.{labels_of, inside_of}
use Rattle.lua_scope.specs.Walk.{walked}
use Rattle.lua_scope.specs.Scope.{declared, first_variable, scope}
use Rattle.lua_scope.specs.Variables.{variable_of, is_captured, captured_by, place_of_name}
use Rattle.lua_scope.specs.Refusals.{first_refusal}

abbrev trees_behind : Trees → List Tree → Trees
trees_behind ts [] = ts
trees_behind ts (t ∷ more) = trees_behind (snoc ts t) more

abbrev these : List Tree → Trees
these = trees_behind none

abbrev block : List Tree → Tree
block stats = Block 90 1 (these stats)

abbrev text : List Tree → List Occurrence
text stats = walked [] (block stats)

abbrev refused : List Tree → Option LoadError
refused stats = first_refusal (text stats)

abbrev x : List ℕ
x = codes "x"

abbrev y : List ℕ
y = codes "y"

abbrev l : List ℕ
l = codes "l"

abbrev one : Tree
one = Const 80 1 (literal.Int (pos 1))

abbrev local_x : Tree
local_x = Local 81 2 (x ∷ []) none

-- `goto l`
no_label : refused (Goto 0 1 l ∷ []) ≡ Some (NoLabel 1)
unfolding labels_of inside_of walked scope first_refusal
no_label = refl

-- `break`
break_outside : refused (Break 0 1 ∷ []) ≡ Some (BreakOutside 1)
unfolding labels_of inside_of walked scope first_refusal
break_outside = refl

-- `while x do break end`
break_inside : refused (While 2 1 (Name 0 1 x) (Block 1 1 (these (Break 3 1 ∷ []))) ∷ []) ≡ None
unfolding labels_of inside_of walked scope first_refusal
break_inside = refl

-- `while x do f = function() break end end`
break_in_function : refused (While 2 1 (Name 0 1 x) (block (Assign 3 1 (these (Name 4 1 y ∷ [])) (these (Function 5 1 [] false (block (Break 6 7 ∷ [])) ∷ [])) ∷ [])) ∷ []) ≡ Some (BreakOutside 7)
unfolding labels_of inside_of walked first_variable scope first_refusal
break_in_function = refl

-- `function f() return ... end`
vararg_outside : refused (Assign 0 1 (these (Name 1 1 (codes "f") ∷ [])) (these (Function 2 1 [] false (block (Return 3 1 (these (Vararg 4 1 ∷ [])) ∷ [])) ∷ [])) ∷ []) ≡ Some (VarargOutside 1)
unfolding labels_of inside_of walked first_variable scope first_refusal
vararg_outside = refl

-- `return ...` in the chunk, and in a vararg function
vararg_of_chunk : refused (Return 3 1 (these (Vararg 4 1 ∷ Function 2 1 [] true (block (Return 5 1 (these (Vararg 6 1 ∷ [])) ∷ [])) ∷ [])) ∷ []) ≡ None
unfolding labels_of inside_of walked first_variable scope first_refusal
vararg_of_chunk = refl

-- `goto l local x ::l::`
label_at_end : refused (Goto 0 1 l ∷ local_x ∷ Label 1 1 l ∷ Label 2 1 x ∷ []) ≡ None
unfolding labels_of inside_of walked first_variable scope first_refusal
label_at_end = refl

-- `goto l local x ::l:: x = 1`
jumps_into_local : refused (Goto 0 1 l ∷ local_x ∷ Label 1 1 l ∷ Assign 2 1 (these (Name 3 1 x ∷ [])) (these (one ∷ [])) ∷ []) ≡ Some (JumpsIntoLocal 1)
unfolding labels_of inside_of walked first_variable scope first_refusal
jumps_into_local = refl

-- `repeat goto l local x ::l:: until x`
repeat_label_at_end : refused (Repeat 5 1 (block (Goto 0 3 l ∷ local_x ∷ Label 1 1 l ∷ [])) (Name 6 1 x) ∷ []) ≡ Some (JumpsIntoLocal 3)
unfolding labels_of inside_of walked first_variable scope first_refusal
repeat_label_at_end = refl

-- `do goto l end local x ::l:: x = 1`: out of a block
jumps_out_into_local : refused (Do 7 1 (block (Goto 0 4 l ∷ [])) ∷ local_x ∷ Label 1 1 l ∷ Assign 2 1 (these (Name 3 1 x ∷ [])) (these (one ∷ [])) ∷ []) ≡ Some (JumpsIntoLocal 4)
unfolding labels_of inside_of walked first_variable scope first_refusal
jumps_out_into_local = refl

-- `do local x ::l:: end goto l`: a label of an inner block is not in sight
no_label_inside : refused (Do 7 1 (block (local_x ∷ Label 1 1 l ∷ [])) ∷ Goto 0 4 l ∷ []) ≡ Some (NoLabel 4)
unfolding labels_of inside_of walked first_variable scope first_refusal
no_label_inside = refl

-- `::l:: f = function() goto l end`: nor is one of the function around
no_label_around : refused (Label 1 1 l ∷ Assign 0 1 (these (Name 1 1 (codes "f") ∷ [])) (these (Function 2 1 [] false (block (Goto 3 5 l ∷ [])) ∷ [])) ∷ []) ≡ Some (NoLabel 5)
unfolding labels_of inside_of walked first_variable scope first_refusal
no_label_around = refl

-- `::l:: local x goto l`: backwards, out of the scope of a local
backwards : refused (Label 1 1 l ∷ local_x ∷ Goto 3 5 l ∷ []) ≡ None
unfolding labels_of inside_of walked first_variable scope first_refusal
backwards = refl

-- `::l:: do ::l:: goto l end ::l::`: the second of the block's own is told
two_labels : refused (Label 1 1 l ∷ Do 7 1 (block (Label 2 2 l ∷ Goto 0 4 l ∷ [])) ∷ Label 3 6 l ∷ Goto 4 7 y ∷ []) ≡ Some (TwoLabels 6)
unfolding labels_of inside_of walked first_variable scope first_refusal
two_labels = refl

-- `goto y ::l:: ::l::`: the goto is earlier in the text
first_in_text_order : refused (Goto 4 1 y ∷ Label 1 2 l ∷ Label 3 3 l ∷ []) ≡ Some (NoLabel 1)
unfolding labels_of inside_of walked first_variable scope first_refusal
first_in_text_order = refl

-- `local x = x local x = x`: a local is not in scope in its own initializer, and hides the earlier one behind it
abbrev shadowing : List Occurrence
shadowing = text (Local 1 1 (x ∷ []) (these (Name 0 1 x ∷ [])) ∷ Local 3 1 (x ∷ []) (these (Name 2 1 x ∷ [])) ∷ Return 5 1 (these (Name 4 1 x ∷ [])) ∷ [])

own_initializer : place_of_name shadowing 0 ≡ place.Global
unfolding labels_of inside_of walked declared first_variable scope variable_of is_captured
own_initializer = refl

earlier_local : place_of_name shadowing 2 ≡ place.Local 0
unfolding labels_of inside_of walked declared first_variable scope variable_of is_captured
earlier_local = refl

later_local : place_of_name shadowing 4 ≡ place.Local 1
unfolding labels_of inside_of walked declared first_variable scope variable_of is_captured
later_local = refl

-- `repeat local x until x` and then `x`
abbrev repeated : List Occurrence
repeated = text (Repeat 5 1 (block (local_x ∷ [])) (Name 6 1 x) ∷ Return 7 1 (these (Name 8 1 x ∷ [])) ∷ [])

condition_sees_body : place_of_name repeated 6 ≡ place.Local 0
unfolding labels_of inside_of walked declared first_variable scope variable_of is_captured
condition_sees_body = refl

not_behind : place_of_name repeated 8 ≡ place.Global
unfolding labels_of inside_of walked declared first_variable scope variable_of is_captured
not_behind = refl

-- `for x = x, 1 do f = function() x = y end end x = 1`: a loop's variable that a function captures
abbrev loop : List Occurrence
loop = text
    (NumFor 1 1 x (Name 0 1 x) one absent (block (Assign 2 1 (these (Name 3 1 (codes "f") ∷ [])) (these (Function 4 1 [] false (block (Assign 5 1 (these (Name 6 1 x ∷ [])) (these (Name 7 1 y ∷ [])) ∷ [])) ∷ [])) ∷ []))
    ∷ Return 8 1 (these (Name 9 1 x ∷ [])) ∷ [])

loop_bound : place_of_name loop 0 ≡ place.Global
unfolding labels_of inside_of walked declared first_variable scope variable_of is_captured
loop_bound = refl

loop_variable : place_of_name loop 6 ≡ place.Captured 0
unfolding labels_of inside_of walked declared first_variable scope variable_of is_captured
loop_variable = refl

behind_loop : place_of_name loop 9 ≡ place.Global
unfolding labels_of inside_of walked declared first_variable scope variable_of is_captured
behind_loop = refl

loop_captured : captured_by loop 4 ≡ 0 ∷ []
unfolding labels_of inside_of walked declared first_variable scope captured_by
loop_captured = refl

-- `local y, x  function m:f(a) local b = function() return x, self, y end end  return x`: y is 0, x 1, self 2, a 3, b 4
abbrev method : List Occurrence
method = text
    (Local 1 1 (y ∷ x ∷ []) none
    ∷ Assign 2 1 (these (Name 3 1 (codes "f") ∷ [])) (these (Function 4 1 (codes "self" ∷ codes "a" ∷ []) false (block
    (Local 5 1 (codes "b" ∷ []) (these (Function 6 1 [] false (block (Return 7 1 (these (Name 8 1 x ∷ Name 9 1 (codes "self") ∷ Name 10 1 y ∷ [])) ∷ [])) ∷ [])) ∷ [])) ∷ []))
    ∷ Return 11 1 (these (Name 12 1 x ∷ [])) ∷ [])

own_self : place_of_name method 9 ≡ place.Captured 2
unfolding labels_of inside_of walked declared first_variable scope variable_of is_captured
own_self = refl

used_outside_too : place_of_name method 12 ≡ place.Captured 1
unfolding labels_of inside_of walked declared first_variable scope variable_of is_captured
used_outside_too = refl

inner_captures : captured_by method 6 ≡ 0 ∷ 1 ∷ 2 ∷ []
unfolding labels_of inside_of walked declared first_variable scope captured_by
inner_captures = refl

outer_captures : captured_by method 4 ≡ 0 ∷ 1 ∷ []
unfolding labels_of inside_of walked declared first_variable scope captured_by
outer_captures = refl

self_first : first_variable method 4 ≡ 2
unfolding labels_of inside_of walked declared first_variable
self_first = refl

named_before_inner : first_variable method 5 ≡ 4
unfolding labels_of inside_of walked declared first_variable
named_before_inner = refl

-- `local function x() return x end`: in scope in its own body
own_body : place_of_name (text (LocalFunction 0 1 x (Function 1 1 [] false (block (Return 2 1 (these (Name 3 1 x ∷ [])) ∷ []))) ∷ [])) 3 ≡ place.Captured 0
unfolding labels_of inside_of walked declared first_variable scope variable_of is_captured
own_body = refl

-- `local x = function() return x end`: a variable that is not yet in scope is not captured
not_yet_in_scope : captured_by (text (Local 0 1 (x ∷ []) (these (Function 1 1 [] false (block (Return 2 1 (these (Name 3 1 x ∷ [])) ∷ [])) ∷ [])) ∷ [])) 1 ≡ []
unfolding labels_of inside_of walked declared first_variable scope captured_by
not_yet_in_scope = refl
