-- What frames make of what they are given holds numbers of the heap alone, where these and the frames do.
use Rattle.std.proofs.Common.{◌≡◌, ◌∙◌, sym, refl, find, ◌==◌, length, option_map, ℕ, ◌+◌, ℤ, List, [], ◌∷◌, ◌++◌, drop, Bool, true, false, Option, Some, None, All}
use Rattle.std.proofs.lemmas.List.Elements.{All-nil, All-cons, All-head, All-drop, All-append, All-push}
use Rattle.std.specs.Prelude.{◌+ℤ◌, slice_get, if◌then◌else◌, ⊤}
use Rattle.std.specs.List.{position_or_len}
use Rattle.std.proofs.lemmas.List.Folds.{find_at}
use Rattle.lua_ast.specs.declared.node.BinOp.{BinOp}
use Rattle.lua_ast.specs.declared.node.BinOp.TheVariants as bin
use Rattle.lua_ast.specs.declared.node.LogicOp.{LogicOp}
use Rattle.lua_ast.specs.declared.node.LogicOp.TheVariants as logic_op
use Rattle.lua_ast.specs.declared.node.LinedNode.{LinedNode}
use Rattle.lua_meaning.specs.declared.value.Value.{Value}
use Rattle.lua_meaning.specs.declared.variable.Slot.{Slot}
use Rattle.lua_meaning.specs.declared.variable.Slot.TheVariants as slot
use Rattle.lua_meaning.specs.declared.variable.Target.{Target}
use Rattle.lua_meaning.specs.declared.variable.Target.TheVariants as target
use Rattle.lua_meaning.specs.Values.{first, truth}
use Rattle.lua_meaning.specs.Numbers.{fits}
use Rattle.lua_meaning.specs.Operators.{negated_if}
use Rattle.lua_meaning.specs.Code.{Code}
use Rattle.lua_meaning.specs.Locals.{Locals, slot_of}
use Rattle.lua_meaning.specs.Nodes.{slot_target}
use Rattle.lua_values.specs.Ids.{Ids, IsOf}
use Rattle.lua_values.proofs.OwnTables.{at_some}
use Rattle.lua_coroutines.specs.declared.frame.Frame.{Frame}
use Rattle.lua_coroutines.specs.declared.frame.Frame.TheVariants as frame
use Rattle.lua_coroutines.specs.declared.frame.BodyFrame.TheVariants as body
use Rattle.lua_coroutines.specs.declared.frame.AssignFrame.TheVariants as assign
use Rattle.lua_coroutines.specs.declared.frame.CalleeFrame.TheVariants as callee
use Rattle.lua_coroutines.specs.declared.frame.WhileFrame.TheVariants as while_loop
use Rattle.lua_coroutines.specs.declared.frame.RepeatFrame.TheVariants as repeat_loop
use Rattle.lua_coroutines.specs.declared.frame.CountFrame.TheVariants as count_loop
use Rattle.lua_coroutines.specs.declared.frame.EachFrame.TheVariants as each_loop
use Rattle.lua_coroutines.specs.declared.frame.TableFrame.TheVariants as table
use Rattle.lua_coroutines.specs.declared.frame.OperandFrame.TheVariants as operand
use Rattle.lua_coroutines.specs.declared.frame.NativeFrame.TheVariants as native
use Rattle.lua_steps.specs.declared.mode.Mode.{Mode}
use Rattle.lua_steps.specs.declared.mode.Mode.TheVariants as mode
use Rattle.lua_steps.specs.declared.given.Given.{Given}
use Rattle.lua_steps.specs.declared.given.Given.TheVariants as given
use Rattle.lua_steps.specs.Parts.{list_at, block_at, tests_at, blocks_at, otherwise_at, step_at, right_at, logic_at}
use Rattle.lua_steps.specs.Frames.{told_of}
use Rattle.lua_steps.specs.Starts.{otherwise_or_none}
use Rattle.lua_steps.specs.Given.{statement_next, open_next, local_next, argument_next, result_next, argument_first, test_next, step_next, number_next, logic_given, if_given, each_next, value_next, frame_given}
use Rattle.lua_steps.specs.Passed.{returned, broken, label_in, landed_in, landed_open, jumped}
use Rattle.lua_steps.specs.Own.{AreOf, IsOwnSlot, IsOwnLocal, IsOwnTarget, IsOwnFrame, IsOwnMode, IsOwnGiven}

module _ (ids : Ids) where
  pub first_own : (vs : List Value) → AreOf ids vs → IsOf ids (first vs)
  first_own [] own = tt
  first_own (v ∷ vs) own = All-head (IsOf ids) v vs own

  pub none_own : AreOf ids []
  none_own = All-nil (IsOf ids)

  pub one_own : (v : Value) → IsOf ids v → AreOf ids (v ∷ [])
  one_own v own = All-cons (IsOf ids) v [] own none_own

  pub drop_own : (n : ℕ) (vs : List Value) → AreOf ids vs → AreOf ids (drop n vs)
  drop_own n vs own = All-drop (IsOf ids) n vs own

  pub both_own : (vs ws : List Value) → AreOf ids vs → AreOf ids ws → AreOf ids (vs ++ ws)
  both_own vs ws own more = All-append (IsOf ids) vs ws own more

  one_more : (vs ws : List Value) → AreOf ids vs → AreOf ids ws → AreOf ids (vs ++ first ws ∷ [])
  one_more vs ws own more = All-push (IsOf ids) vs (first ws) own (first_own ws more)

  statement_own : (block next outer : ℕ) (o : Option ℕ) → IsOwnGiven ids (statement_next block next outer o)
  statement_own block next outer None = none_own
  statement_own block next outer (Some i) = (tt, tt)

  open_own : (block next outer : ℕ) (o : Option ℕ) → IsOwnGiven ids (open_next block next outer o)
  open_own block next outer None = none_own
  open_own block next outer (Some i) = (tt, tt)

  local_own : (node next : ℕ) (vs ws : List Value) (o : Option ℕ) → AreOf ids vs → AreOf ids ws → IsOwnGiven ids (local_next node next vs ws o)
  local_own node next vs ws None own more = both_own vs ws own more
  local_own node next vs ws (Some i) own more = (one_more vs ws own more, tt)

  argument_own : (node next : ℕ) (f : Value) (vs ws : List Value) (o : Option ℕ) → IsOf ids f → AreOf ids vs → AreOf ids ws → IsOwnGiven ids (argument_next node next f vs ws o)
  argument_own node next f vs ws None callee own more = (callee, both_own vs ws own more)
  argument_own node next f vs ws (Some i) callee own more = ((callee, one_more vs ws own more), tt)

  result_own : (node next : ℕ) (vs ws : List Value) (o : Option ℕ) → AreOf ids vs → AreOf ids ws → IsOwnGiven ids (result_next node next vs ws o)
  result_own node next vs ws None own more = both_own vs ws own more
  result_own node next vs ws (Some i) own more = (one_more vs ws own more, tt)

  value_own : (node next : ℕ) (ts : List Target) (vs ws : List Value) (o : Option ℕ) → All (IsOwnTarget ids) ts → AreOf ids vs → AreOf ids ws → IsOwnGiven ids (value_next node next ts vs ws o)
  value_own node next ts vs ws None targets own more = (targets, both_own vs ws own more)
  value_own node next ts vs ws (Some i) targets own more = ((targets, one_more vs ws own more), tt)

  each_own : (node next locals : ℕ) (vs ws : List Value) (o : Option ℕ) → AreOf ids vs → AreOf ids ws → IsOwnGiven ids (each_next node next locals vs ws o)
  each_own node next locals vs ws None own more =
      let all = both_own vs ws own more in
      (first_own (vs ++ ws) all, first_own (drop 1 (vs ++ ws)) (drop_own 1 (vs ++ ws) all), first_own (drop 2 (vs ++ ws)) (drop_own 2 (vs ++ ws) all))
  each_own node next locals vs ws (Some i) own more = (one_more vs ws own more, tt)

  first_argument_own : (node : ℕ) (f : Value) (vs : List Value) (o : Option ℕ) → IsOf ids f → AreOf ids vs → IsOwnGiven ids (argument_first node f vs o)
  first_argument_own node f vs None callee own = ((callee, own), none_own)
  first_argument_own node f vs (Some i) callee own = ((callee, own), tt)

  pub otherwise_own : (o : Option ℕ) → IsOwnMode ids (otherwise_or_none o)
  otherwise_own None = none_own
  otherwise_own (Some i) = tt

  test_own : (node k : ℕ) (otherwise t b : Option ℕ) → IsOwnGiven ids (test_next node k otherwise t b)
  test_own node k otherwise (Some t) (Some b) = (tt, tt)
  test_own node k otherwise (Some t) None = otherwise_own otherwise
  test_own node k otherwise None (Some b) = otherwise_own otherwise
  test_own node k otherwise None None = otherwise_own otherwise

  step_own_given : (node : ℕ) (a b : Value) (o : Option ℕ) → IsOf ids a → IsOf ids b → IsOwnGiven ids (step_next node a b o)
  step_own_given node a b None p q = ((p, q), one_own _ tt)
  step_own_given node a b (Some i) p q = ((p, q), tt)

  number_own : (more : Bool) (node : ℕ) (at limit by : ℤ) (outer : ℕ) → IsOwnMode ids (number_next more node at limit by outer)
  number_own true node at limit by outer = tt
  number_own false node at limit by outer = none_own

  logic_own : (op : LogicOp) (holds : Bool) (node right : ℕ) (v : Value) → IsOf ids v → IsOwnGiven ids (logic_given op holds node right v)
  logic_own logic_op.And true node right v own = (tt, tt)
  logic_own logic_op.And false node right v own = one_own v own
  logic_own logic_op.Or true node right v own = one_own v own
  logic_own logic_op.Or false node right v own = (tt, tt)

  either_given : (b : Bool) (g h : Given) → IsOwnGiven ids g → IsOwnGiven ids h → IsOwnGiven ids (if b then g else h)
  either_given true g h p q = p
  either_given false g h p q = q

  either_mode : (b : Bool) (g h : Mode) → IsOwnMode ids g → IsOwnMode ids h → IsOwnMode ids (if b then g else h)
  either_mode true g h p q = p
  either_mode false g h p q = q

  pub told_own : (op : Option BinOp) (v : Value) → IsOf ids v → IsOf ids (told_of op v)
  told_own None v own = own
  told_own (Some bin.Eq) v own = tt
  told_own (Some bin.Ne) v own = tt
  told_own (Some bin.Less) v own = tt
  told_own (Some bin.LessEq) v own = tt
  told_own (Some bin.Greater) v own = tt
  told_own (Some bin.GreaterEq) v own = tt
  told_own (Some op) v own = own

  negated_own : (negated : Bool) (v : Value) → IsOf ids v → IsOf ids (negated_if negated v)
  negated_own true v own = tt
  negated_own false v own = own

  if_own : (nodes : List LinedNode) (node k : ℕ) (b : Option ℕ) (vs : List Value) → IsOwnGiven ids (if_given nodes node k b vs)
  if_own nodes node k None vs = otherwise_own (otherwise_at nodes node)
  if_own nodes node k (Some b) vs = either_given (truth (first vs)) (given.Goes (mode.Begin b)) (test_next node k (otherwise_at nodes node) (slice_get (tests_at nodes node) (k + 1)) (slice_get (blocks_at nodes node) (k + 1))) tt
      (test_own node k (otherwise_at nodes node) (slice_get (tests_at nodes node) (k + 1)) (slice_get (blocks_at nodes node) (k + 1)))

  -- a local, if there is one
  abbrev pub IsOwnFound : Option Slot → Type 0
  IsOwnFound None = ⊤
  IsOwnFound (Some s) = IsOwnSlot ids s

  pub found_own : (ls : Locals) (v : ℕ) → All (IsOwnLocal ids) ls → IsOwnFound (slot_of ls v)
  found_own ls v all = by (find (λ l. l.0 == v) ls) refl
    where
      by : (o : Option (ℕ × Slot)) → find (λ l. l.0 == v) ls ≡ o → IsOwnFound (option_map (λ l. l.1) o)
      by None e = tt
      by (Some l) e = at_some (IsOwnLocal ids) ls (position_or_len (λ l. l.0 == v) ls) l all (sym (find_at (λ l. l.0 == v) ls) ∙ e)

  pub slot_own : (v : ℕ) (o : Option Slot) → IsOwnFound o → IsOwnTarget ids (slot_target v o)
  slot_own v None own = tt
  slot_own v (Some (slot.Held x)) own = tt
  slot_own v (Some (slot.Cell i)) own = own

  pub given_own : (nodes : List LinedNode) (code : Code) (locals : Locals) (f : Frame) (vs : List Value) → All (IsOwnLocal ids) locals → IsOwnFrame ids f → AreOf ids vs → IsOwnGiven ids (frame_given nodes code locals f vs)
  given_own nodes code locals (frame.Body (body.Statements block next outer)) vs ls own more = statement_own block next outer (slice_get (list_at nodes block) next)
  given_own nodes code locals (frame.Body (body.Open block next outer)) vs ls own more = open_own block next outer (slice_get (list_at nodes block) next)
  given_own nodes code locals (frame.Body (body.Caller call)) vs ls own more = (own, none_own)
  given_own nodes code locals (frame.Locals node next ws) vs ls own more = local_own node next ws vs (slice_get (list_at nodes node) next) own more
  given_own nodes code locals (frame.Assign (assign.Object node next index ts)) vs ls own more = ((own, first_own vs more), tt)
  given_own nodes code locals (frame.Assign (assign.Key node next ts object)) vs ls own more = All-push (IsOwnTarget ids) ts (target.Entry object (first vs)) own.0 (own.1, first_own vs more)
  given_own nodes code locals (frame.Assign (assign.Values node next ts ws)) vs ls own more = value_own node next ts ws vs (slice_get (list_at nodes node) next) own.0 own.1 more
  given_own nodes code locals (frame.Assign (assign.Stores node ts ws)) vs ls own more = own
  given_own nodes code locals (frame.Assign (assign.Function node)) vs ls own more = (All-cons (IsOwnTarget ids) (slot_target (code.first_variable node) (slot_of locals (code.first_variable node))) [] (slot_own (code.first_variable node) (slot_of locals (code.first_variable node)) (found_own locals (code.first_variable node) ls)) (All-nil (IsOwnTarget ids)), one_own (first vs) (first_own vs more))
  given_own nodes code locals (frame.Callee (callee.Function node)) vs ls own more = first_argument_own node (first vs) [] (slice_get (list_at nodes node) 0) (first_own vs more) none_own
  given_own nodes code locals (frame.Callee (callee.Receiver node)) vs ls own more = (first_own vs more, (first_own vs more, tt))
  given_own nodes code locals (frame.Callee (callee.Method node receiver)) vs ls own more = first_argument_own node (first vs) (receiver ∷ []) (slice_get (list_at nodes node) 0) (first_own vs more) (one_own receiver own)
  given_own nodes code locals (frame.Args node next f ws) vs ls own more = argument_own node next f ws vs (slice_get (list_at nodes node) next) own.0 own.1 more
  given_own nodes code locals (frame.If node k) vs ls own more = if_own nodes node k (slice_get (blocks_at nodes node) k) vs
  given_own nodes code locals (frame.While (while_loop.Test node outer)) vs ls own more = either_given (truth (first vs)) (given.Enters (frame.While (while_loop.Turn node outer)) (mode.Begin (block_at nodes node))) (given.Goes (mode.Give [])) (tt, tt) none_own
  given_own nodes code locals (frame.While (while_loop.Turn node outer)) vs ls own more = tt
  given_own nodes code locals (frame.Repeat (repeat_loop.Turn node outer before)) vs ls own more = (tt, tt)
  given_own nodes code locals (frame.Repeat (repeat_loop.Test node outer before)) vs ls own more = either_mode (truth (first vs)) (mode.Give []) (mode.Round node outer) none_own tt
  given_own nodes code locals (frame.Count (count_loop.First node)) vs ls own more = (first_own vs more, tt)
  given_own nodes code locals (frame.Count (count_loop.Limit node a)) vs ls own more = step_own_given node a (first vs) (step_at nodes node) own (first_own vs more)
  given_own nodes code locals (frame.Count (count_loop.Step node a b)) vs ls own more = (own.0, own.1, first_own vs more)
  given_own nodes code locals (frame.Count (count_loop.Turn node at to by outer before)) vs ls own more = number_own (fits (at +ℤ by)) node (at +ℤ by) to by outer
  given_own nodes code locals (frame.Each (each_loop.Values node next ws)) vs ls own more = each_own node next (length locals) ws vs (slice_get (list_at nodes node) next) own more
  given_own nodes code locals (frame.Each (each_loop.Next node f state outer)) vs ls own more = (own.0, own.1, more)
  given_own nodes code locals (frame.Each (each_loop.Turn node f state control outer before)) vs ls own more = own
  given_own nodes code locals (frame.Table (table.Item node next t count)) vs ls own more = (own, more)
  given_own nodes code locals (frame.Table (table.Key node next t count v)) vs ls own more = ((own, first_own vs more), tt)
  given_own nodes code locals (frame.Table (table.Entry node next t count key)) vs ls own more = (own.0, own.1, first_own vs more)
  given_own nodes code locals (frame.Operand (operand.Left node)) vs ls own more = (first_own vs more, tt)
  given_own nodes code locals (frame.Operand (operand.Right node a)) vs ls own more = (own, first_own vs more)
  given_own nodes code locals (frame.Operand (operand.Logic node)) vs ls own more = logic_own (logic_at nodes node) (truth (first vs)) node (right_at nodes node) (first vs) (first_own vs more)
  given_own nodes code locals (frame.Operand (operand.One node)) vs ls own more = first_own vs more
  given_own nodes code locals (frame.Operand operand.Only) vs ls own more = one_own (first vs) (first_own vs more)
  given_own nodes code locals (frame.Operand (operand.Object node)) vs ls own more = (first_own vs more, tt)
  given_own nodes code locals (frame.Operand (operand.Key node object)) vs ls own more = (own, first_own vs more)
  given_own nodes code locals (frame.Operand (operand.Metamethod op negated)) vs ls own more = one_own (told_of op (negated_if negated (first vs))) (told_own op (negated_if negated (first vs)) (negated_own negated (first vs) (first_own vs more)))
  given_own nodes code locals (frame.Return node next ws) vs ls own more = result_own node next ws vs (slice_get (list_at nodes node) next) own more
  given_own nodes code locals (frame.Native (native.Waits a lines call)) vs ls own more = (own, more)
  given_own nodes code locals (frame.Native (native.Yields lines call)) vs ls own more = (own, more)
  given_own nodes code locals (frame.Native (native.Resumes wrapped lines call under)) vs ls own more = more

  pub returned_own : (vs : List Value) (f : Frame) → AreOf ids vs → IsOwnFrame ids f → IsOwnGiven ids (returned vs f)
  returned_own vs (frame.Body (body.Caller call)) more own = (own, more)
  returned_own vs f more own = more

  pub broken_own : (f : Frame) → IsOwnFrame ids f → IsOwnGiven ids (broken f)
  broken_own (frame.Body (body.Caller call)) own = (own, none_own)
  broken_own (frame.While (while_loop.Test node outer)) own = none_own
  broken_own (frame.While (while_loop.Turn node outer)) own = none_own
  broken_own (frame.Repeat (repeat_loop.Turn node outer before)) own = none_own
  broken_own (frame.Repeat (repeat_loop.Test node outer before)) own = none_own
  broken_own (frame.Count (count_loop.Turn node at to by outer before)) own = none_own
  broken_own (frame.Each (each_loop.Next node f state outer)) own = none_own
  broken_own (frame.Each (each_loop.Turn node f state control outer before)) own = none_own
  broken_own f own = tt

  landed_own : (nodes : List LinedNode) (block outer i : ℕ) (o : Option (ℕ × ℕ)) → IsOwnGiven ids (landed_in nodes block outer i o)
  landed_own nodes block outer i None = tt
  landed_own nodes block outer i (Some found) = tt

  landed_open_own : (nodes : List LinedNode) (block outer i : ℕ) (o : Option (ℕ × ℕ)) → IsOwnGiven ids (landed_open nodes block outer i o)
  landed_open_own nodes block outer i None = tt
  landed_open_own nodes block outer i (Some found) = tt

  pub jumped_own : (nodes : List LinedNode) (i : ℕ) (f : Frame) → IsOwnFrame ids f → IsOwnGiven ids (jumped nodes i f)
  jumped_own nodes i (frame.Body (body.Statements block next outer)) own = landed_own nodes block outer i (label_in nodes block i)
  jumped_own nodes i (frame.Body (body.Open block next outer)) own = landed_open_own nodes block outer i (label_in nodes block i)
  jumped_own nodes i (frame.Body (body.Caller call)) own = (own, none_own)
  jumped_own nodes i f own = tt
