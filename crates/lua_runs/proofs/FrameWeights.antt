-- What takes a frame off leaves no more weight than the frame had.
use Rattle.std.proofs.Common.{◌≡◌, ℕ, ◌+◌, ◌*◌, ◌≤◌, List, [], ◌∷◌, ◌++◌, length, Bool, true, false, Option, Some, None, slice_get, refl, arith, length-append}
use Rattle.std.specs.Prelude.{ℤ, ◌+ℤ◌, if◌then◌else◌}
use Rattle.lua_ast.specs.declared.node.LogicOp.{LogicOp}
use Rattle.lua_ast.specs.declared.node.LogicOp.TheVariants as logic_op
use Rattle.lua_ast.specs.declared.node.LinedNode.{LinedNode}
use Rattle.lua_meaning.specs.declared.value.Value.{Value}
use Rattle.lua_meaning.specs.declared.variable.Target.{Target}
use Rattle.lua_meaning.specs.declared.variable.Target.TheVariants as target
use Rattle.lua_meaning.specs.Values.{first, truth}
use Rattle.lua_meaning.specs.Numbers.{fits}
use Rattle.lua_meaning.specs.Code.{Code}
use Rattle.lua_meaning.specs.Locals.{Locals}
use Rattle.lua_coroutines.specs.declared.frame.Frame.{Frame}
use Rattle.lua_coroutines.specs.declared.frame.Frame.TheVariants as frame
use Rattle.lua_coroutines.specs.declared.frame.BodyFrame.TheVariants as body
use Rattle.lua_coroutines.specs.declared.frame.AssignFrame.TheVariants as assign
use Rattle.lua_coroutines.specs.declared.frame.CalleeFrame.TheVariants as callee
use Rattle.lua_coroutines.specs.declared.frame.WhileFrame.TheVariants as while_loop
use Rattle.lua_coroutines.specs.declared.frame.RepeatFrame.TheVariants as repeat_loop
use Rattle.lua_coroutines.specs.declared.frame.CountFrame.TheVariants as count_loop
use Rattle.lua_coroutines.specs.declared.frame.EachFrame.TheVariants as each_loop
use Rattle.lua_coroutines.specs.declared.frame.TableFrame.TheVariants as table
use Rattle.lua_coroutines.specs.declared.frame.OperandFrame.TheVariants as operand
use Rattle.lua_coroutines.specs.declared.frame.NativeFrame.TheVariants as native
use Rattle.lua_steps.specs.declared.mode.Mode.{Mode}
use Rattle.lua_steps.specs.declared.mode.Mode.TheVariants as mode
use Rattle.lua_steps.specs.declared.given.Given.{Given}
use Rattle.lua_steps.specs.declared.given.Given.TheVariants as given
use Rattle.lua_steps.specs.Parts.{list_at, block_at, tests_at, blocks_at, otherwise_at, step_at, right_at, logic_at}
use Rattle.lua_steps.specs.Starts.{otherwise_or_none}
use Rattle.lua_steps.specs.Given.{statement_next, open_next, local_next, argument_next, result_next, argument_first, test_next, step_next, number_next, logic_given, if_given, each_next, value_next, frame_given}
use Rattle.lua_steps.specs.Passed.{returned, broken, label_in, landed_in, landed_open, jumped}
use Rattle.lua_runs.specs.Weights.{part_count, parts_left, blocks_left, assign_weight, frame_weight, mode_weight}
use Rattle.lua_runs.proofs.Left.{one_left, whole_left, fewer_left, list_counted}

module _ (nodes : List LinedNode) where
  -- what comes of a frame, and what is then at work
  abbrev pub given_weight : Given → ℕ
  given_weight (given.Goes b) = mode_weight nodes b
  given_weight (given.Enters f b) = 1 + frame_weight nodes f + mode_weight nodes b
  given_weight (given.Cuts n b) = mode_weight nodes b
  given_weight (given.Returns call b) = mode_weight nodes b
  given_weight (given.Lands n f) = 1 + frame_weight nodes f

  statement_falls : (block next outer : ℕ) (o : Option ℕ) → slice_get (list_at nodes block) next ≡ o → given_weight (statement_next block next outer o) ≤ 2 * parts_left nodes block next
  statement_falls block next outer None e = omega arith
  statement_falls block next outer (Some i) e = omega (arith, one_left (list_at nodes block) next i e)

  open_falls : (block next outer : ℕ) (o : Option ℕ) → slice_get (list_at nodes block) next ≡ o → given_weight (open_next block next outer o) ≤ 2 * parts_left nodes block next
  open_falls block next outer None e = omega arith
  open_falls block next outer (Some i) e = omega (arith, one_left (list_at nodes block) next i e)

  local_falls : (node next : ℕ) (ws vs : List Value) (o : Option ℕ) → slice_get (list_at nodes node) next ≡ o → given_weight (local_next node next ws vs o) ≤ 2 * parts_left nodes node next + 1
  local_falls node next ws vs None e = omega arith
  local_falls node next ws vs (Some i) e = omega (arith, one_left (list_at nodes node) next i e)

  result_falls : (node next : ℕ) (ws vs : List Value) (o : Option ℕ) → slice_get (list_at nodes node) next ≡ o → given_weight (result_next node next ws vs o) ≤ 2 * parts_left nodes node next + 1
  result_falls node next ws vs None e = omega arith
  result_falls node next ws vs (Some i) e = omega (arith, one_left (list_at nodes node) next i e)

  argument_falls : (node next : ℕ) (f : Value) (ws vs : List Value) (o : Option ℕ) → slice_get (list_at nodes node) next ≡ o → given_weight (argument_next node next f ws vs o) ≤ 2 * parts_left nodes node next + 4
  argument_falls node next f ws vs None e = omega arith
  argument_falls node next f ws vs (Some i) e = omega (arith, one_left (list_at nodes node) next i e)

  value_falls : (node next : ℕ) (ts : List Target) (ws vs : List Value) (o : Option ℕ) → slice_get (list_at nodes node) next ≡ o → given_weight (value_next node next ts ws vs o) ≤ 2 * parts_left nodes node next + 3 * length ts + 1
  value_falls node next ts ws vs None e = omega arith
  value_falls node next ts ws vs (Some i) e = omega (arith, one_left (list_at nodes node) next i e)

  each_falls : (node next locals : ℕ) (ws vs : List Value) (o : Option ℕ) → slice_get (list_at nodes node) next ≡ o → given_weight (each_next node next locals ws vs o) ≤ 2 * parts_left nodes node next + 1
  each_falls node next locals ws vs None e = omega arith
  each_falls node next locals ws vs (Some i) e = omega (arith, one_left (list_at nodes node) next i e)

  first_falls : (node : ℕ) (f : Value) (ws : List Value) (o : Option ℕ) → slice_get (list_at nodes node) 0 ≡ o → given_weight (argument_first node f ws o) ≤ 2 * length (list_at nodes node) + 5
  first_falls node f ws None e = omega (arith, whole_left (list_at nodes node))
  first_falls node f ws (Some i) e = omega (arith, one_left (list_at nodes node) 0 i e, whole_left (list_at nodes node))

  pub otherwise_light : (o : Option ℕ) → mode_weight nodes (otherwise_or_none o) ≤ 1
  otherwise_light None = omega arith
  otherwise_light (Some i) = omega arith

  test_falls : (node k b : ℕ) (otherwise test block : Option ℕ) → slice_get (blocks_at nodes node) k ≡ Some b → given_weight (test_next node k otherwise test block) ≤ 2 * blocks_left nodes node k + 1
  test_falls node k b otherwise (Some t) (Some c) e = omega (arith, one_left (blocks_at nodes node) k b e)
  test_falls node k b otherwise None block e = omega (arith, otherwise_light otherwise)
  test_falls node k b otherwise (Some t) None e = omega (arith, otherwise_light otherwise)

  either_falls : (t : Bool) (g h : Given) (n : ℕ) → given_weight g ≤ n → given_weight h ≤ n → given_weight (if t then g else h) ≤ n
  either_falls true g h n p q = p
  either_falls false g h n p q = q

  either_mode : (t : Bool) (a b : Mode) (n : ℕ) → mode_weight nodes a ≤ n → mode_weight nodes b ≤ n → mode_weight nodes (if t then a else b) ≤ n
  either_mode true a b n p q = p
  either_mode false a b n p q = q

  if_falls : (node k : ℕ) (o : Option ℕ) (vs : List Value) → slice_get (blocks_at nodes node) k ≡ o → given_weight (if_given nodes node k o vs) ≤ 2 * blocks_left nodes node k + 1
  if_falls node k None vs e = omega (arith, otherwise_light (otherwise_at nodes node))
  if_falls node k (Some b) vs e = either_falls (truth (first vs)) (given.Goes (mode.Begin b)) (test_next node k (otherwise_at nodes node) (slice_get (tests_at nodes node) (k + 1)) (slice_get (blocks_at nodes node) (k + 1))) (2 * blocks_left nodes node k + 1) (omega arith)
      (test_falls node k b (otherwise_at nodes node) (slice_get (tests_at nodes node) (k + 1)) (slice_get (blocks_at nodes node) (k + 1)) e)

  step_falls : (node : ℕ) (a b : Value) (o : Option ℕ) → given_weight (step_next node a b o) ≤ 4
  step_falls node a b None = omega arith
  step_falls node a b (Some i) = omega arith

  number_light : (more : Bool) (node : ℕ) (at to by : ℤ) (outer : ℕ) → mode_weight nodes (number_next more node at to by outer) ≤ 1
  number_light true node at to by outer = omega arith
  number_light false node at to by outer = omega arith

  logic_falls : (op : LogicOp) (t : Bool) (node right : ℕ) (v : Value) → given_weight (logic_given op t node right v) ≤ 2
  logic_falls logic_op.And true node right v = omega arith
  logic_falls logic_op.And false node right v = omega arith
  logic_falls logic_op.Or true node right v = omega arith
  logic_falls logic_op.Or false node right v = omega arith

  key_falls : (node next : ℕ) (ts : List Target) (t : Target) → assign_weight nodes node next (length (ts ++ t ∷ [])) ≤ assign_weight nodes node next (length ts) + 3
  key_falls node next ts t = omega (arith, length-append ts (t ∷ []))

  pub frame_falls : (code : Code) (locals : Locals) (f : Frame) (vs : List Value) → given_weight (frame_given nodes code locals f vs) ≤ frame_weight nodes f
  frame_falls code locals (frame.Body (body.Statements block next outer)) vs = statement_falls block next outer (slice_get (list_at nodes block) next) refl
  frame_falls code locals (frame.Body (body.Open block next outer)) vs = open_falls block next outer (slice_get (list_at nodes block) next) refl
  frame_falls code locals (frame.Body (body.Caller call)) vs = omega arith
  frame_falls code locals (frame.Locals node next ws) vs = local_falls node next ws vs (slice_get (list_at nodes node) next) refl
  frame_falls code locals (frame.Assign (assign.Object node next index ts)) vs = omega arith
  frame_falls code locals (frame.Assign (assign.Key node next ts object)) vs = key_falls node next ts (target.Entry object (first vs))
  frame_falls code locals (frame.Assign (assign.Values node next ts ws)) vs = value_falls node next ts ws vs (slice_get (list_at nodes node) next) refl
  frame_falls code locals (frame.Assign (assign.Stores node ts ws)) vs = omega arith
  frame_falls code locals (frame.Assign (assign.Function node)) vs = omega arith
  frame_falls code locals (frame.Callee (callee.Function node)) vs = first_falls node (first vs) [] (slice_get (list_at nodes node) 0) refl
  frame_falls code locals (frame.Callee (callee.Receiver node)) vs = omega arith
  frame_falls code locals (frame.Callee (callee.Method node receiver)) vs = first_falls node (first vs) (receiver ∷ []) (slice_get (list_at nodes node) 0) refl
  frame_falls code locals (frame.Args node next f ws) vs = argument_falls node next f ws vs (slice_get (list_at nodes node) next) refl
  frame_falls code locals (frame.If node k) vs = if_falls node k (slice_get (blocks_at nodes node) k) vs refl
  frame_falls code locals (frame.While (while_loop.Test node outer)) vs = either_falls (truth (first vs)) (given.Enters (frame.While (while_loop.Turn node outer)) (mode.Begin (block_at nodes node))) (given.Goes (mode.Give [])) 3 (omega arith) (omega arith)
  frame_falls code locals (frame.While (while_loop.Turn node outer)) vs = omega arith
  frame_falls code locals (frame.Repeat (repeat_loop.Turn node outer before)) vs = omega arith
  frame_falls code locals (frame.Repeat (repeat_loop.Test node outer before)) vs = either_mode (truth (first vs)) (mode.Give []) (mode.Round node outer) 1 (omega arith) (omega arith)
  frame_falls code locals (frame.Count (count_loop.First node)) vs = omega arith
  frame_falls code locals (frame.Count (count_loop.Limit node a)) vs = step_falls node a (first vs) (step_at nodes node)
  frame_falls code locals (frame.Count (count_loop.Step node a b)) vs = omega arith
  frame_falls code locals (frame.Count (count_loop.Turn node at to by outer before)) vs = number_light (fits (at +ℤ by)) node (at +ℤ by) to by outer
  frame_falls code locals (frame.Each (each_loop.Values node next ws)) vs = each_falls node next (length locals) ws vs (slice_get (list_at nodes node) next) refl
  frame_falls code locals (frame.Each (each_loop.Next node f state outer)) vs = omega arith
  frame_falls code locals (frame.Each (each_loop.Turn node f state control outer before)) vs = omega arith
  frame_falls code locals (frame.Table (table.Item node next t count)) vs = omega arith
  frame_falls code locals (frame.Table (table.Key node next t count v)) vs = omega arith
  frame_falls code locals (frame.Table (table.Entry node next t count key)) vs = omega arith
  frame_falls code locals (frame.Operand (operand.Left node)) vs = omega arith
  frame_falls code locals (frame.Operand (operand.Right node a)) vs = omega arith
  frame_falls code locals (frame.Operand (operand.Logic node)) vs = logic_falls (logic_at nodes node) (truth (first vs)) node (right_at nodes node) (first vs)
  frame_falls code locals (frame.Operand (operand.One node)) vs = omega arith
  frame_falls code locals (frame.Operand operand.Only) vs = omega arith
  frame_falls code locals (frame.Operand (operand.Object node)) vs = omega arith
  frame_falls code locals (frame.Operand (operand.Key node object)) vs = omega arith
  frame_falls code locals (frame.Operand (operand.Metamethod op negated)) vs = omega arith
  frame_falls code locals (frame.Return node next ws) vs = result_falls node next ws vs (slice_get (list_at nodes node) next) refl
  frame_falls code locals (frame.Native (native.Waits after lines call)) vs = omega arith
  frame_falls code locals (frame.Native (native.Yields lines call)) vs = omega arith
  frame_falls code locals (frame.Native (native.Resumes wrapped lines call under)) vs = omega arith

  pub returned_light : (vs : List Value) (f : Frame) → given_weight (returned vs f) ≤ 0
  returned_light vs (frame.Body (body.Caller call)) = omega arith
  returned_light vs f = omega arith

  pub broken_light : (f : Frame) → given_weight (broken f) ≤ 0
  broken_light (frame.Body (body.Caller call)) = omega arith
  broken_light (frame.While (while_loop.Test node outer)) = omega arith
  broken_light (frame.While (while_loop.Turn node outer)) = omega arith
  broken_light (frame.Repeat (repeat_loop.Turn node outer before)) = omega arith
  broken_light (frame.Repeat (repeat_loop.Test node outer before)) = omega arith
  broken_light (frame.Count (count_loop.Turn node at to step outer before)) = omega arith
  broken_light (frame.Each (each_loop.Next node f state outer)) = omega arith
  broken_light (frame.Each (each_loop.Turn node f state control outer before)) = omega arith
  broken_light f = omega arith

  landed_falls : (block outer i : ℕ) (o : Option (ℕ × ℕ)) → given_weight (landed_in nodes block outer i o) ≤ 2 * part_count nodes + 1
  landed_falls block outer i None = omega arith
  landed_falls block outer i (Some found) = omega (arith, fewer_left found.0 (list_at nodes block), list_counted nodes block)

  landed_open_falls : (block outer i : ℕ) (o : Option (ℕ × ℕ)) → given_weight (landed_open nodes block outer i o) ≤ 2 * part_count nodes + 1
  landed_open_falls block outer i None = omega arith
  landed_open_falls block outer i (Some found) = omega (arith, fewer_left found.0 (list_at nodes block), list_counted nodes block)

  pub jumped_falls : (i : ℕ) (f : Frame) → given_weight (jumped nodes i f) ≤ 2 * part_count nodes + 1
  jumped_falls i (frame.Body (body.Statements block next outer)) = landed_falls block outer i (label_in nodes block i)
  jumped_falls i (frame.Body (body.Open block next outer)) = landed_open_falls block outer i (label_in nodes block i)
  jumped_falls i (frame.Body (body.Caller call)) = omega arith
  jumped_falls i f = omega arith
