-- What each frame makes of values that it is given. `vs` are these values, and `locals` are in scope.
use Rattle.std.specs.Prelude.{ℕ, ◌+◌, ℤ, pos, ◌+ℤ◌, Bool, true, false, List, [], ◌∷◌, ◌++◌, length, drop, if◌then◌else◌, Option, Some, None, slice_get}
use Rattle.lua_ast.specs.declared.node.LogicOp.{LogicOp}
use Rattle.lua_ast.specs.declared.node.LogicOp.TheVariants as logic_op
use Rattle.lua_ast.specs.declared.node.LinedNode.{LinedNode}
use Rattle.lua_meaning.specs.declared.value.Value.{Value}
use Rattle.lua_meaning.specs.declared.value.Value.TheVariants as value
use Rattle.lua_meaning.specs.declared.variable.Target.{Target}
use Rattle.lua_meaning.specs.declared.variable.Target.TheVariants as target
use Rattle.lua_meaning.specs.Values.{first, truth}
use Rattle.lua_meaning.specs.Numbers.{fits}
use Rattle.lua_meaning.specs.Code.{Code}
use Rattle.lua_meaning.specs.Locals.{Locals, slot_of}
use Rattle.lua_meaning.specs.Operators.{negated_if}
use Rattle.lua_meaning.specs.Nodes.{slot_target}
use Rattle.lua_coroutines.specs.declared.frame.Frame.{Frame}
use Rattle.lua_coroutines.specs.declared.frame.Frame.TheVariants as frame
use Rattle.lua_coroutines.specs.declared.frame.BodyFrame.{BodyFrame}
use Rattle.lua_coroutines.specs.declared.frame.BodyFrame.TheVariants as body
use Rattle.lua_coroutines.specs.declared.frame.AssignFrame.{AssignFrame}
use Rattle.lua_coroutines.specs.declared.frame.AssignFrame.TheVariants as assign
use Rattle.lua_coroutines.specs.declared.frame.CalleeFrame.{CalleeFrame}
use Rattle.lua_coroutines.specs.declared.frame.CalleeFrame.TheVariants as callee
use Rattle.lua_coroutines.specs.declared.frame.WhileFrame.{WhileFrame}
use Rattle.lua_coroutines.specs.declared.frame.WhileFrame.TheVariants as while_loop
use Rattle.lua_coroutines.specs.declared.frame.RepeatFrame.{RepeatFrame}
use Rattle.lua_coroutines.specs.declared.frame.RepeatFrame.TheVariants as repeat_loop
use Rattle.lua_coroutines.specs.declared.frame.CountFrame.{CountFrame}
use Rattle.lua_coroutines.specs.declared.frame.CountFrame.TheVariants as count_loop
use Rattle.lua_coroutines.specs.declared.frame.EachFrame.{EachFrame}
use Rattle.lua_coroutines.specs.declared.frame.EachFrame.TheVariants as each_loop
use Rattle.lua_coroutines.specs.declared.frame.TableFrame.{TableFrame}
use Rattle.lua_coroutines.specs.declared.frame.TableFrame.TheVariants as table
use Rattle.lua_coroutines.specs.declared.frame.OperandFrame.{OperandFrame}
use Rattle.lua_coroutines.specs.declared.frame.OperandFrame.TheVariants as operand
use Rattle.lua_coroutines.specs.declared.frame.NativeFrame.{NativeFrame}
use Rattle.lua_coroutines.specs.declared.frame.NativeFrame.TheVariants as native
use Rattle.lua_steps.specs.declared.mode.Mode.{Mode}
use Rattle.lua_steps.specs.declared.mode.Mode.TheVariants as mode
use Rattle.lua_steps.specs.declared.given.Given.{Given}
use Rattle.lua_steps.specs.declared.given.Given.TheVariants as given
use Rattle.lua_steps.specs.Parts.{list_at, test_at, block_at, tests_at, blocks_at, otherwise_at, limit_at, step_at, key_at, name_there, right_at, logic_at}
use Rattle.lua_steps.specs.Frames.{told_of}
use Rattle.lua_steps.specs.Starts.{otherwise_or_none}

-- In each of these the part that comes next is given, if there is one.

abbrev pub statement_next : (block next outer : ℕ) → Option ℕ → Given
statement_next block next outer None = given.Cuts outer (mode.Give [])
statement_next block next outer (Some i) = given.Enters (frame.Body (body.Statements block (next + 1) outer)) (mode.Begin i)

abbrev pub open_next : (block next outer : ℕ) → Option ℕ → Given
open_next block next outer None = given.Goes (mode.Give [])
open_next block next outer (Some i) = given.Enters (frame.Body (body.Open block (next + 1) outer)) (mode.Begin i)

abbrev pub local_next : (node next : ℕ) → (values vs : List Value) → Option ℕ → Given
local_next node next values vs None = given.Goes (mode.Declare node (values ++ vs))
local_next node next values vs (Some i) = given.Enters (frame.Locals node (next + 1) (values ++ first vs ∷ [])) (mode.Begin i)

abbrev pub argument_next : (node next : ℕ) → (function : Value) → (values vs : List Value) → Option ℕ → Given
argument_next node next f values vs None = given.Goes (mode.Apply node f (values ++ vs))
argument_next node next f values vs (Some i) = given.Enters (frame.Args node (next + 1) f (values ++ first vs ∷ [])) (mode.Begin i)

abbrev pub result_next : (node next : ℕ) → (values vs : List Value) → Option ℕ → Given
result_next node next values vs None = given.Goes (mode.Return node (values ++ vs))
result_next node next values vs (Some i) = given.Enters (frame.Return node (next + 1) (values ++ first vs ∷ [])) (mode.Begin i)

-- the first argument of a call, behind those that are there
abbrev pub argument_first : (node : ℕ) → (function : Value) → (values : List Value) → Option ℕ → Given
argument_first node f values None = given.Enters (frame.Args node 0 f values) (mode.Give [])
argument_first node f values (Some i) = given.Enters (frame.Args node 1 f values) (mode.Begin i)

-- the next test of an `if`, where it has a block
abbrev pub test_next : (node place : ℕ) → (otherwise : Option ℕ) → (test block : Option ℕ) → Given
test_next node k otherwise (Some t) (Some b) = given.Enters (frame.If node (k + 1)) (mode.Begin t)
test_next node k otherwise _ _ = given.Goes (otherwise_or_none otherwise)

abbrev pub step_next : (node : ℕ) → (first limit : Value) → Option ℕ → Given
step_next node a b None = given.Enters (frame.Count (count_loop.Step node a b)) (mode.Give (value.Int (pos 1) ∷ []))
step_next node a b (Some i) = given.Enters (frame.Count (count_loop.Step node a b)) (mode.Begin i)

-- the next number of a numeric `for`, where it has 64 bits
abbrev pub number_next : Bool → (node : ℕ) → (at limit step : ℤ) → (outer : ℕ) → Mode
number_next true node at limit step outer = mode.Count node at limit step outer
number_next false node at limit step outer = mode.Give []

-- `and` and `or`
abbrev pub logic_given : LogicOp → (truth : Bool) → (node right : ℕ) → Value → Given
logic_given logic_op.And true node right v = given.Enters (frame.Operand operand.Only) (mode.Begin right)
logic_given logic_op.And false node right v = given.Goes (mode.Give (v ∷ []))
logic_given logic_op.Or true node right v = given.Goes (mode.Give (v ∷ []))
logic_given logic_op.Or false node right v = given.Enters (frame.Operand operand.Only) (mode.Begin right)

-- the values of `in`: the iterator function, the state and the first control value
abbrev pub each_next : (node next locals : ℕ) → (values vs : List Value) → Option ℕ → Given
each_next node next locals values vs None = given.Goes (mode.Next node (first (values ++ vs)) (first (drop 1 (values ++ vs))) (first (drop 2 (values ++ vs))) locals)
each_next node next locals values vs (Some i) = given.Enters (frame.Each (each_loop.Values node (next + 1) (values ++ first vs ∷ []))) (mode.Begin i)

abbrev pub table_given : TableFrame → List Value → Given
table_given (table.Item node next t count) vs = given.Goes (mode.Items node next t count vs)
table_given (table.Key node next t count v) vs = given.Enters (frame.Table (table.Entry node next t count (first vs))) (mode.Begin v)
table_given (table.Entry node next t count key) vs = given.Goes (mode.Entry node next t count key (first vs))

abbrev pub native_given : NativeFrame → List Value → Given
native_given (native.Waits after lines call) vs = given.Returns call (mode.Made after lines vs)
native_given (native.Yields lines call) vs = given.Returns call (mode.Results lines vs)
native_given (native.Resumes wrapped lines call below) vs = given.Goes (mode.Give vs)

abbrev pub value_next : (node next : ℕ) → (targets : List Target) → (values vs : List Value) → Option ℕ → Given
value_next node next ts values vs None = given.Goes (mode.Stores node ts (values ++ vs))
value_next node next ts values vs (Some i) = given.Enters (frame.Assign (assign.Values node (next + 1) ts (values ++ first vs ∷ []))) (mode.Begin i)

module _ (nodes : List LinedNode) where
  abbrev pub body_given : BodyFrame → List Value → Given
  body_given (body.Statements block next outer) vs = statement_next block next outer (slice_get (list_at nodes block) next)
  body_given (body.Open block next outer) vs = open_next block next outer (slice_get (list_at nodes block) next)
  body_given (body.Caller call) vs = given.Returns call (mode.Give [])

  abbrev pub callee_given : CalleeFrame → List Value → Given
  callee_given (callee.Function node) vs = argument_first node (first vs) [] (slice_get (list_at nodes node) 0)
  callee_given (callee.Receiver node) vs = given.Enters (frame.Callee (callee.Method node (first vs))) (mode.Look node (first vs) (value.Text (name_there nodes node)))
  callee_given (callee.Method node receiver) vs = argument_first node (first vs) (receiver ∷ []) (slice_get (list_at nodes node) 0)

  abbrev pub if_given : (node place : ℕ) → (block : Option ℕ) → List Value → Given
  if_given node k None vs = given.Goes (otherwise_or_none (otherwise_at nodes node))
  if_given node k (Some b) vs =
      if truth (first vs) then given.Goes (mode.Begin b)
      else test_next node k (otherwise_at nodes node) (slice_get (tests_at nodes node) (k + 1)) (slice_get (blocks_at nodes node) (k + 1))

  abbrev pub while_given : WhileFrame → List Value → Given
  while_given (while_loop.Test node outer) vs = if truth (first vs) then given.Enters (frame.While (while_loop.Turn node outer)) (mode.Begin (block_at nodes node)) else given.Goes (mode.Give [])
  while_given (while_loop.Turn node outer) vs = given.Goes (mode.Turn node outer)

  abbrev pub repeat_given : RepeatFrame → List Value → Given
  repeat_given (repeat_loop.Turn node outer before) vs = given.Enters (frame.Repeat (repeat_loop.Test node outer before)) (mode.Begin (test_at nodes node))
  repeat_given (repeat_loop.Test node outer before) vs = given.Cuts before (if truth (first vs) then mode.Give [] else mode.Round node outer)

  abbrev pub count_given : CountFrame → List Value → Given
  count_given (count_loop.First node) vs = given.Enters (frame.Count (count_loop.Limit node (first vs))) (mode.Begin (limit_at nodes node))
  count_given (count_loop.Limit node a) vs = step_next node a (first vs) (step_at nodes node)
  count_given (count_loop.Step node a b) vs = given.Goes (mode.Start node a b (first vs))
  count_given (count_loop.Turn node at limit step outer before) vs = given.Cuts before (number_next (fits (at +ℤ step)) node (at +ℤ step) limit step outer)

  abbrev pub each_given : (locals : ℕ) → EachFrame → List Value → Given
  each_given locals (each_loop.Values node next values) vs = each_next node next locals values vs (slice_get (list_at nodes node) next)
  each_given locals (each_loop.Next node f state outer) vs = given.Goes (mode.Each node f state outer vs)
  each_given locals (each_loop.Turn node f state control outer before) vs = given.Cuts before (mode.Next node f state control outer)

  abbrev pub operand_given : OperandFrame → List Value → Given
  operand_given (operand.Left node) vs = given.Enters (frame.Operand (operand.Right node (first vs))) (mode.Begin (right_at nodes node))
  operand_given (operand.Right node left) vs = given.Goes (mode.Binary node left (first vs))
  operand_given (operand.Logic node) vs = logic_given (logic_at nodes node) (truth (first vs)) node (right_at nodes node) (first vs)
  operand_given (operand.One node) vs = given.Goes (mode.Unary node (first vs))
  operand_given operand.Only vs = given.Goes (mode.Give (first vs ∷ []))
  operand_given (operand.Object node) vs = given.Enters (frame.Operand (operand.Key node (first vs))) (mode.Begin (key_at nodes node))
  operand_given (operand.Key node object) vs = given.Goes (mode.Look node object (first vs))
  operand_given (operand.Metamethod op negated) vs = given.Goes (mode.Give (told_of op (negated_if negated (first vs)) ∷ []))

  module _ (code : Code) where
    abbrev pub assign_given : Locals → AssignFrame → List Value → Given
    assign_given locals (assign.Object node next index ts) vs = given.Enters (frame.Assign (assign.Key node next ts (first vs))) (mode.Begin (key_at nodes index))
    assign_given locals (assign.Key node next ts object) vs = given.Goes (mode.Targets node next (ts ++ target.Entry object (first vs) ∷ []))
    assign_given locals (assign.Values node next ts values) vs = value_next node next ts values vs (slice_get (list_at nodes node) next)
    assign_given locals (assign.Stores node ts values) vs = given.Goes (mode.Stores node ts values)
    assign_given locals (assign.Function node) vs = given.Goes (mode.Stores node (slot_target (code.first_variable node) (slot_of locals (code.first_variable node)) ∷ []) (first vs ∷ []))

    abbrev pub frame_given : Locals → Frame → List Value → Given
    frame_given locals (frame.Body f) vs = body_given f vs
    frame_given locals (frame.Locals node next values) vs = local_next node next values vs (slice_get (list_at nodes node) next)
    frame_given locals (frame.Assign f) vs = assign_given locals f vs
    frame_given locals (frame.Callee f) vs = callee_given f vs
    frame_given locals (frame.Args node next f values) vs = argument_next node next f values vs (slice_get (list_at nodes node) next)
    frame_given locals (frame.If node k) vs = if_given node k (slice_get (blocks_at nodes node) k) vs
    frame_given locals (frame.While f) vs = while_given f vs
    frame_given locals (frame.Repeat f) vs = repeat_given f vs
    frame_given locals (frame.Count f) vs = count_given f vs
    frame_given locals (frame.Each f) vs = each_given (length locals) f vs
    frame_given locals (frame.Table f) vs = table_given f vs
    frame_given locals (frame.Operand f) vs = operand_given f vs
    frame_given locals (frame.Return node next values) vs = result_next node next values vs (slice_get (list_at nodes node) next)
    frame_given locals (frame.Native f) vs = native_given f vs
