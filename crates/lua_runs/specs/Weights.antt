-- How much a machine has still to do at most: one number, which each step lowers.
-- Between two instructions a machine makes few steps: each frame and each mode has a weight, the most steps that it may take before the next instruction, where the nodes that it begins are missing from the text. An instruction lets the weight rise by `most_added` at most.
use Rattle.std.specs.Prelude.{ℕ, ◌+◌, ◌-◌, ◌*◌, List, [], ◌∷◌, length, drop}
use Rattle.lua_ast.specs.declared.node.Node.{Node}
use Rattle.lua_ast.specs.declared.node.LinedNode.{LinedNode}
use Rattle.lua_coroutines.specs.declared.frame.Frame.{Frame}
use Rattle.lua_coroutines.specs.declared.frame.Frame.TheVariants as frame
use Rattle.lua_coroutines.specs.declared.frame.BodyFrame.{BodyFrame}
use Rattle.lua_coroutines.specs.declared.frame.BodyFrame.TheVariants as body
use Rattle.lua_coroutines.specs.declared.frame.AssignFrame.{AssignFrame}
use Rattle.lua_coroutines.specs.declared.frame.AssignFrame.TheVariants as assign
use Rattle.lua_coroutines.specs.declared.frame.CalleeFrame.{CalleeFrame}
use Rattle.lua_coroutines.specs.declared.frame.CalleeFrame.TheVariants as callee
use Rattle.lua_coroutines.specs.declared.frame.WhileFrame.{WhileFrame}
use Rattle.lua_coroutines.specs.declared.frame.WhileFrame.TheVariants as while_loop
use Rattle.lua_coroutines.specs.declared.frame.RepeatFrame.{RepeatFrame}
use Rattle.lua_coroutines.specs.declared.frame.RepeatFrame.TheVariants as repeat_loop
use Rattle.lua_coroutines.specs.declared.frame.CountFrame.{CountFrame}
use Rattle.lua_coroutines.specs.declared.frame.CountFrame.TheVariants as count_loop
use Rattle.lua_coroutines.specs.declared.frame.EachFrame.{EachFrame}
use Rattle.lua_coroutines.specs.declared.frame.EachFrame.TheVariants as each_loop
use Rattle.lua_coroutines.specs.declared.frame.TableFrame.{TableFrame}
use Rattle.lua_coroutines.specs.declared.frame.TableFrame.TheVariants as table
use Rattle.lua_coroutines.specs.declared.frame.OperandFrame.{OperandFrame}
use Rattle.lua_coroutines.specs.declared.frame.OperandFrame.TheVariants as operand
use Rattle.lua_coroutines.specs.declared.frame.NativeFrame.{NativeFrame}
use Rattle.lua_coroutines.specs.declared.frame.NativeFrame.TheVariants as native
use Rattle.lua_steps.specs.declared.mode.Mode.{Mode}
use Rattle.lua_steps.specs.declared.mode.Mode.TheVariants as mode
use Rattle.lua_steps.specs.Configuration.{Next}
use Rattle.lua_steps.specs.Parts.{list_in, targets_in, blocks_in, fields_in, list_at, targets_at, blocks_at, fields_at}

-- how many parts of a node stand in lists
abbrev pub parts_in : Node → ℕ
parts_in n = length (list_in n) + length (targets_in n) + length (blocks_in n) + length (fields_in n)

abbrev pub part_count : List LinedNode → ℕ
part_count [] = 0
part_count (l ∷ ls) = parts_in l.node + part_count ls

abbrev pub native_weight : NativeFrame → ℕ
native_weight (native.Waits after lines call) = 1
native_weight (native.Yields lines call) = 1
native_weight (native.Resumes wrapped lines call below) = 0

abbrev pub operand_weight : OperandFrame → ℕ
operand_weight (operand.Left node) = 3
operand_weight (operand.Right node left) = 1
operand_weight (operand.Logic node) = 2
operand_weight (operand.One node) = 1
operand_weight operand.Only = 0
operand_weight (operand.Object node) = 3
operand_weight (operand.Key node object) = 1
operand_weight (operand.Metamethod op negated) = 0

abbrev pub while_weight : WhileFrame → ℕ
while_weight (while_loop.Test node outer) = 3
while_weight (while_loop.Turn node outer) = 1

abbrev pub repeat_weight : RepeatFrame → ℕ
repeat_weight (repeat_loop.Turn node outer before) = 3
repeat_weight (repeat_loop.Test node outer before) = 1

abbrev pub count_weight : CountFrame → ℕ
count_weight (count_loop.First node) = 6
count_weight (count_loop.Limit node first) = 4
count_weight (count_loop.Step node first limit) = 2
count_weight (count_loop.Turn node at limit step outer before) = 1

module _ (nodes : List LinedNode) where
  -- the parts of a node that are still to come
  abbrev pub parts_left : (node next : ℕ) → ℕ
  parts_left node next = length (drop next (list_at nodes node))

  abbrev pub targets_left : (node next : ℕ) → ℕ
  targets_left node next = length (drop next (targets_at nodes node))

  abbrev pub blocks_left : (node place : ℕ) → ℕ
  blocks_left node place = length (drop place (blocks_at nodes node))

  abbrev pub fields_left : (node next : ℕ) → ℕ
  fields_left node next = length (drop next (fields_at nodes node))

  -- the targets of an assignment from `next` on, and its values, behind so many targets
  abbrev pub assign_weight : (node next targets : ℕ) → ℕ
  assign_weight node next targets = 4 * targets_left node next + 3 * targets + 2 * length (list_at nodes node) + 3

  abbrev pub body_weight : BodyFrame → ℕ
  body_weight (body.Statements block next outer) = 2 * parts_left block next
  body_weight (body.Open block next outer) = 2 * parts_left block next
  body_weight (body.Caller call) = 0

  abbrev pub assign_frame_weight : AssignFrame → ℕ
  assign_frame_weight (assign.Object node next index targets) = assign_weight node next (length targets) + 5
  assign_frame_weight (assign.Key node next targets object) = assign_weight node next (length targets) + 3
  assign_frame_weight (assign.Values node next targets values) = 2 * parts_left node next + 3 * length targets + 1
  assign_frame_weight (assign.Stores node targets values) = 3 * length targets + 1
  assign_frame_weight (assign.Function node) = 4

  abbrev pub callee_weight : CalleeFrame → ℕ
  callee_weight (callee.Function node) = 2 * length (list_at nodes node) + 5
  callee_weight (callee.Receiver node) = 2 * length (list_at nodes node) + 7
  callee_weight (callee.Method node receiver) = 2 * length (list_at nodes node) + 5

  abbrev pub each_weight : EachFrame → ℕ
  each_weight (each_loop.Values node next values) = 2 * parts_left node next + 1
  each_weight (each_loop.Next node function state outer) = 4
  each_weight (each_loop.Turn node function state control outer before) = 1

  abbrev pub table_weight : TableFrame → ℕ
  table_weight (table.Item node next t count) = 6 * fields_left node next + 2
  table_weight (table.Key node next t count value) = 6 * fields_left node next + 4
  table_weight (table.Entry node next t count key) = 6 * fields_left node next + 2

  abbrev pub frame_weight : Frame → ℕ
  frame_weight (frame.Body f) = body_weight f
  frame_weight (frame.Locals node next values) = 2 * parts_left node next + 1
  frame_weight (frame.Assign f) = assign_frame_weight f
  frame_weight (frame.Callee f) = callee_weight f
  frame_weight (frame.Args node next function values) = 2 * parts_left node next + 4
  frame_weight (frame.If node test) = 2 * blocks_left node test + 1
  frame_weight (frame.While f) = while_weight f
  frame_weight (frame.Repeat f) = repeat_weight f
  frame_weight (frame.Count f) = count_weight f
  frame_weight (frame.Each f) = each_weight f
  frame_weight (frame.Table f) = table_weight f
  frame_weight (frame.Operand f) = operand_weight f
  frame_weight (frame.Return node next values) = 2 * parts_left node next + 1
  frame_weight (frame.Native f) = native_weight f

  -- Taking a frame off is one step more.
  abbrev pub frames_weight : List Frame → ℕ
  frames_weight [] = 0
  frames_weight (f ∷ fs) = 1 + frame_weight f + frames_weight fs

  abbrev pub mode_weight : Mode → ℕ
  mode_weight (mode.Begin i) = 1
  mode_weight (mode.Give values) = 0
  mode_weight (mode.Leave values) = 0
  mode_weight mode.Break = 0
  mode_weight (mode.Jump i) = 2 * part_count nodes + 1
  mode_weight (mode.Raise v) = 0
  mode_weight (mode.Stopped st) = 0
  mode_weight (mode.Declare node values) = 1
  mode_weight (mode.Targets node next targets) = assign_weight node next (length targets)
  mode_weight (mode.Stores node targets values) = 3 * length targets + 1
  mode_weight (mode.Fields node next t count) = 6 * fields_left node next + 1
  mode_weight (mode.Items node next t count values) = 6 * fields_left node next + 2
  mode_weight (mode.Entry node next t count key v) = 6 * fields_left node next + 2
  mode_weight (mode.Binary node left right) = 1
  mode_weight (mode.Unary node one) = 1
  mode_weight (mode.Look node object key) = 1
  mode_weight (mode.Put node object key v) = 1
  mode_weight (mode.Turn node outer) = 1
  mode_weight (mode.Round node outer) = 1
  mode_weight (mode.Open i) = 2
  mode_weight (mode.Start node first limit step) = 2
  mode_weight (mode.Count node at limit step outer) = 1
  mode_weight (mode.Next node function state control outer) = 1
  mode_weight (mode.Each node function state outer values) = 4
  mode_weight (mode.Return node values) = 1
  mode_weight (mode.Apply node function args) = 4
  mode_weight (mode.Call function args lines own) = 3
  mode_weight (mode.Results lines values) = 1
  mode_weight (mode.Made after lines values) = 1

  abbrev pub weight : Next → ℕ
  weight y = mode_weight y.0 + frames_weight y.1.frames

  -- what one instruction may add
  abbrev pub most_added : ℕ
  most_added = 6 * part_count nodes + 12

  -- the most steps that are left
  abbrev pub work_left : Next → ℕ
  work_left y = (y.1.heap.used.most_instructions - y.1.heap.used.instructions) * most_added + weight y
