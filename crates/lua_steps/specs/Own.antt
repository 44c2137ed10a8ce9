-- That each number which a machine holds, in its call, its frames and what is at work, is of its heap.
use Rattle.std.specs.Prelude.{ℕ, ◌<◌, ⊤, List, All}
use Rattle.lua_meaning.specs.declared.value.Value.{Value}
use Rattle.lua_meaning.specs.declared.variable.Slot.{Slot}
use Rattle.lua_meaning.specs.declared.variable.Slot.TheVariants as slot
use Rattle.lua_meaning.specs.declared.variable.Target.{Target}
use Rattle.lua_meaning.specs.declared.variable.Target.TheVariants as target
use Rattle.lua_meaning.specs.Store.{CallOf}
use Rattle.lua_values.specs.Ids.{Ids, ids_of, AreLater, IsOf}
use Rattle.lua_coroutines.specs.declared.frame.Frame.{Frame}
use Rattle.lua_coroutines.specs.declared.frame.Frame.TheVariants as frame
use Rattle.lua_coroutines.specs.declared.frame.BodyFrame.{BodyFrame}
use Rattle.lua_coroutines.specs.declared.frame.BodyFrame.TheVariants as body
use Rattle.lua_coroutines.specs.declared.frame.AssignFrame.{AssignFrame}
use Rattle.lua_coroutines.specs.declared.frame.AssignFrame.TheVariants as assign
use Rattle.lua_coroutines.specs.declared.frame.CalleeFrame.{CalleeFrame}
use Rattle.lua_coroutines.specs.declared.frame.CalleeFrame.TheVariants as callee
use Rattle.lua_coroutines.specs.declared.frame.CountFrame.{CountFrame}
use Rattle.lua_coroutines.specs.declared.frame.CountFrame.TheVariants as count_loop
use Rattle.lua_coroutines.specs.declared.frame.EachFrame.{EachFrame}
use Rattle.lua_coroutines.specs.declared.frame.EachFrame.TheVariants as each_loop
use Rattle.lua_coroutines.specs.declared.frame.TableFrame.{TableFrame}
use Rattle.lua_coroutines.specs.declared.frame.TableFrame.TheVariants as table
use Rattle.lua_coroutines.specs.declared.frame.OperandFrame.{OperandFrame}
use Rattle.lua_coroutines.specs.declared.frame.OperandFrame.TheVariants as operand
use Rattle.lua_coroutines.specs.declared.frame.NativeFrame.{NativeFrame}
use Rattle.lua_coroutines.specs.declared.frame.NativeFrame.TheVariants as native
use Rattle.lua_steps.specs.declared.mode.Mode.{Mode}
use Rattle.lua_steps.specs.declared.mode.Mode.TheVariants as mode
use Rattle.lua_steps.specs.declared.given.Given.{Given}
use Rattle.lua_steps.specs.declared.given.Given.TheVariants as given
use Rattle.lua_steps.specs.Configuration.{Next}

module _ (ids : Ids) where
  abbrev pub AreOf : List Value → Type 0
  AreOf vs = All (IsOf ids) vs

  abbrev pub IsOwnSlot : Slot → Type 0
  IsOwnSlot (slot.Held v) = IsOf ids v
  IsOwnSlot (slot.Cell i) = i < ids.cells

  abbrev pub IsOwnLocal : ℕ × Slot → Type 0
  IsOwnLocal l = IsOwnSlot l.1

  pub record IsOwnCall (call : CallOf) : Type 0 where
    pub locals : All IsOwnLocal call.locals
    pub varargs : AreOf call.varargs

  abbrev pub IsOwnTarget : Target → Type 0
  IsOwnTarget (target.Cell i) = i < ids.cells
  IsOwnTarget (target.Entry object key) = IsOf ids object × IsOf ids key
  IsOwnTarget _ = ⊤

  abbrev pub IsOwnBodyFrame : BodyFrame → Type 0
  IsOwnBodyFrame (body.Caller call) = IsOwnCall call
  IsOwnBodyFrame _ = ⊤

  abbrev pub IsOwnAssignFrame : AssignFrame → Type 0
  IsOwnAssignFrame (assign.Object node next index targets) = All IsOwnTarget targets
  IsOwnAssignFrame (assign.Key node next targets object) = All IsOwnTarget targets × IsOf ids object
  IsOwnAssignFrame (assign.Values node next targets values) = All IsOwnTarget targets × AreOf values
  IsOwnAssignFrame (assign.Stores node targets values) = All IsOwnTarget targets × AreOf values
  IsOwnAssignFrame (assign.Function node) = ⊤

  abbrev pub IsOwnCalleeFrame : CalleeFrame → Type 0
  IsOwnCalleeFrame (callee.Method node receiver) = IsOf ids receiver
  IsOwnCalleeFrame _ = ⊤

  abbrev pub IsOwnCountFrame : CountFrame → Type 0
  IsOwnCountFrame (count_loop.Limit node first) = IsOf ids first
  IsOwnCountFrame (count_loop.Step node first limit) = IsOf ids first × IsOf ids limit
  IsOwnCountFrame _ = ⊤

  abbrev pub IsOwnEachFrame : EachFrame → Type 0
  IsOwnEachFrame (each_loop.Values node next values) = AreOf values
  IsOwnEachFrame (each_loop.Next node function state outer) = IsOf ids function × IsOf ids state
  IsOwnEachFrame (each_loop.Turn node function state control outer before) = IsOf ids function × IsOf ids state × IsOf ids control

  abbrev pub IsOwnTableFrame : TableFrame → Type 0
  IsOwnTableFrame (table.Item node next t count) = t < ids.tables
  IsOwnTableFrame (table.Key node next t count value) = t < ids.tables
  IsOwnTableFrame (table.Entry node next t count key) = (t < ids.tables) × IsOf ids key

  abbrev pub IsOwnOperandFrame : OperandFrame → Type 0
  IsOwnOperandFrame (operand.Right node left) = IsOf ids left
  IsOwnOperandFrame (operand.Key node object) = IsOf ids object
  IsOwnOperandFrame _ = ⊤

  abbrev pub IsOwnNativeFrame : NativeFrame → Type 0
  IsOwnNativeFrame (native.Waits after lines caller) = IsOwnCall caller
  IsOwnNativeFrame (native.Yields lines caller) = IsOwnCall caller
  IsOwnNativeFrame (native.Resumes wrapped lines caller below) = IsOwnCall caller

  abbrev pub IsOwnFrame : Frame → Type 0
  IsOwnFrame (frame.Body f) = IsOwnBodyFrame f
  IsOwnFrame (frame.Locals node next values) = AreOf values
  IsOwnFrame (frame.Assign f) = IsOwnAssignFrame f
  IsOwnFrame (frame.Callee f) = IsOwnCalleeFrame f
  IsOwnFrame (frame.Args node next function values) = IsOf ids function × AreOf values
  IsOwnFrame (frame.If node test) = ⊤
  IsOwnFrame (frame.While f) = ⊤
  IsOwnFrame (frame.Repeat f) = ⊤
  IsOwnFrame (frame.Count f) = IsOwnCountFrame f
  IsOwnFrame (frame.Each f) = IsOwnEachFrame f
  IsOwnFrame (frame.Table f) = IsOwnTableFrame f
  IsOwnFrame (frame.Operand f) = IsOwnOperandFrame f
  IsOwnFrame (frame.Return node next values) = AreOf values
  IsOwnFrame (frame.Native f) = IsOwnNativeFrame f

  abbrev pub IsOwnMode : Mode → Type 0
  IsOwnMode (mode.Give values) = AreOf values
  IsOwnMode (mode.Leave values) = AreOf values
  IsOwnMode (mode.Raise v) = IsOf ids v
  IsOwnMode (mode.Declare node values) = AreOf values
  IsOwnMode (mode.Targets node next targets) = All IsOwnTarget targets
  IsOwnMode (mode.Stores node targets values) = All IsOwnTarget targets × AreOf values
  IsOwnMode (mode.Fields node next t count) = t < ids.tables
  IsOwnMode (mode.Items node next t count values) = (t < ids.tables) × AreOf values
  IsOwnMode (mode.Entry node next t count key v) = (t < ids.tables) × IsOf ids key × IsOf ids v
  IsOwnMode (mode.Binary node left right) = IsOf ids left × IsOf ids right
  IsOwnMode (mode.Unary node one) = IsOf ids one
  IsOwnMode (mode.Look node object key) = IsOf ids object × IsOf ids key
  IsOwnMode (mode.Put node object key v) = IsOf ids object × IsOf ids key × IsOf ids v
  IsOwnMode (mode.Next node function state control outer) = IsOf ids function × IsOf ids state × IsOf ids control
  IsOwnMode (mode.Start node first limit step) = IsOf ids first × IsOf ids limit × IsOf ids step
  IsOwnMode (mode.Each node function state outer values) = IsOf ids function × IsOf ids state × AreOf values
  IsOwnMode (mode.Return node values) = AreOf values
  IsOwnMode (mode.Apply node function args) = IsOf ids function × AreOf args
  IsOwnMode (mode.Call function args lines own) = IsOf ids function × AreOf args
  IsOwnMode (mode.Results lines values) = AreOf values
  IsOwnMode (mode.Made after lines values) = AreOf values
  IsOwnMode _ = ⊤

  -- what becomes of a frame
  abbrev pub IsOwnGiven : Given → Type 0
  IsOwnGiven (given.Goes b) = IsOwnMode b
  IsOwnGiven (given.Enters f b) = IsOwnFrame f × IsOwnMode b
  IsOwnGiven (given.Cuts n b) = IsOwnMode b
  IsOwnGiven (given.Returns call b) = IsOwnCall call × IsOwnMode b
  IsOwnGiven (given.Lands n f) = IsOwnFrame f

-- The call in progress and the frames hold numbers of the heap alone.
pub record AreOfHeap (ids : Ids) (at : CallOf) (fs : List Frame) : Type 0 where
  pub call : IsOwnCall ids at
  pub frames : All (IsOwnFrame ids) fs

-- What comes next holds numbers of its heap alone, which has no fewer of them than there were.
abbrev pub IsOwnNext : (before : Ids) → Next → Type 0
IsOwnNext before y = AreLater before (ids_of y.1.heap) × IsOwnMode (ids_of y.1.heap) y.0 × AreOfHeap (ids_of y.1.heap) y.1.call y.1.frames
