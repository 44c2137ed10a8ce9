-- What is of a heap is of it later too.
use Rattle.std.proofs.Common.{ℕ, List, arith, All}
use Rattle.std.proofs.lemmas.List.Elements.{All-weaker}
use Rattle.lua_meaning.specs.declared.value.Value.{Value}
use Rattle.lua_meaning.specs.declared.variable.Slot.{Slot}
use Rattle.lua_meaning.specs.declared.variable.Slot.TheVariants as slot
use Rattle.lua_meaning.specs.declared.variable.Target.{Target}
use Rattle.lua_meaning.specs.declared.variable.Target.TheVariants as target
use Rattle.lua_meaning.specs.Store.{CallOf}
use Rattle.lua_values.specs.Ids.{Ids, AreLater, IsOf}
use Rattle.lua_values.proofs.Own.{value_later}
use Rattle.lua_coroutines.specs.declared.frame.Frame.{Frame}
use Rattle.lua_coroutines.specs.declared.frame.Frame.TheVariants as frame
use Rattle.lua_coroutines.specs.declared.frame.BodyFrame.TheVariants as body
use Rattle.lua_coroutines.specs.declared.frame.AssignFrame.TheVariants as assign
use Rattle.lua_coroutines.specs.declared.frame.CalleeFrame.TheVariants as callee
use Rattle.lua_coroutines.specs.declared.frame.CountFrame.TheVariants as count_loop
use Rattle.lua_coroutines.specs.declared.frame.EachFrame.TheVariants as each_loop
use Rattle.lua_coroutines.specs.declared.frame.TableFrame.TheVariants as table
use Rattle.lua_coroutines.specs.declared.frame.OperandFrame.TheVariants as operand
use Rattle.lua_coroutines.specs.declared.frame.NativeFrame.TheVariants as native
use Rattle.lua_steps.specs.Own.{AreOf, IsOwnLocal, IsOwnCall, IsOwnTarget, IsOwnFrame}

module _ (a b : Ids) (later : AreLater a b) where
  pub values_later : (vs : List Value) → AreOf a vs → AreOf b vs
  values_later vs own = All-weaker (IsOf a) (IsOf b) (value_later a b later) vs own

  slot_later : (l : ℕ × Slot) → IsOwnLocal a l → IsOwnLocal b l
  slot_later (v, slot.Held x) own = value_later a b later x own
  slot_later (v, slot.Cell i) own = omega (arith, own, later.cells)

  pub locals_later : (ls : List (ℕ × Slot)) → All (IsOwnLocal a) ls → All (IsOwnLocal b) ls
  locals_later ls own = All-weaker (IsOwnLocal a) (IsOwnLocal b) slot_later ls own

  pub call_later : (call : CallOf) → IsOwnCall a call → IsOwnCall b call
  call_later call own = record { locals = All-weaker (IsOwnLocal a) (IsOwnLocal b) slot_later call.locals own.locals; varargs = values_later call.varargs own.varargs }

  target_later : (t : Target) → IsOwnTarget a t → IsOwnTarget b t
  target_later (target.Cell i) own = omega (arith, own, later.cells)
  target_later (target.Entry object key) own = (value_later a b later object own.0, value_later a b later key own.1)
  target_later (target.Local v) own = tt
  target_later (target.Global name) own = tt
  target_later target.Nowhere own = tt

  pub targets_later : (ts : List Target) → All (IsOwnTarget a) ts → All (IsOwnTarget b) ts
  targets_later ts own = All-weaker (IsOwnTarget a) (IsOwnTarget b) target_later ts own

  pub frame_later : (f : Frame) → IsOwnFrame a f → IsOwnFrame b f
  frame_later (frame.Body (body.Statements block next outer)) own = tt
  frame_later (frame.Body (body.Open block next outer)) own = tt
  frame_later (frame.Body (body.Caller call)) own = call_later call own
  frame_later (frame.Locals node next values) own = values_later values own
  frame_later (frame.Assign (assign.Object node next index targets)) own = targets_later targets own
  frame_later (frame.Assign (assign.Key node next targets object)) own = (targets_later targets own.0, value_later a b later object own.1)
  frame_later (frame.Assign (assign.Values node next targets values)) own = (targets_later targets own.0, values_later values own.1)
  frame_later (frame.Assign (assign.Stores node targets values)) own = (targets_later targets own.0, values_later values own.1)
  frame_later (frame.Assign (assign.Function node)) own = tt
  frame_later (frame.Callee (callee.Function node)) own = tt
  frame_later (frame.Callee (callee.Receiver node)) own = tt
  frame_later (frame.Callee (callee.Method node receiver)) own = value_later a b later receiver own
  frame_later (frame.Args node next function values) own = (value_later a b later function own.0, values_later values own.1)
  frame_later (frame.If node test) own = tt
  frame_later (frame.While f) own = tt
  frame_later (frame.Repeat f) own = tt
  frame_later (frame.Count (count_loop.First node)) own = tt
  frame_later (frame.Count (count_loop.Limit node first)) own = value_later a b later first own
  frame_later (frame.Count (count_loop.Step node first limit)) own = (value_later a b later first own.0, value_later a b later limit own.1)
  frame_later (frame.Count (count_loop.Turn node n limit step outer before)) own = tt
  frame_later (frame.Each (each_loop.Values node next values)) own = values_later values own
  frame_later (frame.Each (each_loop.Next node function state outer)) own = (value_later a b later function own.0, value_later a b later state own.1)
  frame_later (frame.Each (each_loop.Turn node function state control outer before)) own = (value_later a b later function own.0, value_later a b later state own.1, value_later a b later control own.2)
  frame_later (frame.Table (table.Item node next t count)) own = omega (arith, own, later.tables)
  frame_later (frame.Table (table.Key node next t count value)) own = omega (arith, own, later.tables)
  frame_later (frame.Table (table.Entry node next t count key)) own = (omega (arith, own.0, later.tables), value_later a b later key own.1)
  frame_later (frame.Operand (operand.Left node)) own = tt
  frame_later (frame.Operand (operand.Right node left)) own = value_later a b later left own
  frame_later (frame.Operand (operand.Logic node)) own = tt
  frame_later (frame.Operand (operand.One node)) own = tt
  frame_later (frame.Operand operand.Only) own = tt
  frame_later (frame.Operand (operand.Object node)) own = tt
  frame_later (frame.Operand (operand.Key node object)) own = value_later a b later object own
  frame_later (frame.Operand (operand.Metamethod op negated)) own = tt
  frame_later (frame.Return node next values) own = values_later values own
  frame_later (frame.Native (native.Waits after lines caller)) own = call_later caller own
  frame_later (frame.Native (native.Yields lines caller)) own = call_later caller own
  frame_later (frame.Native (native.Resumes wrapped lines caller below)) own = call_later caller own

  pub frames_later : (fs : List Frame) → All (IsOwnFrame a) fs → All (IsOwnFrame b) fs
  frames_later fs own = All-weaker (IsOwnFrame a) (IsOwnFrame b) frame_later fs own
