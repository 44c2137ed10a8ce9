-- What errors, stops, returns, breaks and jumps pass.
use Rattle.std.proofs.Common.{◌≡◌, ℕ, List, [], ◌∷◌, Bool, true, false, refl, subst}
use Rattle.zc_budget.specs.declared.budget.Stop.{Stop}
use Rattle.lua_ast.specs.declared.node.LinedNode.{LinedNode}
use Rattle.lua_meaning.specs.declared.value.Value.{Value}
use Rattle.lua_meaning.specs.Store.{Store, Breaks, Jumps, Returns, Raises, Stops, Resumptions, Result, Halt}
use Rattle.lua_meaning.specs.Code.{Code}
use Rattle.lua_meaning.specs.Jobs.{HostOf}
use Rattle.lua_coroutines.specs.declared.frame.Frame.{Frame}
use Rattle.lua_coroutines.specs.declared.frame.Frame.TheVariants as frame
use Rattle.lua_coroutines.specs.declared.frame.BodyFrame.TheVariants as body
use Rattle.lua_coroutines.specs.declared.frame.AssignFrame.TheVariants as assign
use Rattle.lua_coroutines.specs.declared.frame.CalleeFrame.TheVariants as callee
use Rattle.lua_coroutines.specs.declared.frame.WhileFrame.TheVariants as while_loop
use Rattle.lua_coroutines.specs.declared.frame.RepeatFrame.TheVariants as repeat_loop
use Rattle.lua_coroutines.specs.declared.frame.CountFrame.TheVariants as count_loop
use Rattle.lua_coroutines.specs.declared.frame.EachFrame.TheVariants as each_loop
use Rattle.lua_coroutines.specs.declared.frame.TableFrame.TheVariants as table
use Rattle.lua_coroutines.specs.declared.frame.OperandFrame.TheVariants as operand
use Rattle.lua_coroutines.specs.declared.frame.NativeFrame.TheVariants as native
use Rattle.lua_steps.specs.Parts.{name_there}
use Rattle.lua_steps.specs.Frames.{goes_on}
use Rattle.lua_steps.specs.Works.{Leads}

module _ {H : Type 0} (host : HostOf H) (code : Code) (nodes : List LinedNode) (ended : ℕ) (whole : ℕ → Resumptions H → Result H) where
  raises_pass : (m n : ℕ) (f : Frame) (v : Value) (s : Store H) (r : Resumptions H) → goes_on host code nodes m n f (Halt (Raises v) s r) ≡ Halt (Raises v) s r
  raises_pass m n (frame.Body (body.Statements block next outer)) v s r = refl
  raises_pass m n (frame.Body (body.Open block next outer)) v s r = refl
  raises_pass m n (frame.Body (body.Caller call)) v s r = refl
  raises_pass m n (frame.Locals node next vs) v s r = refl
  raises_pass m n (frame.Assign (assign.Object node next index ts)) v s r = refl
  raises_pass m n (frame.Assign (assign.Key node next ts object)) v s r = refl
  raises_pass m n (frame.Assign (assign.Values node next ts vs)) v s r = refl
  raises_pass m n (frame.Assign (assign.Stores node ts xs)) v s r = refl
  raises_pass m n (frame.Assign (assign.Function node)) v s r = refl
  raises_pass m n (frame.Callee (callee.Function node)) v s r = refl
  raises_pass m n (frame.Callee (callee.Receiver node)) v s r = refl
  raises_pass m n (frame.Callee (callee.Method node receiver)) v s r = refl
  raises_pass m n (frame.Args node next f vs) v s r = refl
  raises_pass m n (frame.If node k) v s r = refl
  raises_pass m n (frame.While (while_loop.Test node outer)) v s r = refl
  raises_pass m n (frame.While (while_loop.Turn node outer)) v s r = refl
  raises_pass m n (frame.Repeat (repeat_loop.Turn node outer before)) v s r = refl
  raises_pass m n (frame.Repeat (repeat_loop.Test node outer before)) v s r = refl
  raises_pass m n (frame.Count (count_loop.First node)) v s r = refl
  raises_pass m n (frame.Count (count_loop.Limit node a)) v s r = refl
  raises_pass m n (frame.Count (count_loop.Step node a b)) v s r = refl
  raises_pass m n (frame.Count (count_loop.Turn node at to step outer before)) v s r = refl
  raises_pass m n (frame.Each (each_loop.Values node next vs)) v s r = refl
  raises_pass m n (frame.Each (each_loop.Next node f state outer)) v s r = refl
  raises_pass m n (frame.Each (each_loop.Turn node f state control outer before)) v s r = refl
  raises_pass m n (frame.Table (table.Item node next t c)) v s r = refl
  raises_pass m n (frame.Table (table.Key node next t c value)) v s r = refl
  raises_pass m n (frame.Table (table.Entry node next t c key)) v s r = refl
  raises_pass m n (frame.Operand (operand.Left node)) v s r = refl
  raises_pass m n (frame.Operand (operand.Right node a)) v s r = refl
  raises_pass m n (frame.Operand (operand.Logic node)) v s r = refl
  raises_pass m n (frame.Operand (operand.One node)) v s r = refl
  raises_pass m n (frame.Operand operand.Only) v s r = refl
  raises_pass m n (frame.Operand (operand.Object node)) v s r = refl
  raises_pass m n (frame.Operand (operand.Key node object)) v s r = refl
  raises_pass m n (frame.Operand (operand.Metamethod op negated)) v s r = refl
  raises_pass m n (frame.Return node next vs) v s r = refl
  raises_pass m n (frame.Native (native.Waits a lines call')) v s r = refl
  raises_pass m n (frame.Native (native.Yields lines call')) v s r = refl
  raises_pass m n (frame.Native (native.Resumes wrapped lines call' under)) v s r = refl

  stops_pass : (m n : ℕ) (f : Frame) (st : Stop) (s : Store H) (r : Resumptions H) → goes_on host code nodes m n f (Halt (Stops st) s r) ≡ Halt (Stops st) s r
  stops_pass m n (frame.Body (body.Statements block next outer)) st s r = refl
  stops_pass m n (frame.Body (body.Open block next outer)) st s r = refl
  stops_pass m n (frame.Body (body.Caller call)) st s r = refl
  stops_pass m n (frame.Locals node next vs) st s r = refl
  stops_pass m n (frame.Assign (assign.Object node next index ts)) st s r = refl
  stops_pass m n (frame.Assign (assign.Key node next ts object)) st s r = refl
  stops_pass m n (frame.Assign (assign.Values node next ts vs)) st s r = refl
  stops_pass m n (frame.Assign (assign.Stores node ts xs)) st s r = refl
  stops_pass m n (frame.Assign (assign.Function node)) st s r = refl
  stops_pass m n (frame.Callee (callee.Function node)) st s r = refl
  stops_pass m n (frame.Callee (callee.Receiver node)) st s r = refl
  stops_pass m n (frame.Callee (callee.Method node receiver)) st s r = refl
  stops_pass m n (frame.Args node next f vs) st s r = refl
  stops_pass m n (frame.If node k) st s r = refl
  stops_pass m n (frame.While (while_loop.Test node outer)) st s r = refl
  stops_pass m n (frame.While (while_loop.Turn node outer)) st s r = refl
  stops_pass m n (frame.Repeat (repeat_loop.Turn node outer before)) st s r = refl
  stops_pass m n (frame.Repeat (repeat_loop.Test node outer before)) st s r = refl
  stops_pass m n (frame.Count (count_loop.First node)) st s r = refl
  stops_pass m n (frame.Count (count_loop.Limit node a)) st s r = refl
  stops_pass m n (frame.Count (count_loop.Step node a b)) st s r = refl
  stops_pass m n (frame.Count (count_loop.Turn node at to step outer before)) st s r = refl
  stops_pass m n (frame.Each (each_loop.Values node next vs)) st s r = refl
  stops_pass m n (frame.Each (each_loop.Next node f state outer)) st s r = refl
  stops_pass m n (frame.Each (each_loop.Turn node f state control outer before)) st s r = refl
  stops_pass m n (frame.Table (table.Item node next t c)) st s r = refl
  stops_pass m n (frame.Table (table.Key node next t c value)) st s r = refl
  stops_pass m n (frame.Table (table.Entry node next t c key)) st s r = refl
  stops_pass m n (frame.Operand (operand.Left node)) st s r = refl
  stops_pass m n (frame.Operand (operand.Right node a)) st s r = refl
  stops_pass m n (frame.Operand (operand.Logic node)) st s r = refl
  stops_pass m n (frame.Operand (operand.One node)) st s r = refl
  stops_pass m n (frame.Operand operand.Only) st s r = refl
  stops_pass m n (frame.Operand (operand.Object node)) st s r = refl
  stops_pass m n (frame.Operand (operand.Key node object)) st s r = refl
  stops_pass m n (frame.Operand (operand.Metamethod op negated)) st s r = refl
  stops_pass m n (frame.Return node next vs) st s r = refl
  stops_pass m n (frame.Native (native.Waits a lines call')) st s r = refl
  stops_pass m n (frame.Native (native.Yields lines call')) st s r = refl
  stops_pass m n (frame.Native (native.Resumes wrapped lines call' under)) st s r = refl

  abbrev pub ends_return : Frame → Bool
  ends_return (frame.Body (body.Caller call)) = true
  ends_return f = false

  pub returns_pass : (m n : ℕ) (f : Frame) (ws : List Value) (s : Store H) (r : Resumptions H) → ends_return f ≡ false → goes_on host code nodes m n f (Halt (Returns ws) s r) ≡ Halt (Returns ws) s r
  returns_pass m n (frame.Body (body.Statements block next outer)) ws s r e = refl
  returns_pass m n (frame.Body (body.Open block next outer)) ws s r e = refl
  returns_pass m n (frame.Body (body.Caller call)) ws s r e = absurd (let ends_here : true ≡ false = e in cc)
  returns_pass m n (frame.Locals node next vs) ws s r e = refl
  returns_pass m n (frame.Assign (assign.Object node next index ts)) ws s r e = refl
  returns_pass m n (frame.Assign (assign.Key node next ts object)) ws s r e = refl
  returns_pass m n (frame.Assign (assign.Values node next ts vs)) ws s r e = refl
  returns_pass m n (frame.Assign (assign.Stores node ts xs)) ws s r e = refl
  returns_pass m n (frame.Assign (assign.Function node)) ws s r e = refl
  returns_pass m n (frame.Callee (callee.Function node)) ws s r e = refl
  returns_pass m n (frame.Callee (callee.Receiver node)) ws s r e = refl
  returns_pass m n (frame.Callee (callee.Method node receiver)) ws s r e = refl
  returns_pass m n (frame.Args node next f vs) ws s r e = refl
  returns_pass m n (frame.If node k) ws s r e = refl
  returns_pass m n (frame.While (while_loop.Test node outer)) ws s r e = refl
  returns_pass m n (frame.While (while_loop.Turn node outer)) ws s r e = refl
  returns_pass m n (frame.Repeat (repeat_loop.Turn node outer before)) ws s r e = refl
  returns_pass m n (frame.Repeat (repeat_loop.Test node outer before)) ws s r e = refl
  returns_pass m n (frame.Count (count_loop.First node)) ws s r e = refl
  returns_pass m n (frame.Count (count_loop.Limit node a)) ws s r e = refl
  returns_pass m n (frame.Count (count_loop.Step node a b)) ws s r e = refl
  returns_pass m n (frame.Count (count_loop.Turn node at to step outer before)) ws s r e = refl
  returns_pass m n (frame.Each (each_loop.Values node next vs)) ws s r e = refl
  returns_pass m n (frame.Each (each_loop.Next node f state outer)) ws s r e = refl
  returns_pass m n (frame.Each (each_loop.Turn node f state control outer before)) ws s r e = refl
  returns_pass m n (frame.Table (table.Item node next t c)) ws s r e = refl
  returns_pass m n (frame.Table (table.Key node next t c value)) ws s r e = refl
  returns_pass m n (frame.Table (table.Entry node next t c key)) ws s r e = refl
  returns_pass m n (frame.Operand (operand.Left node)) ws s r e = refl
  returns_pass m n (frame.Operand (operand.Right node a)) ws s r e = refl
  returns_pass m n (frame.Operand (operand.Logic node)) ws s r e = refl
  returns_pass m n (frame.Operand (operand.One node)) ws s r e = refl
  returns_pass m n (frame.Operand operand.Only) ws s r e = refl
  returns_pass m n (frame.Operand (operand.Object node)) ws s r e = refl
  returns_pass m n (frame.Operand (operand.Key node object)) ws s r e = refl
  returns_pass m n (frame.Operand (operand.Metamethod op negated)) ws s r e = refl
  returns_pass m n (frame.Return node next vs) ws s r e = refl
  returns_pass m n (frame.Native (native.Waits a lines call')) ws s r e = refl
  returns_pass m n (frame.Native (native.Yields lines call')) ws s r e = refl
  returns_pass m n (frame.Native (native.Resumes wrapped lines call' under)) ws s r e = refl

  abbrev pub ends_break : Frame → Bool
  ends_break (frame.Body (body.Caller call)) = true
  ends_break (frame.While (while_loop.Test node outer)) = true
  ends_break (frame.While (while_loop.Turn node outer)) = true
  ends_break (frame.Repeat (repeat_loop.Turn node outer before)) = true
  ends_break (frame.Repeat (repeat_loop.Test node outer before)) = true
  ends_break (frame.Count (count_loop.Turn node at to step outer before)) = true
  ends_break (frame.Each (each_loop.Next node f state outer)) = true
  ends_break (frame.Each (each_loop.Turn node f state control outer before)) = true
  ends_break f = false

  pub breaks_pass : (m n : ℕ) (f : Frame) (s : Store H) (r : Resumptions H) → ends_break f ≡ false → goes_on host code nodes m n f (Halt (Breaks) s r) ≡ Halt (Breaks) s r
  breaks_pass m n (frame.Body (body.Statements block next outer)) s r e = refl
  breaks_pass m n (frame.Body (body.Open block next outer)) s r e = refl
  breaks_pass m n (frame.Body (body.Caller call)) s r e = absurd (let ends_here : true ≡ false = e in cc)
  breaks_pass m n (frame.Locals node next vs) s r e = refl
  breaks_pass m n (frame.Assign (assign.Object node next index ts)) s r e = refl
  breaks_pass m n (frame.Assign (assign.Key node next ts object)) s r e = refl
  breaks_pass m n (frame.Assign (assign.Values node next ts vs)) s r e = refl
  breaks_pass m n (frame.Assign (assign.Stores node ts xs)) s r e = refl
  breaks_pass m n (frame.Assign (assign.Function node)) s r e = refl
  breaks_pass m n (frame.Callee (callee.Function node)) s r e = refl
  breaks_pass m n (frame.Callee (callee.Receiver node)) s r e = refl
  breaks_pass m n (frame.Callee (callee.Method node receiver)) s r e = refl
  breaks_pass m n (frame.Args node next f vs) s r e = refl
  breaks_pass m n (frame.If node k) s r e = refl
  breaks_pass m n (frame.While (while_loop.Test node outer)) s r e = absurd (let ends_here : true ≡ false = e in cc)
  breaks_pass m n (frame.While (while_loop.Turn node outer)) s r e = absurd (let ends_here : true ≡ false = e in cc)
  breaks_pass m n (frame.Repeat (repeat_loop.Turn node outer before)) s r e = absurd (let ends_here : true ≡ false = e in cc)
  breaks_pass m n (frame.Repeat (repeat_loop.Test node outer before)) s r e = absurd (let ends_here : true ≡ false = e in cc)
  breaks_pass m n (frame.Count (count_loop.First node)) s r e = refl
  breaks_pass m n (frame.Count (count_loop.Limit node a)) s r e = refl
  breaks_pass m n (frame.Count (count_loop.Step node a b)) s r e = refl
  breaks_pass m n (frame.Count (count_loop.Turn node at to step outer before)) s r e = absurd (let ends_here : true ≡ false = e in cc)
  breaks_pass m n (frame.Each (each_loop.Values node next vs)) s r e = refl
  breaks_pass m n (frame.Each (each_loop.Next node f state outer)) s r e = absurd (let ends_here : true ≡ false = e in cc)
  breaks_pass m n (frame.Each (each_loop.Turn node f state control outer before)) s r e = absurd (let ends_here : true ≡ false = e in cc)
  breaks_pass m n (frame.Table (table.Item node next t c)) s r e = refl
  breaks_pass m n (frame.Table (table.Key node next t c value)) s r e = refl
  breaks_pass m n (frame.Table (table.Entry node next t c key)) s r e = refl
  breaks_pass m n (frame.Operand (operand.Left node)) s r e = refl
  breaks_pass m n (frame.Operand (operand.Right node a)) s r e = refl
  breaks_pass m n (frame.Operand (operand.Logic node)) s r e = refl
  breaks_pass m n (frame.Operand (operand.One node)) s r e = refl
  breaks_pass m n (frame.Operand operand.Only) s r e = refl
  breaks_pass m n (frame.Operand (operand.Object node)) s r e = refl
  breaks_pass m n (frame.Operand (operand.Key node object)) s r e = refl
  breaks_pass m n (frame.Operand (operand.Metamethod op negated)) s r e = refl
  breaks_pass m n (frame.Return node next vs) s r e = refl
  breaks_pass m n (frame.Native (native.Waits a lines call')) s r e = refl
  breaks_pass m n (frame.Native (native.Yields lines call')) s r e = refl
  breaks_pass m n (frame.Native (native.Resumes wrapped lines call' under)) s r e = refl

  abbrev pub ends_jump : Frame → Bool
  ends_jump (frame.Body (body.Statements block next outer)) = true
  ends_jump (frame.Body (body.Open block next outer)) = true
  ends_jump (frame.Body (body.Caller call)) = true
  ends_jump f = false

  pub jumps_pass : (m n : ℕ) (f : Frame) (i : ℕ) (s : Store H) (r : Resumptions H) → ends_jump f ≡ false → goes_on host code nodes m n f (Halt (Jumps (name_there nodes i)) s r) ≡ Halt (Jumps (name_there nodes i)) s r
  jumps_pass m n (frame.Body (body.Statements block next outer)) i s r e = absurd (let ends_here : true ≡ false = e in cc)
  jumps_pass m n (frame.Body (body.Open block next outer)) i s r e = absurd (let ends_here : true ≡ false = e in cc)
  jumps_pass m n (frame.Body (body.Caller call)) i s r e = absurd (let ends_here : true ≡ false = e in cc)
  jumps_pass m n (frame.Locals node next vs) i s r e = refl
  jumps_pass m n (frame.Assign (assign.Object node next index ts)) i s r e = refl
  jumps_pass m n (frame.Assign (assign.Key node next ts object)) i s r e = refl
  jumps_pass m n (frame.Assign (assign.Values node next ts vs)) i s r e = refl
  jumps_pass m n (frame.Assign (assign.Stores node ts xs)) i s r e = refl
  jumps_pass m n (frame.Assign (assign.Function node)) i s r e = refl
  jumps_pass m n (frame.Callee (callee.Function node)) i s r e = refl
  jumps_pass m n (frame.Callee (callee.Receiver node)) i s r e = refl
  jumps_pass m n (frame.Callee (callee.Method node receiver)) i s r e = refl
  jumps_pass m n (frame.Args node next f vs) i s r e = refl
  jumps_pass m n (frame.If node k) i s r e = refl
  jumps_pass m n (frame.While (while_loop.Test node outer)) i s r e = refl
  jumps_pass m n (frame.While (while_loop.Turn node outer)) i s r e = refl
  jumps_pass m n (frame.Repeat (repeat_loop.Turn node outer before)) i s r e = refl
  jumps_pass m n (frame.Repeat (repeat_loop.Test node outer before)) i s r e = refl
  jumps_pass m n (frame.Count (count_loop.First node)) i s r e = refl
  jumps_pass m n (frame.Count (count_loop.Limit node a)) i s r e = refl
  jumps_pass m n (frame.Count (count_loop.Step node a b)) i s r e = refl
  jumps_pass m n (frame.Count (count_loop.Turn node at to step outer before)) i s r e = refl
  jumps_pass m n (frame.Each (each_loop.Values node next vs)) i s r e = refl
  jumps_pass m n (frame.Each (each_loop.Next node f state outer)) i s r e = refl
  jumps_pass m n (frame.Each (each_loop.Turn node f state control outer before)) i s r e = refl
  jumps_pass m n (frame.Table (table.Item node next t c)) i s r e = refl
  jumps_pass m n (frame.Table (table.Key node next t c value)) i s r e = refl
  jumps_pass m n (frame.Table (table.Entry node next t c key)) i s r e = refl
  jumps_pass m n (frame.Operand (operand.Left node)) i s r e = refl
  jumps_pass m n (frame.Operand (operand.Right node a)) i s r e = refl
  jumps_pass m n (frame.Operand (operand.Logic node)) i s r e = refl
  jumps_pass m n (frame.Operand (operand.One node)) i s r e = refl
  jumps_pass m n (frame.Operand operand.Only) i s r e = refl
  jumps_pass m n (frame.Operand (operand.Object node)) i s r e = refl
  jumps_pass m n (frame.Operand (operand.Key node object)) i s r e = refl
  jumps_pass m n (frame.Operand (operand.Metamethod op negated)) i s r e = refl
  jumps_pass m n (frame.Return node next vs) i s r e = refl
  jumps_pass m n (frame.Native (native.Waits a lines call')) i s r e = refl
  jumps_pass m n (frame.Native (native.Yields lines call')) i s r e = refl
  jumps_pass m n (frame.Native (native.Resumes wrapped lines call' under)) i s r e = refl

  -- an error, or a stop, is the whole outcome
  pub raises_all : (m l u : ℕ) (fs : List Frame) (v : Value) (s : Store H) (r : Resumptions H) (w : Result H) → Leads host code nodes m l u fs (Halt (Raises v) s r) w → Halt (Raises v) s r ≡ w
  raises_all m l u [] v s r w h = h
  raises_all m l u (f ∷ fs) v s r w h = raises_all m l u fs v s r w (subst (λ o. Leads host code nodes m l u fs o w) (raises_pass m h.0 f v s r) h.2)

  pub stops_all : (m l u : ℕ) (fs : List Frame) (st : Stop) (s : Store H) (r : Resumptions H) (w : Result H) → Leads host code nodes m l u fs (Halt (Stops st) s r) w → Halt (Stops st) s r ≡ w
  stops_all m l u [] st s r w h = h
  stops_all m l u (f ∷ fs) st s r w h = stops_all m l u fs st s r w (subst (λ o. Leads host code nodes m l u fs o w) (stops_pass m h.0 f st s r) h.2)
