-- What returns, breaks and jumps make of frames that they pass.
use Rattle.std.proofs.Common.{◌≡◌, ℕ, List, refl}
use Rattle.std.specs.Prelude.{ℤ}
use Rattle.lua_ast.specs.declared.node.LinedNode.{LinedNode}
use Rattle.lua_meaning.specs.declared.value.Value.{Value}
use Rattle.lua_coroutines.specs.declared.frame.Frame.{Frame}
use Rattle.lua_coroutines.specs.declared.frame.Frame.TheVariants as frame
use Rattle.lua_coroutines.specs.declared.frame.BodyFrame.{BodyFrame}
use Rattle.lua_coroutines.specs.declared.frame.WhileFrame.{WhileFrame}
use Rattle.lua_coroutines.specs.declared.frame.RepeatFrame.{RepeatFrame}
use Rattle.lua_coroutines.specs.declared.frame.EachFrame.{EachFrame}
use Rattle.lua_coroutines.specs.declared.frame.CountFrame.{CountFrame}
use Rattle.lua_coroutines.specs.declared.frame.CountFrame.TheVariants as count_loop
use Rattle.lua_steps.specs.declared.mode.Mode.TheVariants as mode
use Rattle.lua_steps.specs.declared.given.Given.TheVariants as given
use Rattle.lua_steps.specs.Passed.{returned, broken, jumped}

pub return_passes : (vs : List Value) (f : Frame) → ((b : BodyFrame) → f ≡ frame.Body b → ⊥) → given.Goes (mode.Leave vs) ≡ returned vs f
return_passes vs (frame.Body b) other = absurd (other b refl)
return_passes vs _ other = refl

pub jump_passes : (nodes : List LinedNode) (goto : ℕ) (f : Frame) → ((b : BodyFrame) → f ≡ frame.Body b → ⊥) → given.Goes (mode.Jump goto) ≡ jumped nodes goto f
jump_passes nodes goto (frame.Body b) other = absurd (other b refl)
jump_passes nodes goto _ other = refl

pub break_passes_count : (c : CountFrame) → ((node : ℕ) → (at limit step : ℤ) → (outer before : ℕ) → c ≡ count_loop.Turn node at limit step outer before → ⊥) → given.Goes mode.Break ≡ broken (frame.Count c)
break_passes_count (count_loop.Turn node at limit step outer before) other = absurd (other node at limit step outer before refl)
break_passes_count _ other = refl

pub break_passes : (f : Frame) → ((b : BodyFrame) → f ≡ frame.Body b → ⊥) → ((w : WhileFrame) → f ≡ frame.While w → ⊥) → ((r : RepeatFrame) → f ≡ frame.Repeat r → ⊥) →
    ((c : CountFrame) → f ≡ frame.Count c → ⊥) → ((e : EachFrame) → f ≡ frame.Each e → ⊥) → given.Goes mode.Break ≡ broken f
break_passes (frame.Body b) body while repeat count each = absurd (body b refl)
break_passes (frame.While w) body while repeat count each = absurd (while w refl)
break_passes (frame.Repeat r) body while repeat count each = absurd (repeat r refl)
break_passes (frame.Count c) body while repeat count each = absurd (count c refl)
break_passes (frame.Each e) body while repeat count each = absurd (each e refl)
break_passes _ body while repeat count each = refl
