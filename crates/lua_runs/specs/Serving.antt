-- What the answer of a host does to a machine that called it (Lua 5.2 manual, 3.4.10).
use Rattle.std.specs.Prelude.{ℕ, ◌+◌, nat_le, Bool, true, false, ⊤, List, [], ◌∷◌, length}
use Rattle.lua_meaning.specs.declared.builtin.Builtin.{Builtin as BuiltinOf}
use Rattle.lua_meaning.specs.declared.value.Value.{Value}
use Rattle.lua_meaning.specs.declared.value.Value.TheVariants as value
use Rattle.lua_meaning.specs.Store.{State}
use Rattle.lua_meaning.specs.Runs.{line_at}
use Rattle.lua_meaning.specs.Jobs.{Answer, Values, Raise, Stopped, CallThen, Resume, Yield, HostOf}
use Rattle.lua_meaning.specs.Calls.{most_calls}
use Rattle.lua_coroutines.specs.declared.frame.Frame.TheVariants as frame
use Rattle.lua_coroutines.specs.declared.frame.NativeFrame.TheVariants as native
use Rattle.lua_steps.specs.declared.mode.Mode.TheVariants as mode
use Rattle.lua_steps.specs.Frames.{inner_of}
use Rattle.lua_steps.specs.Configuration.{Configuration, Next, with_call, with_frame}
use Rattle.lua_steps.specs.Effects.{if_few}

-- no further call may be in progress
abbrev pub has_no_room : (lines : List ℕ) → (own : Bool) → Configuration → Bool
has_no_room lines own x = nat_le most_calls (x.below + length (inner_of own lines))

-- an answer that neither resumes a coroutine nor yields
abbrev pub IsPlain : Answer → Type 0
IsPlain (Resume i args wrapped) = ⊥
IsPlain (Yield vs) = ⊥
IsPlain a = ⊤

-- a host that never lets a coroutine run
pub record MakesNoCoroutine {W : Type 0} (host : HostOf W) : Type 0 where
  pub call : (b : BuiltinOf) (args : List Value) (lines : List ℕ) (w : State W) → IsPlain (host.call b args lines w).0
  pub step : (i : ℕ) (args : List Value) (lines : List ℕ) (w : State W) → IsPlain (host.step i args lines w).0

-- what a host makes of the call of a function; a function that it doesn't serve gives nothing
abbrev pub host_call : {W : Type 0} → HostOf W → Value → List Value → (lines : List ℕ) → State W → Answer × State W
host_call host (value.Builtin b) args lines w = host.call b args lines w
host_call host (value.Iter i) args lines w = host.step i args lines w
host_call host f args lines w = (Values [], w)

-- from now on a built-in that no yield may cross waits for the call in progress
abbrev pub crossed : Configuration → Configuration
crossed x = with_call (record x.call { across = true }) x

-- Values are handed on, if they aren't too many; a function that is to be called is called for a built-in that waits. What resumes or yields does nothing.
abbrev pub served : Answer → (lines : List ℕ) → (own : Bool) → Configuration → Next
served (Values vs) lines own x = if_few lines vs (mode.Give vs) x
served (Raise v) lines own x = (mode.Raise v, x)
served (Stopped st) lines own x = (mode.Stopped st, x)
served (CallThen f args after) lines own x = (mode.Call f args (line_at lines ∷ inner_of own lines) false, with_frame (frame.Native (native.Waits after lines x.call)) (crossed x))
served a lines own x = (mode.Give [], x)
