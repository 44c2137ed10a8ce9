-- What a machine has beside what it does next, but for the state of its host and its coroutines.
use Rattle.std.specs.Prelude.{ℕ, Bool, true, false, List, [], ◌∷◌, take}
use Rattle.zc_budget.specs.Used.{is_spent, ticked}
use Rattle.zc_budget.specs.declared.budget.Stop.TheVariants as stop
use Rattle.lua_meaning.specs.Heap.{HeapOf}
use Rattle.lua_meaning.specs.Store.{CallOf}
use Rattle.lua_meaning.specs.Locals.{Locals}
use Rattle.lua_coroutines.specs.declared.frame.Frame.{Frame}
use Rattle.lua_steps.specs.declared.mode.Mode.{Mode}
use Rattle.lua_steps.specs.declared.mode.Mode.TheVariants as mode
use Rattle.lua_steps.specs.declared.given.Given.{Given}
use Rattle.lua_steps.specs.declared.given.Given.TheVariants as given

-- `below` counts the calls in progress of the coroutines that wait for the running one. The frames have the top one first.
pub record Configuration : Type 0 where
  pub heap : HeapOf
  pub below : ℕ
  pub call : CallOf
  pub frames : List Frame

-- what a machine does next, and what it has then
abbrev pub Next : Type 0
Next = Mode × Configuration

abbrev pub with_heap : HeapOf → Configuration → Configuration
with_heap h x = record { heap = h; below = x.below; call = x.call; frames = x.frames }

abbrev pub with_call : CallOf → Configuration → Configuration
with_call c x = record { heap = x.heap; below = x.below; call = c; frames = x.frames }

abbrev pub with_frames : List Frame → Configuration → Configuration
with_frames fs x = record { heap = x.heap; below = x.below; call = x.call; frames = fs }

abbrev pub with_locals : Locals → Configuration → Configuration
with_locals ls x = with_call (record x.call { locals = ls }) x

abbrev pub with_frame : Frame → Configuration → Configuration
with_frame f x = with_frames (f ∷ x.frames) x

-- the first n locals stay
abbrev pub cut : ℕ → Configuration → Configuration
cut n x = with_locals (take n x.call.locals) x

-- an instruction more
abbrev pub with_tick : Configuration → Configuration
with_tick x = with_heap (record x.heap { used = ticked x.heap.used }) x

abbrev pub tick_by : Bool → (Configuration → Next) → Configuration → Next
tick_by true k x = (mode.Stopped stop.Instructions, x)
tick_by false k x = k (with_tick x)

-- one instruction, or a stop where none is left
abbrev pub ticking : (Configuration → Next) → Configuration → Next
ticking k x = tick_by (is_spent x.heap.used) k x

-- what becomes of a frame that was taken off
abbrev pub taken_up : Given → Configuration → Next
taken_up (given.Goes b) x = (b, x)
taken_up (given.Enters f b) x = (b, with_frame f x)
taken_up (given.Cuts n b) x = (b, cut n x)
taken_up (given.Returns call b) x = (b, with_call call x)
taken_up (given.Lands n f) x = (mode.Give [], with_frame f (cut n x))
