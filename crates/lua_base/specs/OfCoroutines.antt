-- The functions of `coroutine` (Lua 5.2 manual, 6.2), as the main thread sees them. There is no other coroutine yet: the main thread runs, so that no resumption finds one suspended and no yield is in one.
-- This project's own: the texts of errors, and that none is made yet.
use Rattle.std.specs.Prelude.{ℕ, ◌==◌, false, List, [], ◌∷◌, codes, slice_get}
use Rattle.lua_meaning.specs.declared.builtin.Builtin.TheVariants as builtin
use Rattle.lua_meaning.specs.declared.value.Value.{Value}
use Rattle.lua_meaning.specs.declared.value.Value.TheVariants as value
use Rattle.lua_meaning.specs.declared.status.CoStatus.{CoStatus}
use Rattle.lua_meaning.specs.declared.status.CoStatus.TheVariants as status
use Rattle.lua_meaning.specs.Heap.{text_bytes}
use Rattle.lua_meaning.specs.Threads.{status_in}
use Rattle.lua_coroutines.specs.Threads.{ThreadsOf}
use Rattle.lua_arguments.specs.Answering.{Calling, gives_values, gives_text, raises_at}
use Rattle.lua_arguments.specs.Spending.{charges}
use Rattle.lua_arguments.specs.Arguments.{thread_argument}
use Rattle.lua_arguments.specs.BadArguments.{with_argument}

-- `coroutine.create` and `coroutine.wrap`
abbrev pub makes_coroutine : (lines : List ℕ) → Calling
makes_coroutine lines = raises_at lines (codes "coroutines are not built yet")

abbrev pub resume_text : List ℕ
resume_text = codes "cannot resume non-suspended coroutine"

-- `coroutine.resume`: false and a text, which comes to be
abbrev pub refuses_to_resume : Calling
refuses_to_resume = charges (text_bytes resume_text) (gives_values (value.Bool false ∷ value.Text resume_text ∷ []))

abbrev pub resume_call : List Value → (lines : List ℕ) → Calling
resume_call args lines = with_argument 1 builtin.CoroutineResume lines (thread_argument args 0) (λ i. refuses_to_resume)

abbrev pub yield_call : (lines : List ℕ) → Calling
yield_call lines = raises_at lines (codes "attempt to yield from outside a coroutine")

-- the coroutine that runs, and whether it is the main thread
abbrev pub running_call : ThreadsOf → Calling
running_call c = gives_values (value.Thread c.running ∷ value.Bool (c.running == 0) ∷ [])

abbrev pub status_text : CoStatus → List ℕ
status_text status.Running = codes "running"
status_text status.Suspended = codes "suspended"
status_text status.Normal = codes "normal"
status_text status.Dead = codes "dead"

abbrev pub status_call : ThreadsOf → List Value → (lines : List ℕ) → Calling
status_call c args lines = with_argument 1 builtin.CoroutineStatus lines (thread_argument args 0) (λ i. gives_text (status_text (status_in (slice_get c.threads i))))
