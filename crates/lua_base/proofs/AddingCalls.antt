-- Basic functions, and those of `coroutine`, only add to the heap.
use Rattle.std.proofs.Common.{ℕ, List, [], ◌∷◌}
use Rattle.std.specs.Prelude.{codes, ◌==◌, false, slice_get}
use Rattle.lua_meaning.specs.declared.builtin.Builtin.TheVariants as builtin
use Rattle.lua_meaning.specs.declared.value.Value.{Value}
use Rattle.lua_meaning.specs.declared.value.Value.TheVariants as value
use Rattle.lua_meaning.specs.Heap.{text_bytes}
use Rattle.lua_meaning.specs.Threads.{status_in}
use Rattle.lua_coroutines.specs.Threads.{ThreadsOf}
use Rattle.lua_arguments.specs.Answering.{gives_values}
use Rattle.lua_arguments.specs.Arguments.{thread_argument}
use Rattle.lua_arguments.specs.Extending.{OnlyAdds}
use Rattle.lua_arguments.proofs.Adding.{charges_add, gives_text_adds, raises_at_adds, with_argument_adds}
use Rattle.lua_base.specs.declared.function.BaseFunction.{BaseFunction}
use Rattle.lua_base.specs.declared.function.BaseFunction.TheVariants as base
use Rattle.lua_base.specs.declared.function.CoroutineFunction.{CoroutineFunction}
use Rattle.lua_base.specs.declared.function.CoroutineFunction.TheVariants as coroutines
use Rattle.lua_base.specs.OfCoroutines.{resume_text, refuses_to_resume, resume_call, status_text, status_call}
use Rattle.lua_base.specs.BaseCalls.{coroutine_call, base_call}
use Rattle.lua_base.proofs.AddingValues.{gives_add, value_adds}
use Rattle.lua_base.proofs.AddingTables.{table_adds}

refuses_add : OnlyAdds refuses_to_resume
refuses_add = charges_add (text_bytes resume_text) (gives_values (value.Bool false ∷ value.Text resume_text ∷ [])) (gives_add (value.Bool false ∷ value.Text resume_text ∷ []))

coroutine_adds : (f : CoroutineFunction) (c : ThreadsOf) (args : List Value) (lines : List ℕ) → OnlyAdds (coroutine_call f c args lines)
coroutine_adds coroutines.Create c args lines = raises_at_adds lines (codes "coroutines are not built yet")
coroutine_adds coroutines.Wrap c args lines = raises_at_adds lines (codes "coroutines are not built yet")
coroutine_adds coroutines.Resume c args lines = with_argument_adds 1 builtin.CoroutineResume lines (thread_argument args 0) (λ i. refuses_to_resume) (λ i. refuses_add)
coroutine_adds coroutines.Yield c args lines = raises_at_adds lines (codes "attempt to yield from outside a coroutine")
coroutine_adds coroutines.Running c args lines = gives_add (value.Thread c.running ∷ value.Bool (c.running == 0) ∷ [])
coroutine_adds coroutines.Status c args lines = with_argument_adds 1 builtin.CoroutineStatus lines (thread_argument args 0) _ (λ i. gives_text_adds (status_text (status_in (slice_get c.threads i))))

pub base_adds : (f : BaseFunction) (c : ThreadsOf) (args : List Value) (lines : List ℕ) → OnlyAdds (base_call f c args lines)
base_adds (base.OfValues f) c args lines = value_adds f args lines
base_adds (base.OfTables f) c args lines = table_adds f args lines
base_adds (base.OfCoroutines f) c args lines = coroutine_adds f c args lines
