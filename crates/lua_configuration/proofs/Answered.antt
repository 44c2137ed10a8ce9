-- An operator's answer, told of the answer with its heap.
use Rattle.std.proofs.Common.{◌≡◌, ℕ, List, refl, IfOk, Result, Ok, Err}
use Rattle.lua_meaning.specs.Heap.{HeapOf}
use Rattle.lua_meaning.specs.Operators.{Op, op_fails}
use Rattle.zc_io.specs.declared.memory.NoMemory.{NoMemory}
use Rattle.lua_steps.specs.declared.mode.Mode.{Mode}
use Rattle.lua_steps.specs.Configuration.{Configuration, Next, with_heap}
use Rattle.lua_steps.specs.Effects.{ended_as, failing}
use Rattle.lua_ops.specs.declared.result.OpResult.{OpResult}
use Rattle.lua_ops.specs.declared.result.OpResult.TheVariants as result
use Rattle.lua_ops.specs.Answers.{IsOpAnswer}
use Rattle.lua_configuration.specs.Answers.{IsAnswer}

pub is_answer : (op : Op) (before : HeapOf) (r : OpResult) (after : HeapOf) → IsOpAnswer op before r after → IsAnswer (op before) r after
is_answer op before (result.Done v) after a = a
is_answer op before (result.Meta f args negated) after a = a
is_answer op before (result.Raise v) after a = a
is_answer op before (result.Stop s) after a = a
is_answer op before result.NoMemory after a = tt

-- an error that was raised is what failing comes to
pub failed : (x : Configuration) (lines text : List ℕ) (out : Result Mode NoMemory) (h : HeapOf) →
    IfOk out (λ m. (m ≡ ended_as (op_fails lines text x.heap).0) × (h ≡ (op_fails lines text x.heap).1)) → IfOk out (λ m. ◌≡◌ {A = Next} (m, with_heap h x) (failing lines text x))
failed x lines text (Ok m) h p = rw p.0 (rw p.1 refl)
failed x lines text (Err e) h p = tt
