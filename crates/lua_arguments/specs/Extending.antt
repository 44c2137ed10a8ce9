-- What the call of a built-in may do: it adds to the heap, keeps the limits, gives nothing back that was used, and lets no coroutine run.
use Rattle.std.specs.Prelude.{◌≡◌, ◌≤◌, ⊤}
use Rattle.zc_budget.specs.Used.{IsWithin}
use Rattle.lua_meaning.specs.Heap.{HeapOf}
use Rattle.lua_meaning.specs.Jobs.{Answer, Resume, Yield}
use Rattle.lua_values.specs.Ids.{ids_of, AreLater}
use Rattle.lua_arguments.specs.Answering.{Calling}

pub record Extends (before after : HeapOf) : Type 0 where
  pub most_instructions : after.used.most_instructions ≡ before.used.most_instructions
  pub most_bytes : after.used.most_bytes ≡ before.used.most_bytes
  pub instructions : before.used.instructions ≤ after.used.instructions
  pub bytes : before.used.bytes ≤ after.used.bytes
  pub within : IsWithin before.used → IsWithin after.used
  pub closures : after.closures ≡ before.closures
  pub threads : after.threads ≡ before.threads
  pub ids : AreLater (ids_of before) (ids_of after)

-- it neither resumes a coroutine nor yields
abbrev pub RunsNoCoroutine : Answer → Type 0
RunsNoCoroutine (Resume i args wrapped) = ⊥
RunsNoCoroutine (Yield vs) = ⊥
RunsNoCoroutine a = ⊤

pub record Adds (before : HeapOf) (a : Answer × HeapOf) : Type 0 where
  pub extends : Extends before a.1
  pub plain : RunsNoCoroutine a.0

abbrev pub OnlyAdds : Calling → Type 0
OnlyAdds calling = (h : HeapOf) → Adds h (calling h)
