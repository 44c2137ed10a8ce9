-- What an operator answers, as a Rust value. Want of memory is no answer of an operator.
use Rattle.std.specs.Prelude.{◌≡◌, ⊤, Bool, List, All}
use Rattle.lua_meaning.specs.declared.value.Value.{Value}
use Rattle.lua_meaning.specs.Heap.{HeapOf}
use Rattle.lua_meaning.specs.Operators.{Op, Done, Meta, Raise, Stopped}
use Rattle.lua_values.specs.Ids.{Ids, IsOf}
use Rattle.lua_values.specs.declared.fault.HeapFault.{HeapFault}
use Rattle.lua_values.specs.declared.fault.HeapFault.TheVariants as fault
use Rattle.lua_ops.specs.declared.result.OpResult.{OpResult}
use Rattle.lua_ops.specs.declared.result.OpResult.TheVariants as result

-- the operator gives this answer, and leaves this heap
abbrev pub IsOpAnswer : Op → (before : HeapOf) → OpResult → (after : HeapOf) → Type 0
IsOpAnswer op before (result.Done v) after = op before ≡ (Done v, after)
IsOpAnswer op before (result.Meta f args negated) after = op before ≡ (Meta f args negated, after)
IsOpAnswer op before (result.Raise v) after = op before ≡ (Raise v, after)
IsOpAnswer op before (result.Stop s) after = op before ≡ (Stopped s, after)
IsOpAnswer op before result.NoMemory after = ⊤

-- every value of the answer is of the heap
abbrev pub IsOwnAnswer : Ids → OpResult → Type 0
IsOwnAnswer ids (result.Done v) = IsOf ids v
IsOwnAnswer ids (result.Meta f args negated) = IsOf ids f × All (IsOf ids) args
IsOwnAnswer ids (result.Raise v) = IsOf ids v
IsOwnAnswer ids _ = ⊤

-- the answer where something that a program pays for wasn't made
abbrev pub refused_as : HeapFault → OpResult
refused_as (fault.Stop s) = result.Stop s
refused_as _ = result.NoMemory

-- the answer is the call of this metamethod
abbrev pub IsCallOf : Value → List Value → Bool → OpResult → Type 0
IsCallOf f args negated result.NoMemory = ⊤
IsCallOf f args negated r = r ≡ result.Meta f args negated
