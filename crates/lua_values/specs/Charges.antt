-- What a call of the heap charges before it makes something, and where nothing is made.
use Rattle.std.specs.Prelude.{◌≡◌, ℕ, true, false}
use Rattle.zc_budget.specs.Used.{is_over, charged}
use Rattle.zc_budget.specs.declared.budget.Stop.TheVariants as stop
use Rattle.lua_meaning.specs.Heap.{HeapOf}
use Rattle.lua_values.specs.declared.fault.HeapFault.{HeapFault}
use Rattle.lua_values.specs.declared.fault.HeapFault.TheVariants as fault

-- the heap when n bytes more are paid for
abbrev pub paid : (n : ℕ) → HeapOf → HeapOf
paid n h = record h { used = charged n h.used }

-- What costs n bytes wasn't made: they would have passed the limit, and the heap is as before; or memory was wanting, and they are paid for.
abbrev pub IsNotMade : (n : ℕ) (before : HeapOf) → HeapFault → (after : HeapOf) → Type 0
IsNotMade n before (fault.Stop s) after = (s ≡ stop.Memory) × (is_over n before.used ≡ true) × (after ≡ before)
IsNotMade n before fault.NoMemory after = (is_over n before.used ≡ false) × (after ≡ paid n before)
IsNotMade n before _ after = ⊥
