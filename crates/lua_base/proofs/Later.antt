-- What a heap has made is still there once more is paid for.
use Rattle.std.proofs.Common.{◌≡◌, ℕ, ◌≤◌, sym, subst}
use Rattle.std.proofs.Math.Nat.{le_refl}
use Rattle.lua_meaning.specs.Heap.{HeapOf}
use Rattle.lua_values.specs.Ids.{Ids, ids_of, AreLater}
use Rattle.lua_values.specs.Lending.{with_budget}

later_here : (i : Ids) → AreLater i i
later_here i = record { tables = le_refl i.tables; cells = le_refl i.cells; closures = le_refl i.closures; iters = le_refl i.iters; threads = le_refl i.threads }

pub later_used : (h k : HeapOf) → k ≡ with_budget h k.used → AreLater (ids_of h) (ids_of k)
later_used h k same = subst (λ (x : HeapOf). AreLater (ids_of h) (ids_of x)) (sym same) (later_here (ids_of h))
