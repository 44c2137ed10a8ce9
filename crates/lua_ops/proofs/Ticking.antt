-- Instructions in a row.
use Rattle.std.proofs.Common.{◌≡◌, zero, suc, ℕ, ◌-◌, ◌<◌, true, false, refl, arith}
use Rattle.zc_budget.specs.Used.{is_spent, ticked}
use Rattle.zc_budget.specs.declared.budget.Stop.TheVariants as stop
use Rattle.lua_meaning.specs.Heap.{HeapOf}
use Rattle.lua_meaning.specs.Operators.{Op, Stopped, op_ticks}

pub ticks_stop : (n : ℕ) (k : Op) (h : HeapOf) → 0 < n → is_spent h.used ≡ true → op_ticks n k h ≡ (Stopped stop.Instructions, h)
ticks_stop zero k h some spent = absurd (omega (arith, some))
ticks_stop (suc n) k h some spent = rw spent refl

pub ticks_go : (n : ℕ) (k : Op) (h : HeapOf) → 0 < n → is_spent h.used ≡ false → op_ticks n k h ≡ op_ticks (n - 1) k (record h { used = ticked h.used })
ticks_go zero k h some left = absurd (omega (arith, some))
ticks_go (suc n) k h some left = let e : suc n - 1 ≡ n = omega arith in rw e (rw left refl)
