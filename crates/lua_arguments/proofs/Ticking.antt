-- Instructions in a row.
use Rattle.std.proofs.Common.{◌≡◌, zero, suc, ℕ, ◌+◌, ◌-◌, ◌<◌, ◌≤◌, true, false, refl, ap, ◌∙◌, sym, add-zero, inl, inr, arith}
use Rattle.std.proofs.lemmas.Bool.{ne_eqb}
use Rattle.std.proofs.lemmas.Bool.Decides.{eqb_tells}
use Rattle.lua_values.specs.Walks.{ticked_by, spent}
use Rattle.zc_budget.specs.Used.{is_spent, ticked}
use Rattle.zc_budget.specs.declared.budget.Stop.TheVariants as stop
use Rattle.lua_meaning.specs.Heap.{HeapOf}
use Rattle.lua_meaning.specs.Jobs.{Stopped}
use Rattle.lua_arguments.specs.Answering.{Calling}
use Rattle.lua_arguments.specs.Spending.{ticks}

pub ticks_stop : (n : ℕ) (next : Calling) (h : HeapOf) → 0 < n → is_spent h.used ≡ true → ticks n next h ≡ (Stopped stop.Instructions, h)
ticks_stop zero next h some spent = absurd (omega (arith, some))
ticks_stop (suc n) next h some spent = rw spent refl

pub ticks_go : (n : ℕ) (next : Calling) (h : HeapOf) → 0 < n → is_spent h.used ≡ false → ticks n next h ≡ ticks (n - 1) next (record h { used = ticked h.used })
ticks_go zero next h some left = absurd (omega (arith, some))
ticks_go (suc n) next h some left = let e : suc n - 1 ≡ n = omega arith in rw e (rw left refl)

-- where enough of them are left
pub ticks_enough : (n : ℕ) (next : Calling) (h : HeapOf) → h.used.instructions + n ≤ h.used.most_instructions → ticks n next h ≡ next (record h { used = ticked_by n h.used })
ticks_enough zero next h enough = ap (λ (i : ℕ). next (record h { used = record h.used { instructions = i } })) (sym (add-zero h.used.instructions))
ticks_enough (suc n) next h enough =
    let left : is_spent h.used ≡ false = ne_eqb h.used.instructions h.used.most_instructions (λ e. absurd (omega (arith, e, enough))) in
    let more : h.used.instructions + 1 + n ≤ h.used.most_instructions = omega (arith, enough) in
    let same : h.used.instructions + 1 + n ≡ h.used.instructions + suc n = omega arith in
    rw left (ticks_enough n next (record h { used = ticked h.used }) more ∙ ap (λ (i : ℕ). next (record h { used = record h.used { instructions = i } })) same)

-- where too few are left
pub ticks_short : (n : ℕ) (next : Calling) (h : HeapOf) → h.used.instructions ≤ h.used.most_instructions → h.used.most_instructions < h.used.instructions + n → ticks n next h ≡ (Stopped stop.Instructions, record h { used = spent h.used })
ticks_short zero next h within short = absurd (omega (arith, within, short))
ticks_short (suc n) next h within short = elim (eqb_tells h.used.instructions h.used.most_instructions) [
  | inl e ↦ rw (e.0) (ap (λ (i : ℕ). (Stopped stop.Instructions, record h { used = record h.used { instructions = i } })) e.1)
  | inr e ↦
      let apart = e.1 in
      let less : h.used.instructions + 1 ≤ h.used.most_instructions = omega (arith, within, apart) in
      let more : h.used.most_instructions < h.used.instructions + 1 + n = omega (arith, short) in
      rw (e.0) (ticks_short n next (record h { used = ticked h.used }) less more)
]
