-- Locals declared in turn: the first, and what follows it.
use Rattle.std.proofs.Common.{◌≡◌, ◌+◌, ◌-◌, ◌<◌, ℕ, zero, suc, List, drop, true, false, refl, ap, sym, ◌∙◌, arith}
use Rattle.lua_meaning.specs.declared.value.Value.{Value}
use Rattle.lua_meaning.specs.Values.{first}
use Rattle.lua_meaning.specs.Heap.{HeapOf}
use Rattle.lua_meaning.specs.Code.{Code}
use Rattle.lua_meaning.specs.Locals.{Locals}
use Rattle.lua_values.specs.Ids.{ids_of, AreLater}
use Rattle.lua_steps.specs.Configuration.{Configuration, with_heap, with_locals}
use Rattle.lua_steps.specs.Own.{AreOf}
use Rattle.lua_steps.specs.Effects.{declared, declared_if, declared_all}
use Rattle.lua_steps.proofs.OwnGiven.{drop_own}
use Rattle.lua_steps.proofs.Later.{values_later}

module _ (code : Code) where
  pub goes_on : (v n : ℕ) (xs : List Value) (h : HeapOf) (ls : Locals) → 0 < n → (declared code v (first xs) h ls).done ≡ true →
      declared_all code v n xs h ls ≡ declared_all code (v + 1) (n - 1) (drop 1 xs) (declared code v (first xs) h ls).heap (declared code v (first xs) h ls).locals
  goes_on v zero xs h ls more e = absurd (omega (arith, more))
  goes_on v (suc n) xs h ls more e =
      let one : suc n - 1 ≡ n = omega arith in
      rw one (ap (λ b. declared_if code b (declared code v (first xs) h ls) (λ h ls. declared_all code (v + 1) n (drop 1 xs) h ls)) e)

  pub stops : (v n : ℕ) (xs : List Value) (h : HeapOf) (ls : Locals) → 0 < n → (declared code v (first xs) h ls).done ≡ false →
      declared_all code v n xs h ls ≡ declared code v (first xs) h ls
  stops v zero xs h ls more e = absurd (omega (arith, more))
  stops v (suc n) xs h ls more e = ap (λ b. declared_if code b (declared code v (first xs) h ls) (λ h ls. declared_all code (v + 1) n (drop 1 xs) h ls)) e

  pub ends : (v n : ℕ) (xs : List Value) (h : HeapOf) (ls : Locals) → n ≡ 0 → declared_all code v n xs h ls ≡ record { done = true; heap = h; locals = ls }
  ends v zero xs h ls none = refl
  ends v (suc n) xs h ls none = absurd (omega (arith, none))

-- what is left of values is of a later heap
pub left_own : (h k : HeapOf) (vs : List Value) → AreLater (ids_of h) (ids_of k) → AreOf (ids_of h) vs → AreOf (ids_of k) (drop 1 vs)
left_own h k vs later own = values_later (ids_of h) (ids_of k) later (drop 1 vs) (drop_own (ids_of h) 1 vs own)

-- a change of the heap and the locals behind another is one of the heap and the locals alone
pub others : (x y z : Configuration) (h : HeapOf) (ls : Locals) → y ≡ with_heap y.heap (with_locals y.call.locals x) → z ≡ with_heap h (with_locals ls y) →
    z ≡ with_heap z.heap (with_locals z.call.locals x)
others x y z h ls e f = f ∙ ap (λ w. with_heap h (with_locals ls w)) e ∙ ap (λ w. with_heap w.heap (with_locals w.call.locals x)) (sym f)
