-- Totals over views, and numbers in lists.
use Rattle.std.proofs.Common.{◌≡◌, ◌≢◌, ℕ, zero, suc, ◌+◌, ◌≤◌, eqb, true, false, List, [], ◌∷◌, set, refl, ap, sym, arith, ne_eqb, eq-eqb}
use mathlib.Core.Option.{some, some-injective, some-ne-none}
use mathlib.Core.Logic.{dite}
use native.Mathlib.Decide.{ℕ_discrete}
use lib.ListN.{get_elem?}
use Rattle.turn_lock.specs.Entries.{times, below}
use Rattle.turn_lock.specs.Rule.{sum_over}

module _ {V : Type 0} (f : V → ℕ) where
  pub total_set : (vs : List V) (i : ℕ) (v w : V) → get_elem? vs i ≡ some v → sum_over f (set vs i w) + f v ≡ sum_over f vs + f w
  total_set [] i v w e = absurd (some-ne-none v (sym e))
  total_set (x ∷ xs) zero v w e = let s = ap f (some-injective x v e) in omega arith
  total_set (x ∷ xs) (suc i) v w e = let s = total_set xs i v w e in omega arith

  pub same_total : (vs : List V) (i : ℕ) (v w : V) → get_elem? vs i ≡ some v → f w ≡ f v → sum_over f (set vs i w) ≡ sum_over f vs
  same_total vs i v w e same = let s = total_set vs i v w e in omega arith

  pub part_of : (vs : List V) (i : ℕ) (v : V) → get_elem? vs i ≡ some v → f v ≤ sum_over f vs
  part_of [] i v e = absurd (some-ne-none v (sym e))
  part_of (x ∷ xs) zero v e = let s = ap f (some-injective x v e) in omega arith
  part_of (x ∷ xs) (suc i) v e = let s = part_of xs i v e in omega arith

  pub two_of : (vs : List V) (i j : ℕ) (v w : V) → j ≢ i → get_elem? vs i ≡ some v → get_elem? vs j ≡ some w → f v + f w ≤ sum_over f vs
  two_of [] i j v w n e d = absurd (some-ne-none v (sym e))
  two_of (x ∷ xs) zero zero v w n e d = absurd (n refl)
  two_of (x ∷ xs) zero (suc j) v w n e d = let s = ap f (some-injective x v e) in let p = part_of xs j w d in omega arith
  two_of (x ∷ xs) (suc i) zero v w n e d = let s = ap f (some-injective x w d) in let p = part_of xs i v e in omega arith
  two_of (x ∷ xs) (suc i) (suc j) v w n e d = let p = two_of xs i j v w (λ h. n (ap suc h)) e d in omega arith

pub total_le : {V : Type 0} (f g : V → ℕ) (vs : List V) → ((j : ℕ) (v : V) → get_elem? vs j ≡ some v → f v ≤ g v) → sum_over f vs ≤ sum_over g vs
total_le f g [] h = omega arith
total_le f g (x ∷ xs) h = let a = h 0 x refl in let b = total_le f g xs (λ j v e. h (suc j) v e) in omega arith

pub times_high : (k n : ℕ) → n ≤ k → times k (below n) ≡ 0
times_high k zero h = refl
times_high k (suc n) h = let ne : eqb n k ≡ false = ne_eqb n k (λ e. omega arith) in rw (ne, times_high k n (omega arith))

pub times_once : (k n : ℕ) → times k (below n) ≤ 1
times_once k zero = omega arith
times_once k (suc n) = dite (ℕ_discrete n k)
    (λ e. let yes : eqb n k ≡ true = eq-eqb n k e in let z = times_high k n (omega arith) in rw yes (omega arith))
    (λ e. let no : eqb n k ≡ false = ne_eqb n k e in let z = times_once k n in rw no (omega arith))
