-- What is left of a number in 64 bits, and remainders by a divisor below zero.
use Rattle.std.proofs.Common.{◌≡◌, ◌∙◌, zero, suc, ◌*◌, ℤ, pos, negsuc, neg_ℤ, ◌-ℤ◌, ◌*ℤ◌, refl, ap, sym, arith}
use Rattle.std.specs.Int.{w64, cast_signed, int_wrap, int_rem_euclid, int_div_euclid}
use Rattle.std.specs.Prelude.{unsigned_abs, int_lt, false}
use Rattle.std.proofs.lemmas.Int.{ints}
use Rattle.lua_meaning.specs.Numbers.{floor_div}
use Rattle.std.proofs.Math.IntN.{zero-*ℤ, pos-*ℤ-pos, pos-*ℤ-negsuc, negsuc-*ℤ-pos, negsuc-*ℤ-negsuc, neg_ℤ-neg_ℤ}

pub wrap_is : (z r : ℤ) → r ≡ int_rem_euclid z (pos 18446744073709551616) → cast_signed w64 (unsigned_abs r) ≡ int_wrap w64 z
unfolding int_wrap
wrap_is z r e = ap (λ x. cast_signed w64 (unsigned_abs x)) e

neg_times : (y q : ℤ) → neg_ℤ y *ℤ q ≡ neg_ℤ (y *ℤ q)
neg_times (pos zero) q = zero-*ℤ q ∙ sym (ap neg_ℤ (zero-*ℤ q))
neg_times (pos (suc n)) (pos m) = negsuc-*ℤ-pos n m ∙ ap neg_ℤ (sym (pos-*ℤ-pos (suc n) m))
neg_times (pos (suc n)) (negsuc m) = negsuc-*ℤ-negsuc n m ∙ sym (neg_ℤ-neg_ℤ (pos (suc n * suc m))) ∙ ap neg_ℤ (sym (pos-*ℤ-negsuc (suc n) m))
neg_times (negsuc n) (pos m) = pos-*ℤ-pos (suc n) m ∙ sym (neg_ℤ-neg_ℤ (pos (suc n * m))) ∙ ap neg_ℤ (sym (negsuc-*ℤ-pos n m))
neg_times (negsuc n) (negsuc m) = pos-*ℤ-negsuc (suc n) m ∙ ap neg_ℤ (sym (negsuc-*ℤ-negsuc n m))

twice : (x z : ℤ) → neg_ℤ (neg_ℤ x -ℤ neg_ℤ z) ≡ x -ℤ z
twice x z = omega (arith, ints)

-- the remainder by a divisor below zero is that of both numbers turned, turned
pub turned : (x y turned_x turned_y r whole : ℤ) → int_lt (pos 0) y ≡ false → turned_x ≡ neg_ℤ x → turned_y ≡ neg_ℤ y → r ≡ turned_x -ℤ (turned_y *ℤ int_div_euclid turned_x turned_y) → whole ≡ neg_ℤ r → whole ≡ x -ℤ (y *ℤ floor_div x y)
turned x y turned_x turned_y r whole below ex ey er ew =
    let q = int_div_euclid (neg_ℤ x) (neg_ℤ y) in
    let e : r ≡ neg_ℤ x -ℤ neg_ℤ (y *ℤ q) = er ∙ ap (λ a. a -ℤ (turned_y *ℤ int_div_euclid a turned_y)) ex ∙ ap (λ b. neg_ℤ x -ℤ (b *ℤ int_div_euclid (neg_ℤ x) b)) ey ∙ ap (λ z. neg_ℤ x -ℤ z) (neg_times y q) in
    ew ∙ ap neg_ℤ e ∙ twice x (y *ℤ q) ∙ rw below refl
