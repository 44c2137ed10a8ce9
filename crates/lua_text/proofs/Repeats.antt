-- How long a repeated text is.
use Rattle.std.proofs.Common.{arith, ◌≡◌, ℕ, zero, suc, ◌+◌, ◌*◌, ◌-◌, ◌≤◌, ◌<◌, ◌^◌, ◌∙◌, List, ◌++◌, length, refl, sym, ap}
use Rattle.std.proofs.lemmas.List.{length-append, append_assoc}
use Rattle.std.proofs.Math.Nat.{mul-le-mul_left, mul-le-mul_right}
use Rattle.lua_text.specs.Repeating.{repeated}

added : (n a b : ℕ) → suc n * a + (suc n - 1) * b + (b + a) ≡ suc (suc n) * a + (suc (suc n) - 1) * b
added n a b = let one : suc n - 1 ≡ n = omega arith in let two : suc (suc n) - 1 ≡ suc n = omega arith in rw one (rw two (omega arith))

pub length_repeated : (n : ℕ) (s separator : List ℕ) → length (repeated n s separator) ≡ n * length s + (n - 1) * length separator
unfolding repeated
length_repeated zero s separator = omega arith
length_repeated (suc zero) s separator = omega arith
length_repeated (suc (suc n)) s separator =
    let before : length (repeated (suc n) s separator) ≡ suc n * length s + (suc n - 1) * length separator = length_repeated (suc n) s separator in
    let tail : length (separator ++ s) ≡ length separator + length s = length-append separator s in
    let whole : length (repeated (suc n) s separator ++ (separator ++ s)) ≡ length (repeated (suc n) s separator) + length (separator ++ s) = length-append (repeated (suc n) s separator) (separator ++ s) in
    whole ∙ (rw before (rw tail (added n (length s) (length separator))))

mul_below : (n a m b : ℕ) → n ≤ m → a ≤ b → n * a ≤ m * b
mul_below n a m b le le' = let one : n * a ≤ n * b = mul-le-mul_left n le' in let two : n * b ≤ m * b = mul-le-mul_right b le in omega (arith, one, two)

pub product_fits : (n a : ℕ) → n < 2 ^ 32 → a < 2 ^ 63 → n * a < 2 ^ 127
product_fits n a hn ha = let le : n * a ≤ 2 ^ 32 * 2 ^ 63 = mul_below n a (2 ^ 32) (2 ^ 63) (omega (arith, hn)) (omega (arith, ha)) in omega (arith, le)

pub no_time : (n : ℕ) (s separator : List ℕ) → n ≡ 0 → 0 ≡ length (repeated n s separator)
no_time n s separator e = let here : length (repeated n s separator) ≡ n * length s + (n - 1) * length separator = length_repeated n s separator in let none : length (repeated n s separator) ≡ 0 = here ∙ (rw e (omega arith)) in sym none

pub first_time : (n : ℕ) (s separator made : List ℕ) → n ≡ 0 → made ≡ repeated n s separator → made ++ s ≡ repeated (n + 1) s separator
unfolding repeated
first_time zero s separator made e same = rw same refl
first_time (suc n) s separator made e same = absurd (omega (arith, e))

pub next_time : (n : ℕ) (s separator made : List ℕ) → 0 < n → made ≡ repeated n s separator → (made ++ separator) ++ s ≡ repeated (n + 1) s separator
unfolding repeated
next_time zero s separator made lt same = absurd (omega (arith, lt))
next_time (suc n) s separator made lt same = let e : suc (suc n) ≡ suc n + 1 = omega arith in append_assoc made separator s ∙ (ap (λ xs. xs ++ (separator ++ s)) same ∙ ap (λ m. repeated m s separator) e)
