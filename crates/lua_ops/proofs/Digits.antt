-- Numbers that further digits make.
use Rattle.std.proofs.Common.{◌≡◌, ◌∙◌, ℕ, suc, ◌+◌, ◌*◌, ◌<◌, ◌≤◌, List, [], ◌∷◌, length, drop, get_or, drop-cons, Option, None, Bool, true, false, refl, sym, ap, arith}
use Rattle.std.specs.Prelude.{nat_lt, nat_le, if◌then◌else◌}
use Rattle.std.proofs.Math.Nat.{mul-le-mul_left}
use Rattle.std.proofs.lemmas.Bool.{lt-ltb, leb-true, false_from_ne_true}
use Rattle.lua_meaning.specs.Numbers.{digit, number_behind, number_of, in_range}

if_digit : (b : Bool) (o : Option ℕ) → in_range o ≡ None → in_range (if b then o else None) ≡ None
if_digit true o e = e
if_digit false o e = refl

-- a number out of range stays so
pub too_great : (base n : ℕ) (ds : List ℕ) → 1 ≤ base → 9223372036854775807 < n → in_range (number_behind base n ds) ≡ None
too_great base n [] one great = let e : nat_le n 9223372036854775807 ≡ false = false_from_ne_true (nat_le n 9223372036854775807) (λ e. omega (arith, great, leb-true n 9223372036854775807 e)) in rw e refl
too_great base n (d ∷ ds) one great =
    let more : n * 1 ≤ n * base = mul-le-mul_left n one in
    if_digit (nat_lt (digit d) base) (number_behind base (n * base + digit d) ds) (too_great base (n * base + digit d) ds one (omega (arith, great, more)))

in_full : (base i : ℕ) (digits : List ℕ) → i < length digits → number_behind base 0 digits ≡ number_of base digits
in_full base i [] lt = absurd (omega (arith, lt))
in_full base i (d ∷ ds) lt = refl

-- a loop over digits passes the range
pub passed_range : (base n i : ℕ) (digits : List ℕ) → i < length digits → number_behind base n (drop i digits) ≡ number_behind base 0 digits → digit (get_or digits i 0) < base → 1 ≤ base → 9223372036854775807 < n * base + digit (get_or digits i 0) → None ≡ in_range (number_of base digits)
passed_range base n i digits lt same small one great = sym (ap in_range (sym (in_full base i digits lt) ∙ sym same ∙ step) ∙ too_great base (n * base + digit (get_or digits i 0)) (drop (suc i) digits) one great)
  where
    step : number_behind base n (drop i digits) ≡ number_behind base (n * base + digit (get_or digits i 0)) (drop (suc i) digits)
    step = let e : nat_lt (digit (get_or digits i 0)) base ≡ true = lt-ltb (digit (get_or digits i 0)) base small in rw (drop-cons digits i 0 lt) (rw e refl)
