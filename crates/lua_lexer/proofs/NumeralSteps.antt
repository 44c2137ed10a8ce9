-- Steps of the loop that reads digits.
use Rattle.std.proofs.Common.{◌≡◌, ℕ, ◌+◌, ◌*◌, ◌<◌, ◌≤◌, ◌-◌, ◌/◌, ◌⊎◌, inl, inr, List, [], ◌∷◌, length, drop, get_or, Some, None, arith, add-one, drop-cons}
use Rattle.std.proofs.lemmas.Grind.{common_steps}
use Rattle.lua_lexer.specs.Numerals.{value_from, value, digit_of, up_to}
use Rattle.lua_lexer.proofs.Drops.{drop-past}

le-mul : (v base : ℕ) → 0 < base → v ≤ v * base
le-mul v base h = grind arith

pub value_from-step : (base v i : ℕ) (xs : List ℕ) → i < length xs → value_from base v (drop i xs) ≡ value_from base (v * base + digit_of (get_or xs i 0)) (drop (i + 1) xs)
value_from-step base v i xs lt =
    let e : drop i xs ≡ (get_or xs i 0 ∷ drop (i + 1) xs) = rw (add-one, drop-cons xs i 0) in
    rw e

pub value_from-grows : (base v : ℕ) (xs : List ℕ) → 0 < base → v ≤ value_from base v xs
value_from-grows base v [] h = omega arith
value_from-grows base v (d ∷ xs) h =
    let rec : v * base + digit_of d ≤ value_from base (v * base + digit_of d) xs = value_from-grows base (v * base + digit_of d) xs h in
    let up : v ≤ v * base = le-mul v base h in
    omega (arith, rec, up)

-- the place of the loop, and a digit that would pass the greatest number
pub value_from-passes : (base v i most : ℕ) (xs : List ℕ) → 0 < base → i < length xs → most < v * base + digit_of (get_or xs i 0) → most < value_from base v (drop i xs)
value_from-passes base v i most xs b lt h =
    rw (value_from-step base v i xs lt) (omega (arith, value_from-grows base (v * base + digit_of (get_or xs i 0)) (drop (i + 1) xs) b))

divided : (v d most base : ℕ) → (base ≡ 10) ⊎ (base ≡ 16) → (most - d) / base < v → most < v * base + d
divided v d most base (inl e) h = let h' : (most - d) / 10 < v = rw e at h in rw e (omega arith)
divided v d most base (inr e) h = let h' : (most - d) / 16 < v = rw e at h in rw e (omega arith)

positive : (base : ℕ) → (base ≡ 10) ⊎ (base ≡ 16) → 0 < base
positive base (inl e) = omega arith
positive base (inr e) = omega arith

-- a digit that passes the greatest number
pub value_stops : (base v i most : ℕ) (xs : List ℕ) → (base ≡ 10) ⊎ (base ≡ 16) → i < length xs → (most - digit_of (get_or xs i 0)) / base < v → value_from base v (drop i xs) ≡ value_from base 0 xs → None ≡ up_to most (value base xs)
unfolding value
value_stops base v i most xs b lt h inv =
    let past : most < value_from base v (drop i xs) = value_from-passes base v i most xs (positive base b) lt (divided v (digit_of (get_or xs i 0)) most base b h) in
    let past' : most < value_from base 0 xs = rw inv at past in
    grind (arith, common_steps, past')

pub value_ends : (base v i most : ℕ) (xs : List ℕ) → length xs ≤ i → v ≤ most → value_from base v (drop i xs) ≡ value_from base 0 xs → Some v ≡ up_to most (value base xs)
unfolding value
value_ends base v i most xs h le inv =
    let e : v ≡ value_from base 0 xs = rw (drop-past i xs h) at inv in
    let le' : value_from base 0 xs ≤ most = omega (arith, e) in
    grind (arith, common_steps, le', e)
