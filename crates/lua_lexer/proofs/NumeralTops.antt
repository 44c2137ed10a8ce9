-- Numerals, and what is malformed like one, as the longest that fit.
use Rattle.std.proofs.Common.{◌≡◌, ℕ, ◌+◌, ◌-◌, ◌<◌, ◌≤◌, inl, inr, List, [], ◌∷◌, length, take, drop, Bool, true, false, refl, ap, sym, ◌∙◌, subst, arith, zero, suc, ◌==◌, ◌||◌, length-take, get_or, get_or-take}
use Rattle.std.specs.Prelude.{slice_index, All, IsTrue, ◌≢◌}
use Rattle.std.specs.List.{prefix_len}
use Rattle.std.specs.Char.{is_ascii_digit}
use Rattle.std.proofs.lemmas.Bool.Decides.{nat_tests, eqb_tells}
use Rattle.lua_lexer.specs.declared.piece.Piece.{Piece}
use Rattle.lua_lexer.specs.declared.piece.Piece.TheVariants as piece
use Rattle.lua_lexer.specs.declared.piece.Fault.TheVariants.{BadByte, NotWhole, TooBig}
use Rattle.std.proofs.lemmas.List.{length-drop, get_or-drop}
use Rattle.std.proofs.lemmas.List.Sums.{prefix_len-le-length, prefix_len_passes, prefix_len_stops}
use Rattle.std.specs.Prelude.{is_none}
use Rattle.lua_lexer.specs.declared.token.TokenKind.TheVariants.{Numeral}
use Rattle.lua_lexer.specs.Bytes.{is_digit, is_exponent, is_name_start}
use Rattle.lua_lexer.specs.Numerals.{IsNumeral, BeginsAs, value_as, is_hexadecimal, lead_of, up_to}
use Rattle.lua_lexer.specs.Spells as spells
use Rattle.lua_lexer.specs.Lexes as pieces
use Rattle.lua_lexer.specs.Lexes.{Fits}
use Rattle.lua_lexer.specs.Scan.{numeral, numeral_end, numeral_len}
use Rattle.lua_lexer.proofs.Words.{all-prefix, run_passes, prefix-cut}
use Rattle.lua_lexer.proofs.Cuts.{drop-cut, right, equal}
use Rattle.lua_lexer.proofs.Classes.{Digit, class-digit}
use Rattle.lua_lexer.proofs.Forms.{NumberForm, a_numeral, a_point, too_large, a_letter, a_lead}
use Rattle.lua_lexer.proofs.Tops.{Below, shorter, same, Read, topped, choose, form-at, at-most}

-- a numeral has no more bytes than the digits reach
numeral-within : (hex : Bool) (m : ℕ) (xs : List ℕ) → IsNumeral hex (take m xs) → m ≤ length xs → (lead_of hex < m) × (m ≤ numeral_len hex xs)
numeral-within hex m xs h le =
    let some : lead_of hex < length (take m xs) = h.some in
    let lead : lead_of hex < m = omega (arith, length-take m xs) in
    let run : prefix_len (is_digit hex) (drop (lead_of hex) (take m xs)) ≡ length (drop (lead_of hex) (take m xs)) = all-prefix (is_digit hex) _ h.digits in
    let cut : drop (lead_of hex) (take m xs) ≡ take (m - lead_of hex) (drop (lead_of hex) xs) = drop-cut (lead_of hex) m xs (omega arith) in
    let run' : prefix_len (is_digit hex) (take (m - lead_of hex) (drop (lead_of hex) xs)) ≡ length (take (m - lead_of hex) (drop (lead_of hex) xs)) = rw cut at run in
    (lead, omega (arith, length-take (m - lead_of hex) (drop (lead_of hex) xs), length-drop (lead_of hex) xs, prefix-cut (is_digit hex) (m - lead_of hex) (drop (lead_of hex) xs)))

-- where a byte that isn't 0 stands, the text goes on
pub goes-on : (p : ℕ → Bool) (xs : List ℕ) (m : ℕ) → p 0 ≡ false → p (slice_index xs m) ≡ true → m < length xs
goes-on p [] m z h = absurd cc
goes-on p (x ∷ xs) zero z h = omega arith
goes-on p (x ∷ xs) (suc m) z h = omega (arith, goes-on p xs m z h)

-- each byte behind the lead and before the end is a digit
digit-there : (hex : Bool) (m : ℕ) (xs : List ℕ) → lead_of hex ≤ m → m < numeral_len hex xs → is_digit hex (slice_index xs m) ≡ true
digit-there hex m xs lead lt =
    let e : lead_of hex + (m - lead_of hex) ≡ m = omega arith in
    let there : get_or (drop (lead_of hex) xs) (m - lead_of hex) 0 ≡ get_or xs (lead_of hex + (m - lead_of hex)) 0 = get_or-drop (lead_of hex) xs (m - lead_of hex) 0 in
    let passes : is_digit hex (get_or (drop (lead_of hex) xs) (m - lead_of hex) 0) ≡ true = prefix_len_passes (is_digit hex) (drop (lead_of hex) xs) (m - lead_of hex) 0 (omega arith) in
    subst (λ (i : ℕ). is_digit hex (get_or xs i 0) ≡ true) e (rw there at passes)

digit-stops : (hex : Bool) (xs : List ℕ) → lead_of hex ≤ length xs → numeral_len hex xs < length xs → is_digit hex (slice_index xs (numeral_len hex xs)) ≡ false
digit-stops hex xs lead lt =
    let there : get_or (drop (lead_of hex) xs) (prefix_len (is_digit hex) (drop (lead_of hex) xs)) 0 ≡ get_or xs (numeral_len hex xs) 0 = get_or-drop (lead_of hex) xs (prefix_len (is_digit hex) (drop (lead_of hex) xs)) 0 in
    rw there at (prefix_len_stops (is_digit hex) (drop (lead_of hex) xs) 0 (omega (arith, length-drop (lead_of hex) xs)))

digit-goes : (hex : Bool) (b : ℕ) → is_digit hex b ≡ true → (b == 46 || is_exponent hex b) ≡ false
digit-goes true b h = grind (arith, nat_tests)
digit-goes false b h = grind (arith, nat_tests)

letter-no-point : (hex : Bool) (b : ℕ) → is_name_start b ≡ true → is_exponent hex b ≡ false → (b == 46 || is_exponent hex b) ≡ false
letter-no-point true b h e = grind (arith, nat_tests)
letter-no-point false b h e = grind (arith, nat_tests)

zero-goes : (hex : Bool) → (0 == 46 || is_exponent hex 0) ≡ false
zero-goes true = refl
zero-goes false = refl

differ : (t : Bool) → t ≡ true → t ≡ false → ⊥
differ t a b = cc

-- what a form of a numeral of this base is, beside the numeral that the digits reach
pub data Digest (hex : Bool) (xs : List ℕ) (n : ℕ) (q : Piece) : Type 0 where
  less : n < numeral_len hex xs → Digest hex xs n q
  at_end : n ≡ numeral_len hex xs → q ≡ piece.Token Numeral n → value_as hex (take n xs) ≤ 9223372036854775807 → Digest hex xs n q
  at_point : n ≡ numeral_len hex xs + 1 → q ≡ piece.Refused NotWhole 0 → (slice_index xs (numeral_len hex xs) == 46 || is_exponent hex (slice_index xs (numeral_len hex xs))) ≡ true → Digest hex xs n q
  at_large : n ≡ numeral_len hex xs → q ≡ piece.Refused TooBig 0 → 9223372036854775807 < value_as hex (take n xs) → Digest hex xs n q
  at_letter : (m : ℕ) → m ≡ numeral_len hex xs → n ≡ m + 1 → q ≡ piece.Refused BadByte m → value_as hex (take m xs) ≤ 9223372036854775807 → is_name_start (slice_index xs m) ≡ true → is_exponent hex (slice_index xs m) ≡ false → Digest hex xs n q

-- what a form is to a numeral of this base: it has digits, or it is the lead alone, or it is one byte of the lead
pub data FormIs (hex : Bool) (xs : List ℕ) (n : ℕ) (q : Piece) : Type 0 where
  by_digits : lead_of hex < numeral_len hex xs → Digest hex xs n q → FormIs hex xs n q
  by_lead : hex ≡ true → n ≡ 2 → q ≡ piece.Refused BadByte 2 → FormIs hex xs n q
  one_byte : hex ≡ true → n ≤ 1 → FormIs hex xs n q

digest-numeral : (hex : Bool) (xs : List ℕ) (n : ℕ) (q : Piece) → q ≡ piece.Token Numeral n → n ≤ length xs → IsNumeral hex (take n xs) → value_as hex (take n xs) ≤ 9223372036854775807 → FormIs hex xs n q
digest-numeral hex xs n q e le h v =
    let w : (lead_of hex < n) × (n ≤ numeral_len hex xs) = numeral-within hex n xs h le in
    let some : lead_of hex < numeral_len hex xs = omega (arith, w.0, w.1) in
    elim (at-most n (numeral_len hex xs) w.1) [ inl lt ↦ by_digits some (less lt) | inr eq ↦ by_digits some (at_end eq e v) ]

digest-large : (hex : Bool) (xs : List ℕ) (n : ℕ) (q : Piece) → n ≤ length xs → q ≡ piece.Refused TooBig 0 → IsNumeral hex (take n xs) → 9223372036854775807 < value_as hex (take n xs) → FormIs hex xs n q
digest-large hex xs n q le e h v =
    let w : (lead_of hex < n) × (n ≤ numeral_len hex xs) = numeral-within hex n xs h le in
    let some : lead_of hex < numeral_len hex xs = omega (arith, w.0, w.1) in
    elim (at-most n (numeral_len hex xs) w.1) [ inl lt ↦ by_digits some (less lt) | inr eq ↦ by_digits some (at_large eq e v) ]

digest-point : (hex : Bool) (xs : List ℕ) (n m : ℕ) (q : Piece) → n ≡ m + 1 → q ≡ piece.Refused NotWhole 0 → IsNumeral hex (take m xs) → (slice_index xs m == 46 || is_exponent hex (slice_index xs m)) ≡ true → FormIs hex xs n q
digest-point hex xs n m q en e h t =
    let in_text : m < length xs = goes-on (λ (b : ℕ). b == 46 || is_exponent hex b) xs m (zero-goes hex) t in
    let w : (lead_of hex < m) × (m ≤ numeral_len hex xs) = numeral-within hex m xs h (omega arith) in
    let some : lead_of hex < numeral_len hex xs = omega (arith, w.0, w.1) in
    elim (at-most m (numeral_len hex xs) w.1) [
      | inl lt ↦ absurd (differ _ t (digit-goes hex (slice_index xs m) (digit-there hex m xs (omega (arith, w.0)) lt)))
      | inr eq ↦ by_digits some (at_point (omega arith) e (subst (λ (i : ℕ). (slice_index xs i == 46 || is_exponent hex (slice_index xs i)) ≡ true) eq t))
    ]

digest-letter : (hex : Bool) (xs : List ℕ) (n m : ℕ) (q : Piece) → n ≡ m + 1 → q ≡ piece.Refused BadByte m → IsNumeral hex (take m xs) → value_as hex (take m xs) ≤ 9223372036854775807 → is_name_start (slice_index xs m) ≡ true → is_exponent hex (slice_index xs m) ≡ false → is_digit hex (slice_index xs m) ≡ false → FormIs hex xs n q
digest-letter hex xs n m q en e h v s x d =
    let in_text : m < length xs = goes-on is_name_start xs m refl s in
    let w : (lead_of hex < m) × (m ≤ numeral_len hex xs) = numeral-within hex m xs h (omega arith) in
    let some : lead_of hex < numeral_len hex xs = omega (arith, w.0, w.1) in
    elim (at-most m (numeral_len hex xs) w.1) [
      | inl lt ↦ absurd (differ _ (digit-there hex m xs (omega (arith, w.0)) lt) d)
      | inr eq ↦ by_digits some (at_letter m eq en e v s x)
    ]

-- a text with the lead has no decimal numeral of more than one byte
pub x_no_digit : (c : ℕ) → (c == 120) ≡ true → is_ascii_digit c ≡ true → ⊥
x_no_digit c h d = grind (arith, nat_tests)

one-decimal : (m : ℕ) (xs : List ℕ) → is_hexadecimal xs ≡ true → IsNumeral false (take m xs) → m ≤ length xs → m ≡ 1
one-decimal zero xs x h le = let some : 0 < length (take zero xs) = h.some in absurd (omega (arith, length-take zero xs))
one-decimal (suc zero) xs x h le = refl
one-decimal (suc (suc m)) xs x h le =
    let d : is_ascii_digit (get_or (take (suc (suc m)) xs) 1 0) ≡ true = h.digits 1 0 (omega (arith, length-take (suc (suc m)) xs)) in
    absurd (x_no_digit _ (right (get_or xs 0 0 == 48) _ x) (rw (get_or-take (suc (suc m)) xs 1 0 (omega arith)) at d))

x_no_point : (c : ℕ) → (c == 120) ≡ true → (c == 46 || is_exponent false c) ≡ true → ⊥
x_no_point c h d = grind (arith, nat_tests)

hex-cut : (m : ℕ) (xs : List ℕ) → is_hexadecimal (take m xs) ≡ true → is_hexadecimal xs ≡ true
hex-cut zero xs h = absurd cc
hex-cut (suc zero) [] h = absurd cc
hex-cut (suc zero) (x ∷ xs) h = absurd (differ _ (right (x == 48) _ h) refl)
hex-cut (suc (suc m)) xs h = rw (get_or-take (suc (suc m)) xs 0 0 (omega arith), get_or-take (suc (suc m)) xs 1 0 (omega arith)) at h

form-false : (xs : List ℕ) (n : ℕ) (q : Piece) → is_hexadecimal xs ≡ false → NumberForm xs n q → FormIs false xs n q
form-false xs n q x (a_numeral true e le h v) = absurd (differ _ (hex-cut n xs h.begins) x)
form-false xs n q x (a_numeral false e le h v) = digest-numeral false xs n q e le h v
form-false xs n q x (a_point true m en e h t) = absurd (differ _ (hex-cut m xs h.begins) x)
form-false xs n q x (a_point false m en e h t) = digest-point false xs n m q en e h t
form-false xs n q x (too_large true le e h v) = absurd (differ _ (hex-cut n xs h.begins) x)
form-false xs n q x (too_large false le e h v) = digest-large false xs n q le e h v
form-false xs n q x (a_letter true m en e h v s i d w) = absurd (differ _ (hex-cut m xs h.begins) x)
form-false xs n q x (a_letter false m en e h v s i d w) = digest-letter false xs n m q en e h v s i d
form-false xs n q x (a_lead en e h) = absurd (differ _ h x)

form-true : (xs : List ℕ) (n : ℕ) (q : Piece) → is_hexadecimal xs ≡ true → NumberForm xs n q → FormIs true xs n q
form-true xs n q x (a_numeral true e le h v) = digest-numeral true xs n q e le h v
form-true xs n q x (a_numeral false e le h v) = one_byte refl (omega (arith, one-decimal n xs x h le))
form-true xs n q x (a_point true m en e h t) = digest-point true xs n m q en e h t
form-true xs n q x (a_point false m en e h t) =
    let in_text : m < length xs = goes-on (λ (b : ℕ). b == 46 || is_exponent false b) xs m refl t in
    let one : m ≡ 1 = one-decimal m xs x h (omega arith) in
    absurd (x_no_point _ (right (get_or xs 0 0 == 48) _ x) (subst (λ (i : ℕ). (slice_index xs i == 46 || is_exponent false (slice_index xs i)) ≡ true) one t))
form-true xs n q x (too_large true le e h v) = digest-large true xs n q le e h v
form-true xs n q x (too_large false le e h v) = one_byte refl (omega (arith, one-decimal n xs x h le))
form-true xs n q x (a_letter true m en e h v s i d w) = digest-letter true xs n m q en e h v s i d
form-true xs n q x (a_letter false m en e h v s i d w) =
    let in_text : m < length xs = goes-on is_name_start xs m refl s in
    let one : m ≡ 1 = one-decimal m xs x h (omega arith) in
    absurd (differ _ x (w (omega arith)))
form-true xs n q x (a_lead en e h) = by_lead refl en e

form-is : (hex : Bool) (xs : List ℕ) (n : ℕ) (q : Piece) → is_hexadecimal xs ≡ hex → NumberForm xs n q → FormIs hex xs n q
form-is true xs n q x f = form-true xs n q x f
form-is false xs n q x f = form-false xs n q x f

hex-lead : (hex : Bool) → hex ≡ true → lead_of hex ≡ 2
hex-lead true e = refl
hex-lead false e = absurd cc

is-none : (most v : ℕ) → is_none (up_to most v) ≡ true → most < v
is-none most v h = grind (arith, nat_tests)

is-some : (most v : ℕ) → is_none (up_to most v) ≡ false → v ≤ most
is-some most v h = grind (arith, nat_tests)

-- the digits reach further than the lead; the numeral there and the byte behind it decide
module _ (hex : Bool) (xs : List ℕ) (len : ℕ) (is_len : numeral_len hex xs ≡ len) (some : lead_of hex < len) where
  short-lead : hex ≡ true → 2 < len
  short-lead e = omega (arith, hex-lead hex e)

  no_letter : (m : ℕ) → (slice_index xs len == 46 || is_exponent hex (slice_index xs len)) ≡ true → m ≡ numeral_len hex xs → is_name_start (slice_index xs m) ≡ true → is_exponent hex (slice_index xs m) ≡ false → ⊥
  no_letter m t em s x = differ _ t (subst (λ (i : ℕ). (slice_index xs i == 46 || is_exponent hex (slice_index xs i)) ≡ false) (em ∙ is_len) (letter-no-point hex (slice_index xs m) s x))

  no_point : (slice_index xs len == 46 || is_exponent hex (slice_index xs len)) ≡ false → (slice_index xs (numeral_len hex xs) == 46 || is_exponent hex (slice_index xs (numeral_len hex xs))) ≡ true → ⊥
  no_point f t = differ _ (subst (λ (i : ℕ). (slice_index xs i == 46 || is_exponent hex (slice_index xs i)) ≡ true) is_len t) f

  value-at : (n : ℕ) → n ≡ numeral_len hex xs → value_as hex (take n xs) ≡ value_as hex (take len xs)
  value-at n e = ap (λ (i : ℕ). value_as hex (take i xs)) (e ∙ is_len)

  point-below : (slice_index xs len == 46 || is_exponent hex (slice_index xs len)) ≡ true → (n : ℕ) (q : Piece) → FormIs hex xs n q → Below n q (len + 1) (piece.Refused NotWhole 0)
  point-below t n q (by_digits has (less lt)) = shorter (omega arith)
  point-below t n q (by_digits has (at_end en e v)) = shorter (omega arith)
  point-below t n q (by_digits has (at_point en e i)) = same (omega arith) e
  point-below t n q (by_digits has (at_large en e v)) = shorter (omega arith)
  point-below t n q (by_digits has (at_letter m em en e v s x)) = absurd (no_letter m t em s x)
  point-below t n q (by_lead h en e) = shorter (omega (arith, short-lead h))
  point-below t n q (one_byte h le) = shorter (omega (arith, short-lead h))

  large-below : (slice_index xs len == 46 || is_exponent hex (slice_index xs len)) ≡ false → 9223372036854775807 < value_as hex (take len xs) → (n : ℕ) (q : Piece) → FormIs hex xs n q → Below n q len (piece.Refused TooBig 0)
  large-below f v n q (by_digits has (less lt)) = shorter (omega arith)
  large-below f v n q (by_digits has (at_end en e w)) = absurd (omega (arith, value-at n en))
  large-below f v n q (by_digits has (at_point en e i)) = absurd (no_point f i)
  large-below f v n q (by_digits has (at_large en e w)) = same (omega arith) e
  large-below f v n q (by_digits has (at_letter m em en e w s x)) = absurd (omega (arith, value-at m em))
  large-below f v n q (by_lead h en e) = shorter (omega (arith, short-lead h))
  large-below f v n q (one_byte h le) = shorter (omega (arith, short-lead h))

  letter-below : (slice_index xs len == 46 || is_exponent hex (slice_index xs len)) ≡ false → value_as hex (take len xs) ≤ 9223372036854775807 → (n : ℕ) (q : Piece) → FormIs hex xs n q → Below n q (len + 1) (piece.Refused BadByte len)
  letter-below f v n q (by_digits has (less lt)) = shorter (omega arith)
  letter-below f v n q (by_digits has (at_end en e w)) = shorter (omega arith)
  letter-below f v n q (by_digits has (at_point en e i)) = absurd (no_point f i)
  letter-below f v n q (by_digits has (at_large en e w)) = shorter (omega arith)
  letter-below f v n q (by_digits has (at_letter m em en e w s x)) = same (omega arith) (e ∙ ap (λ (i : ℕ). piece.Refused BadByte i) (em ∙ is_len))
  letter-below f v n q (by_lead h en e) = shorter (omega (arith, short-lead h))
  letter-below f v n q (one_byte h le) = shorter (omega (arith, short-lead h))

  numeral-below : (slice_index xs len == 46 || is_exponent hex (slice_index xs len)) ≡ false → value_as hex (take len xs) ≤ 9223372036854775807 → is_name_start (slice_index xs len) ≡ false → (n : ℕ) (q : Piece) → FormIs hex xs n q → Below n q len (piece.Token Numeral len)
  numeral-below f v l n q (by_digits has (less lt)) = shorter (omega arith)
  numeral-below f v l n q (by_digits has (at_end en e w)) = same (en ∙ is_len) (e ∙ ap (λ (i : ℕ). piece.Token Numeral i) (en ∙ is_len))
  numeral-below f v l n q (by_digits has (at_point en e i)) = absurd (no_point f i)
  numeral-below f v l n q (by_digits has (at_large en e w)) = absurd (omega (arith, value-at n en))
  numeral-below f v l n q (by_digits has (at_letter m em en e w s x)) = absurd (differ _ (subst (λ (i : ℕ). is_name_start (slice_index xs i) ≡ true) (em ∙ is_len) s) l)
  numeral-below f v l n q (by_lead h en e) = shorter (omega (arith, short-lead h))
  numeral-below f v l n q (one_byte h le) = shorter (omega (arith, short-lead h))

-- the digits that are reached are a numeral
begins-cut : (hex : Bool) (m : ℕ) (xs : List ℕ) → is_hexadecimal xs ≡ hex → lead_of hex < m → BeginsAs hex (take m xs)
begins-cut true m xs x lt = rw (get_or-take m xs 0 0 (omega arith), get_or-take m xs 1 0 (omega arith)) x
begins-cut false m xs x lt = tt

numeral-within-text : (hex : Bool) (xs : List ℕ) → lead_of hex < numeral_len hex xs → numeral_len hex xs ≤ length xs
numeral-within-text hex xs some = omega (arith, length-drop (lead_of hex) xs, prefix_len-le-length (is_digit hex) (drop (lead_of hex) xs))

reached : (hex : Bool) (xs : List ℕ) → is_hexadecimal xs ≡ hex → lead_of hex < numeral_len hex xs → IsNumeral hex (take (numeral_len hex xs) xs)
reached hex xs x some = record {
  begins = begins-cut hex (numeral_len hex xs) xs x some;
  some = omega (arith, length-take (numeral_len hex xs) xs, numeral-within-text hex xs some);
  digits = (let run : numeral_len hex xs - lead_of hex ≡ prefix_len (is_digit hex) (drop (lead_of hex) xs) = omega arith in
      let e : drop (lead_of hex) (take (numeral_len hex xs) xs) ≡ take (prefix_len (is_digit hex) (drop (lead_of hex) xs)) (drop (lead_of hex) xs) = drop-cut (lead_of hex) (numeral_len hex xs) xs (omega arith) ∙ ap (λ (i : ℕ). take i (drop (lead_of hex) xs)) run in
      subst (λ (s : List ℕ). All (λ c. IsTrue (is_digit hex c)) s) (sym e) (run_passes (is_digit hex) (drop (lead_of hex) xs)));
}

or-left : (s t : Bool) → (s || t) ≡ false → t ≡ false
or-left true t h = absurd cc
or-left false t h = h

two-is-decimal : (hex : Bool) (xs : List ℕ) (n : ℕ) → is_hexadecimal xs ≡ hex → lead_of hex < numeral_len hex xs → n ≡ numeral_len hex xs + 1 → n ≡ 2 → is_hexadecimal xs ≡ false
two-is-decimal true xs n x some en e = absurd (omega arith)
two-is-decimal false xs n x some en e = x

module _ (hex : Bool) (b : ℕ) (rest : List ℕ) (is_hex : is_hexadecimal (b ∷ rest) ≡ hex) (d : is_ascii_digit b ≡ true) where
  form-there : (n : ℕ) (q : Piece) → Fits (b ∷ rest) n q → FormIs hex (b ∷ rest) n q
  form-there n q f = form-is hex (b ∷ rest) n q is_hex (form-at Digit n b rest q (class-digit b d) f)

  module _ (some : lead_of hex < numeral_len hex (b ∷ rest)) where
    end-read : Read (b ∷ rest) (numeral_end hex (numeral_len hex (b ∷ rest)) (up_to 9223372036854775807 (value_as hex (take (numeral_len hex (b ∷ rest)) (b ∷ rest)))) (slice_index (b ∷ rest) (numeral_len hex (b ∷ rest))))
    unfolding numeral_end
    end-read = choose (b ∷ rest) _ _ _
        (λ t. topped (numeral_len hex (b ∷ rest) + 1) (record {
          fits = pieces.malformed NotWhole 0 refl (pieces.not_whole hex (numeral_len hex (b ∷ rest)) refl refl refl (reached hex (b ∷ rest) is_hex some) t);
          top = λ n q f. point-below hex (b ∷ rest) _ refl some t n q (form-there n q f);
          forward = tt;
        }))
        (λ f. choose (b ∷ rest) _ _ _
        (λ large. topped (numeral_len hex (b ∷ rest)) (record {
          fits = pieces.malformed TooBig 0 refl (pieces.too_big hex (numeral-within-text hex (b ∷ rest) some) refl refl (reached hex (b ∷ rest) is_hex some) (is-none _ _ large));
          top = λ n q g. large-below hex (b ∷ rest) _ refl some f (is-none _ _ large) n q (form-there n q g);
          forward = tt;
        }))
        (λ small. choose (b ∷ rest) _ _ _
        (λ l. topped (numeral_len hex (b ∷ rest) + 1) (record {
          fits = pieces.malformed BadByte (numeral_len hex (b ∷ rest)) refl (pieces.letter hex (numeral_len hex (b ∷ rest)) refl refl refl (reached hex (b ∷ rest) is_hex some) (is-some _ _ small) l (or-left _ _ f) (digit-stops hex (b ∷ rest) (omega (arith, numeral-within-text hex (b ∷ rest) some)) (goes-on is_name_start (b ∷ rest) _ refl l)) (two-is-decimal hex (b ∷ rest) _ is_hex some refl));
          top = λ n q g. letter-below hex (b ∷ rest) _ refl some f (is-some _ _ small) n q (form-there n q g);
          forward = tt;
        }))
        (λ l. topped (numeral_len hex (b ∷ rest)) (record {
          fits = pieces.token Numeral refl (numeral-within-text hex (b ∷ rest) some) (spells.numeral hex refl (reached hex (b ∷ rest) is_hex some) (is-some _ _ small));
          top = λ n q g. numeral-below hex (b ∷ rest) _ refl some f (is-some _ _ small) l n q (form-there n q g);
          forward = omega arith;
        }))))

-- `0x` without a digit
lead-below : (xs : List ℕ) (n : ℕ) (q : Piece) → numeral_len true xs ≡ 2 → FormIs true xs n q → Below n q 2 (piece.Refused BadByte 2)
lead-below xs n q len (by_digits has d) = absurd (omega arith)
lead-below xs n q len (by_lead h en e) = same en e
lead-below xs n q len (one_byte h le) = shorter (omega arith)

no-digits : (hex : Bool) (b : ℕ) (rest : List ℕ) → is_hexadecimal (b ∷ rest) ≡ hex → is_ascii_digit b ≡ true → numeral_len hex (b ∷ rest) ≡ lead_of hex → Read (b ∷ rest) (piece.Refused BadByte (numeral_len hex (b ∷ rest)))
no-digits true b rest x d len = rw len (topped 2 (record {
  fits = pieces.malformed BadByte 2 refl (pieces.no_digit refl refl refl x);
  top = λ n q f. lead-below (b ∷ rest) n q len (form-there true b rest x d n q f);
  forward = tt;
}))
no-digits false b rest x d len = absurd (omega (arith, (let one : 0 < numeral_len false (b ∷ rest) = rw d (omega arith) in one)))

test-is : (a c : ℕ) → (a == c) ≡ true → a ≡ c
test-is a c h = equal a c h

more-digits : (hex : Bool) (xs : List ℕ) → (numeral_len hex xs == lead_of hex) ≡ false → lead_of hex < numeral_len hex xs
more-digits hex xs h = elim (eqb_tells (numeral_len hex xs) (lead_of hex)) [
  | inl a ↦ absurd (differ _ a.0 h)
  | inr a ↦ (let differs : numeral_len hex xs ≢ lead_of hex = a.1 in omega arith)
]

numeral-by : (hex : Bool) (b : ℕ) (rest : List ℕ) → is_hexadecimal (b ∷ rest) ≡ hex → is_ascii_digit b ≡ true → Read (b ∷ rest) (numeral hex (b ∷ rest))
unfolding numeral
numeral-by hex b rest x d = choose (b ∷ rest) _ _ _
    (λ h. no-digits hex b rest x d (test-is _ _ h))
    (λ h. end-read hex b rest x d (more-digits hex (b ∷ rest) h))

pub numeral-read : (b : ℕ) (rest : List ℕ) → is_ascii_digit b ≡ true → Read (b ∷ rest) (numeral (is_hexadecimal (b ∷ rest)) (b ∷ rest))
numeral-read b rest d = numeral-by (is_hexadecimal (b ∷ rest)) b rest refl d
