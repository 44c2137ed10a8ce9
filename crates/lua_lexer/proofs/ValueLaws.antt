-- The values of texts and numerals are those of their parts.
use Rattle.std.proofs.Common.{◌≡◌, ℕ, ◌+◌, ◌-◌, ◌≤◌, List, [], ◌∷◌, length, take, drop, Option, Some, None, Bool, true, false, refl, ap, sym, subst, arith, ◌==◌}
use Rattle.std.specs.Prelude.{slice_index}
use Rattle.std.proofs.lemmas.Bool.Decides.{nat_tests}
use Rattle.lua_lexer.specs.declared.token.TokenKind.{TokenKind}
use Rattle.lua_lexer.specs.declared.token.TokenKind.TheVariants.{Numeral}
use Rattle.lua_lexer.specs.declared.quoted.Part.TheVariants.{Close}
use Rattle.lua_lexer.specs.Bytes.{is_quote}
use Rattle.lua_lexer.specs.Spelling.{spelling}
use Rattle.lua_lexer.specs.Numerals.{IsNumeral, value_as, is_hexadecimal, numeral_value}
use Rattle.lua_lexer.specs.Brackets.{bracket_level, IsLong}
use Rattle.lua_lexer.specs.Spells as spells
use Rattle.lua_lexer.specs.Spells.{Spells, IsQuoted}
use Rattle.lua_lexer.specs.Values.{text_value, quoted_value, without_newline}
use Rattle.lua_lexer.proofs.Cuts.{right}
use Rattle.lua_lexer.proofs.Forms.{bracket_level-first}
use Rattle.lua_lexer.proofs.TextTops.{stops, bytes-are}
use Rattle.lua_lexer.proofs.NumeralTops.{x_no_digit}

no_quote : (b : ℕ) → b ≡ 91 → is_quote b ≡ true → ⊥
no_quote b e h = grind (arith, nat_tests)

no-bracket_level : (s : List ℕ) (o : Option ℕ) → is_quote (slice_index s 0) ≡ true → bracket_level s ≡ o → o ≡ None
no-bracket_level s None h e = refl
no-bracket_level [] (Some level) h e = absurd cc
no-bracket_level (b ∷ rest) (Some level) h e = absurd (no_quote b (bracket_level-first b rest level e) h)

pub quoted-value : (s : List ℕ) (place : ℕ) (v : List ℕ) → IsQuoted place v s → text_value s ≡ v
unfolding text_value
quoted-value s place v h =
    let none : bracket_level s ≡ None = no-bracket_level s (bracket_level s) h.begins refl in
    let whole : v ≡ quoted_value s = bytes-are (length s + 1) (slice_index s 0) s 1 (omega arith) place v h.parts (stops _ Close h.closed tt) in
    rw none (sym whole)

pub long-value : (s : List ℕ) (level n : ℕ) → IsLong level n s → text_value s ≡ without_newline (take n (drop (level + 2) s))
unfolding text_value
long-value s level n h =
    let opens : bracket_level s ≡ Some level = h.opens in
    let whole : length s ≡ n + (level + 2) + (level + 2) = h.whole in
    let len : length s - (level + 2) - (level + 2) ≡ n = omega arith in
    rw opens (ap (λ (i : ℕ). without_newline (take i (drop (level + 2) s))) len)

decimal-second : (s : List ℕ) (t : Bool) → IsNumeral false s → is_hexadecimal s ≡ t → t ≡ false
decimal-second s false h e = refl
decimal-second [] true h e = absurd cc
decimal-second (a ∷ []) true h e = let second : false ≡ true = right (a == 48) false e in absurd cc
decimal-second (a ∷ b ∷ rest) true h e = absurd (x_no_digit b (right (a == 48) _ e) (h.digits 1 0 (omega arith)))

hex-of : (hex : Bool) (s : List ℕ) → IsNumeral hex s → is_hexadecimal s ≡ hex
hex-of true s h = h.begins
hex-of false s h = decimal-second s (is_hexadecimal s) h refl

pub numeral-value : (s : List ℕ) (hex : Bool) → IsNumeral hex s → numeral_value s ≡ value_as hex s
numeral-value s hex h = ap (λ (x : Bool). value_as x s) (hex-of hex s h)

pub numeral-small : (k : TokenKind) (s : List ℕ) → k ≡ Numeral → Spells k s → numeral_value s ≤ 9223372036854775807
numeral-small k s e (spells.fixed f) =
    let none : spelling Numeral ≡ Some s = subst (λ (j : TokenKind). spelling j ≡ Some s) e f in
    absurd cc
numeral-small k s e (spells.name kn w none) = absurd cc
numeral-small k s e (spells.numeral hex kn h v) = omega (arith, numeral-value s hex h)
numeral-small k s e (spells.quoted place v kn h) = absurd cc
numeral-small k s e (spells.long level n kn h) = absurd cc
