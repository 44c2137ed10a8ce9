-- Which bytes are a token of which kind, and which stand between tokens (Lua 5.2 manual, section 3.1).
use Rattle.std.specs.Prelude.{◌≡◌, ◌≢◌, ℕ, ◌≤◌, ◌+◌, IsTrue, Bool, true, All, List, [], ◌∷◌, Some, None, length, drop, slice_index}
use Rattle.lua_lexer.specs.declared.token.TokenKind.{TokenKind}
use Rattle.lua_lexer.specs.declared.token.TokenKind.TheVariants.{Name, Text, Numeral}
use Rattle.lua_lexer.specs.declared.quoted.Part.TheVariants.{Close}
use Rattle.lua_lexer.specs.Bytes.{is_blank, is_name_start, is_name_byte, is_in_line, is_quote}
use Rattle.lua_lexer.specs.Spelling.{spelling}
use Rattle.lua_lexer.specs.Numerals.{IsNumeral, value_as}
use Rattle.lua_lexer.specs.Escapes.{Parts, part_at}
use Rattle.lua_lexer.specs.Brackets.{IsLong, bracket_level}

-- a letter or `_`, and then letters, digits and `_`
abbrev pub IsWord : List ℕ → Type 0
IsWord [] = ⊥
IsWord (b ∷ rest) = IsTrue (is_name_start b) × All (λ c. IsTrue (is_name_byte c)) rest

-- a quote, whole parts up to a place, and there the same quote, which ends it; the parts stand for the bytes v
pub record IsQuoted (place : ℕ) (v s : List ℕ) : Type 0 where
  pub begins : is_quote (slice_index s 0) ≡ true
  pub parts : Parts (slice_index s 0) s 1 place v
  pub closed : part_at (slice_index s 0) (drop place s) ≡ Close
  pub whole : length s ≡ place + 1

-- these bytes are a token of this kind
pub data Spells (k : TokenKind) (s : List ℕ) : Type 0 where
  fixed : spelling k ≡ Some s → Spells k s
  name : k ≡ Name → IsWord s → ((j : TokenKind) → spelling j ≢ Some s) → Spells k s
  numeral : (hex : Bool) → k ≡ Numeral → IsNumeral hex s → value_as hex s ≤ 9223372036854775807 → Spells k s
  quoted : (place : ℕ) (v : List ℕ) → k ≡ Text → IsQuoted place v s → Spells k s
  long : (level n : ℕ) → k ≡ Text → IsLong level n s → Spells k s

-- these bytes stand between tokens: a blank, a comment to the end of the line, or a long comment
pub data IsGap (s : List ℕ) : Type 0 where
  blank : (b : ℕ) → s ≡ b ∷ [] → is_blank b ≡ true → IsGap s
  line_comment : (c : List ℕ) → s ≡ 45 ∷ 45 ∷ c → All (λ b. IsTrue (is_in_line b)) c → bracket_level c ≡ None → IsGap s
  long_comment : (level n : ℕ) (c : List ℕ) → s ≡ 45 ∷ 45 ∷ c → IsLong level n c → IsGap s
