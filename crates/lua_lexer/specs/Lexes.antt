-- The tokens of a text, and the refusal of a text that has none.
use Rattle.std.specs.Prelude.{◌≡◌, ◌≢◌, ℕ, ◌+◌, ◌-◌, ◌<◌, ◌≤◌, ◌==◌, ◌||◌, Bool, true, false, List, [], ◌∷◌, Some, length, take, drop, count_by, slice_index}
use Rattle.lua_lexer.specs.declared.token.TokenKind.{TokenKind}
use Rattle.lua_lexer.specs.declared.token.Token.{Token as TokenAt}
use Rattle.lua_lexer.specs.declared.piece.Fault.{Fault}
use Rattle.lua_lexer.specs.declared.piece.Fault.TheVariants.{BadByte, OpenString, OpenComment, BadEscape, NotWhole, TooBig}
use Rattle.lua_lexer.specs.declared.piece.Piece.{Piece}
use Rattle.lua_lexer.specs.declared.piece.Piece.TheVariants.{Nothing, Gap, Token, Refused}
use Rattle.lua_lexer.specs.declared.quoted.Part.TheVariants.{Unclosed, Bad}
use Rattle.lua_lexer.specs.declared.lex_error.LexError.{LexError}
use Rattle.lua_lexer.specs.declared.lex_error.LexError.TheVariants as errors
use Rattle.std.specs.Char.{is_ascii_digit}
use Rattle.lua_lexer.specs.Bytes.{is_newline, is_name_start, is_exponent, is_digit, is_quote}
use Rattle.lua_lexer.specs.Numerals.{IsNumeral, value_as, is_hexadecimal}
use Rattle.lua_lexer.specs.Escapes.{Parts, part_at}
use Rattle.lua_lexer.specs.Brackets.{bracket_level}
use Rattle.lua_lexer.specs.Spells.{Spells, IsGap}

-- What stands at the front of the rest of a text is malformed: its first n bytes, with this fault, which lies this far on.
-- The bytes reach as far as to tell it from what is well formed: `3.` is longer than the numeral `3`, and `[[a]]` is
-- longer than the `[[` of a text that isn't closed. So the longest that fits is what stands there.
pub data IsMalformed (rest : List ℕ) (n : ℕ) (f : Fault) (offset : ℕ) : Type 0 where
  -- a numeral with a point or an exponent: its digits and the point, or the letter of the exponent
  not_whole : (hex : Bool) (m : ℕ) → n ≡ m + 1 → f ≡ NotWhole → offset ≡ 0 → IsNumeral hex (take m rest) → (slice_index rest m == 46 || is_exponent hex (slice_index rest m)) ≡ true → IsMalformed rest n f offset
  -- a numeral that begins with its point
  point_first : n ≡ 2 → f ≡ NotWhole → offset ≡ 0 → slice_index rest 0 ≡ 46 → is_ascii_digit (slice_index rest 1) ≡ true → IsMalformed rest n f offset
  -- a numeral that is too large
  too_big : (hex : Bool) → n ≤ length rest → f ≡ TooBig → offset ≡ 0 → IsNumeral hex (take n rest) → 9223372036854775807 < value_as hex (take n rest) → IsMalformed rest n f offset
  -- a letter or `_` right behind a numeral, which is no exponent and with the numeral no `0x`
  letter : (hex : Bool) (m : ℕ) → n ≡ m + 1 → f ≡ BadByte → offset ≡ m → IsNumeral hex (take m rest) → value_as hex (take m rest) ≤ 9223372036854775807 → is_name_start (slice_index rest m) ≡ true → is_exponent hex (slice_index rest m) ≡ false → is_digit hex (slice_index rest m) ≡ false → (n ≡ 2 → is_hexadecimal rest ≡ false) → IsMalformed rest n f offset
  -- `0x` without a digit
  no_digit : n ≡ 2 → f ≡ BadByte → offset ≡ 2 → is_hexadecimal rest ≡ true → IsMalformed rest n f offset
  -- a text in quotes whose parts meet a newline or the end
  open_text : (v : List ℕ) → f ≡ OpenString → offset ≡ 0 → is_quote (slice_index rest 0) ≡ true → Parts (slice_index rest 0) rest 1 n v → part_at (slice_index rest 0) (drop n rest) ≡ Unclosed → IsMalformed rest n f offset
  -- a text in quotes whose parts meet a backslash that begins no escape sequence
  bad_escape : (v : List ℕ) → f ≡ BadEscape → offset ≡ n → is_quote (slice_index rest 0) ≡ true → Parts (slice_index rest 0) rest 1 n v → part_at (slice_index rest 0) (drop n rest) ≡ Bad → IsMalformed rest n f offset
  -- the first of a pair of long brackets
  open_bracket : (level : ℕ) → n ≡ level + 2 → f ≡ OpenString → offset ≡ 0 → bracket_level rest ≡ Some level → IsMalformed rest n f offset
  -- the first of a pair of long brackets behind two dashes
  open_comment : (level : ℕ) (c : List ℕ) → n ≡ level + 4 → f ≡ OpenComment → offset ≡ 0 → rest ≡ 45 ∷ 45 ∷ c → bracket_level c ≡ Some level → IsMalformed rest n f offset

-- the first n bytes of the rest of a text are a token, or stand between tokens, or are malformed
pub data Fits (rest : List ℕ) (n : ℕ) (p : Piece) : Type 0 where
  token : (k : TokenKind) → p ≡ Token k n → n ≤ length rest → Spells k (take n rest) → Fits rest n p
  gap : p ≡ Gap n → n ≤ length rest → IsGap (take n rest) → Fits rest n p
  malformed : (f : Fault) (offset : ℕ) → p ≡ Refused f offset → IsMalformed rest n f offset → Fits rest n p

-- what stands at the front of the rest of a text: the longest that fits; a byte where nothing does is a bad byte
pub data Stands (rest : List ℕ) (p : Piece) : Type 0 where
  end : p ≡ Nothing → rest ≡ [] → Stands rest p
  longest : (n : ℕ) → Fits rest n p → ((m : ℕ) (q : Piece) → Fits rest m q → m ≤ n) → Stands rest p
  no_piece : p ≡ Refused BadByte 0 → rest ≢ [] → ((m : ℕ) (q : Piece) → Fits rest m q → ⊥) → Stands rest p

-- the line of a place, from 1
abbrev pub line_at : List ℕ → ℕ → ℕ
line_at text at = 1 + count_by is_newline (take at text)

abbrev pub token_at : List ℕ → ℕ → TokenKind → ℕ → TokenAt
token_at text at k n = record { kind = k; start = at; end = at + n; line = line_at text at }

abbrev pub refusal : Fault → ℕ → LexError
refusal BadByte at = errors.BadByte at
refusal OpenString at = errors.OpenString at
refusal OpenComment at = errors.OpenComment at
refusal BadEscape at = errors.BadEscape at
refusal NotWhole at = errors.NotWhole at
refusal TooBig at = errors.TooBig at

-- from this place on the text is these tokens, with blanks and comments between them
pub data LexesFrom (text : List ℕ) : ℕ → List TokenAt → Type 0 where
  done : {at : ℕ} → Stands (drop at text) Nothing → LexesFrom text at []
  gap : {at : ℕ} {ts : List TokenAt} (n : ℕ) → Stands (drop at text) (Gap n) → LexesFrom text (at + n) ts → LexesFrom text at ts
  token : {at : ℕ} {ts : List TokenAt} (k : TokenKind) (n : ℕ) → Stands (drop at text) (Token k n) → LexesFrom text (at + n) ts → LexesFrom text at (token_at text at k n ∷ ts)

-- from this place on the text is tokens, blanks and comments up to a place that is refused so
pub data FailsFrom (text : List ℕ) (e : LexError) : ℕ → Type 0 where
  here : {at : ℕ} (f : Fault) (offset : ℕ) → Stands (drop at text) (Refused f offset) → e ≡ refusal f (at + offset) → FailsFrom text e at
  behind_gap : {at : ℕ} (n : ℕ) → Stands (drop at text) (Gap n) → FailsFrom text e (at + n) → FailsFrom text e at
  behind_token : {at : ℕ} (k : TokenKind) (n : ℕ) → Stands (drop at text) (Token k n) → FailsFrom text e (at + n) → FailsFrom text e at

-- the bytes of a token
abbrev pub slice_of : List ℕ → TokenAt → List ℕ
slice_of text t = take (t.end - t.start) (drop t.start text)

-- the bytes of a token are a token of its kind
abbrev pub IsSpelled : List ℕ → TokenAt → Type 0
IsSpelled text t = Spells t.kind (slice_of text t)

-- it has a byte, and ends within the text
abbrev pub IsWithinText : List ℕ → TokenAt → Type 0
IsWithinText text t = (t.start < t.end) × (t.end ≤ length text)

-- its line is that of its first byte
abbrev pub IsOnLine : List ℕ → TokenAt → Type 0
IsOnLine text t = t.line ≡ line_at text t.start

-- the tokens stand one behind another from a place on, within this length, and each has a byte
abbrev pub IsInOrder : (from len : ℕ) → List TokenAt → Type 0
IsInOrder from len [] = from ≤ len
IsInOrder from len (t ∷ ts) = (from ≤ t.start) × (t.start < t.end) × IsInOrder t.end len ts

-- the place of a refusal
abbrev pub place_of : LexError → ℕ
place_of errors.NoMemory = 0
place_of (errors.BadByte at) = at
place_of (errors.OpenString at) = at
place_of (errors.OpenComment at) = at
place_of (errors.BadEscape at) = at
place_of (errors.NotWhole at) = at
place_of (errors.TooBig at) = at

-- the text has these tokens
abbrev pub Lexes : List ℕ → List TokenAt → Type 0
Lexes text ts = LexesFrom text 0 ts

-- the text is refused so
abbrev pub LexFails : List ℕ → LexError → Type 0
LexFails text e = FailsFrom text e 0

-- the answer is the text's refusal, or memory was wanting, of which nothing is said
abbrev pub IsRefusal : List ℕ → LexError → Type 0
IsRefusal text errors.NoMemory = Unit {0}
IsRefusal text e = LexFails text e
