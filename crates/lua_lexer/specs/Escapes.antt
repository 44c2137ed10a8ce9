-- What stands for a byte in a text between quotes (Lua 5.2 manual, section 3.1).
use Rattle.std.specs.Prelude.{ℕ, ◌+◌, ◌*◌, ◌==◌, ◌&&◌, ◌≡◌, ◌<◌, ◌≤◌, nat_lt, List, [], ◌∷◌, Option, Some, None, take, drop, if◌then◌else◌}
use Rattle.std.specs.List.{prefix_len}
use Rattle.std.specs.Char.{is_ascii_digit, is_ascii_hexdigit}
use Rattle.lua_lexer.specs.declared.quoted.Part.{Part}
use Rattle.lua_lexer.specs.declared.quoted.Part.TheVariants.{Close, Unclosed, Byte, Skip, Bad}
use Rattle.lua_lexer.specs.Bytes.{is_blank}
use Rattle.lua_lexer.specs.Numerals.{digit_of, value}

-- the byte that a backslash and this one byte stand for
unfoldable pub escaped : ℕ → Option ℕ
escaped c =
    if c == 97 then Some 7
    else (if c == 98 then Some 8
    else (if c == 102 then Some 12
    else (if c == 110 then Some 10
    else (if c == 114 then Some 13
    else (if c == 116 then Some 9
    else (if c == 118 then Some 11
    else (if c == 92 then Some 92
    else (if c == 34 then Some 34
    else (if c == 39 then Some 39
    else (if c == 10 then Some 10
    else None))))))))))

-- behind `\x`: two hexadecimal digits
abbrev pub hex_escape : List ℕ → Part
hex_escape (a ∷ b ∷ more) = if is_ascii_hexdigit a && is_ascii_hexdigit b then Byte (16 * digit_of a + digit_of b) 4 else Bad
hex_escape _ = Bad

-- behind a backslash: one to three digits, as many as there are, up to 255
unfoldable pub decimal_escape : List ℕ → Part
decimal_escape xs =
    let n = prefix_len is_ascii_digit (take 3 xs) in
    if n == 0 then Bad else (if nat_lt 255 (value 10 (take n xs)) then Bad else Byte (value 10 (take n xs)) (n + 1))

abbrev pub escape_by : Option ℕ → List ℕ → Part
escape_by (Some b) xs = Byte b 2
escape_by None xs = decimal_escape xs

-- what stands behind a backslash; `\z` skips the blanks behind it
unfoldable pub escape : List ℕ → Part
escape [] = Unclosed
escape (c ∷ rest) =
    if c == 122 then Skip (prefix_len is_blank rest + 2)
    else (if c == 120 then hex_escape rest
    else escape_by (escaped c) (c ∷ rest))

-- what stands at the front of these bytes of a text in quotes q
unfoldable pub part_at : ℕ → List ℕ → Part
part_at q [] = Unclosed
part_at q (b ∷ rest) =
    if b == q then Close
    else (if b == 10 then Unclosed
    else (if b == 92 then escape rest
    else Byte b 1))

-- from this place on whole parts stand in s up to the place end; they stand for these bytes
pub data Parts (q : ℕ) (s : List ℕ) : (at end : ℕ) → List ℕ → Type 0 where
  none : {at : ℕ} → Parts q s at at []
  byte : {at end : ℕ} {v : List ℕ} (b n : ℕ) → part_at q (drop at s) ≡ Byte b n → Parts q s (at + n) end v → Parts q s at end (b ∷ v)
  skip : {at end : ℕ} {v : List ℕ} (n : ℕ) → part_at q (drop at s) ≡ Skip n → Parts q s (at + n) end v → Parts q s at end v

-- a part stays within a text of this length
abbrev pub IsPartWithin : ℕ → Part → Type 0
IsPartWithin len Close = 0 < len
IsPartWithin len Unclosed = Unit {0}
IsPartWithin len (Byte b n) = n ≤ len
IsPartWithin len (Skip n) = n ≤ len
IsPartWithin len Bad = Unit {0}
