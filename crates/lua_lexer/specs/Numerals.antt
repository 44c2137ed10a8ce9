-- Numerals and what they are (Lua 5.2 manual, section 3.1).
use Rattle.std.specs.Prelude.{ℕ, ◌+◌, ◌*◌, ◌-◌, ◌<◌, ◌==◌, Bool, true, false, IsTrue, All, nat_le, List, length, drop, fold, Option, Some, None, slice_index, if◌then◌else◌, ◌&&◌}
use Rattle.lua_lexer.specs.Bytes.{is_digit}

-- what the digit stands for
abbrev pub digit_of : ℕ → ℕ
digit_of b = if nat_le b 57 then b - 48 else (if nat_le b 70 then b - 55 else b - 87)

-- the number that the digits are to the base, behind digits that are v
abbrev pub value_from : ℕ → ℕ → List ℕ → ℕ
value_from base v ds = fold (λ v d. v * base + digit_of d) v ds

unfoldable pub value : ℕ → List ℕ → ℕ
value base ds = value_from base 0 ds

abbrev pub base_of : (hex : Bool) → ℕ
base_of true = 16
base_of false = 10

-- the digits begin behind `0x`
abbrev pub lead_of : (hex : Bool) → ℕ
lead_of true = 2
lead_of false = 0

-- begins with `0x`
abbrev pub is_hexadecimal : List ℕ → Bool
is_hexadecimal s = slice_index s 0 == 48 && slice_index s 1 == 120

abbrev pub BeginsAs : (hex : Bool) → List ℕ → Type 0
BeginsAs true s = IsTrue (is_hexadecimal s)
BeginsAs false s = Unit {0}

-- one or more digits, behind `0x` where it is hexadecimal
pub record IsNumeral (hex : Bool) (s : List ℕ) : Type 0 where
  pub begins : BeginsAs hex s
  pub some : lead_of hex < length s
  pub digits : All (λ c. IsTrue (is_digit hex c)) (drop (lead_of hex) s)

abbrev pub value_as : (hex : Bool) → List ℕ → ℕ
value_as hex s = value (base_of hex) (drop (lead_of hex) s)

-- the number that a numeral is
abbrev pub numeral_value : List ℕ → ℕ
numeral_value s = value_as (is_hexadecimal s) s

-- the number, if it isn't too large
abbrev pub up_to : ℕ → ℕ → Option ℕ
up_to most n = if nat_le n most then Some n else None
