-- Classes of bytes (Lua 5.2 manual, section 3.1).
use Rattle.std.specs.Prelude.{ℕ, ◌==◌, ◌&&◌, ◌||◌, Bool, true, false, not, nat_le}
use Rattle.std.specs.Char.{is_ascii_digit, is_ascii_alphabetic, is_ascii_hexdigit}

-- tab, newline, vertical tab, form feed, carriage return, space
abbrev pub is_blank : ℕ → Bool
is_blank b = (nat_le 9 b && nat_le b 13) || b == 32

-- a letter or `_`
abbrev pub is_name_start : ℕ → Bool
is_name_start b = is_ascii_alphabetic b || b == 95

abbrev pub is_name_byte : ℕ → Bool
is_name_byte b = is_ascii_alphabetic b || (is_ascii_digit b || b == 95)

abbrev pub is_quote : ℕ → Bool
is_quote b = b == 34 || b == 39

abbrev pub is_newline : ℕ → Bool
is_newline b = b == 10

abbrev pub is_in_line : ℕ → Bool
is_in_line b = not (b == 10)

abbrev pub is_equals_sign : ℕ → Bool
is_equals_sign b = b == 61

-- a digit of a hexadecimal or a decimal numeral
abbrev pub is_digit : (hex : Bool) → ℕ → Bool
is_digit true b = is_ascii_hexdigit b
is_digit false b = is_ascii_digit b

-- the letter that begins an exponent: `p` in a hexadecimal numeral, `e` in a decimal one
abbrev pub is_exponent : (hex : Bool) → ℕ → Bool
is_exponent true b = b == 80 || b == 112
is_exponent false b = b == 69 || b == 101
