-- Numbers, and texts that count as numbers (Lua 5.2 manual, 3.4.1 and 3.4.2).
-- This project's own: numbers are whole and of 64 signed bits, sums and products wrap, quotients are rounded down, powers are whole, and a text counts as a number where it is a numeral of these, with blanks and a sign or none.
use Rattle.std.specs.Prelude.{ℕ, ◌+◌, ◌-◌, ◌*◌, ℤ, pos, negsuc, neg_ℤ, ◌+ℤ◌, ◌-ℤ◌, ◌*ℤ◌, int_lt, Bool, ◌&&◌, ◌||◌, ◌==◌, nat_le, nat_lt, if◌then◌else◌, List, [], ◌∷◌, take, drop, reverse, bytes_eq, codes, Option, Some, None, option_map}
use Rattle.std.specs.Ordering.{int_eq}
use Rattle.std.specs.Int.{w64, int_wrap, int_div_euclid, int_wrapping_pow}
use Rattle.std.specs.Fmt.{signed_decimal}
use Rattle.lua_ast.specs.declared.node.BinOp.{BinOp}
use Rattle.lua_ast.specs.declared.node.BinOp.TheVariants as bin
use Rattle.lua_meaning.specs.declared.value.Value.{Value}
use Rattle.lua_meaning.specs.declared.value.Value.TheVariants as value

-- space, and the bytes from tab to carriage return
abbrev pub is_blank : ℕ → Bool
is_blank b = b == 32 || (nat_le 9 b && nat_le b 13)

abbrev pub behind_blanks : List ℕ → List ℕ
behind_blanks [] = []
behind_blanks (b ∷ bs) = if is_blank b then behind_blanks bs else (b ∷ bs)

abbrev pub without_blanks : List ℕ → List ℕ
without_blanks s = reverse (behind_blanks (reverse (behind_blanks s)))

-- what a digit or letter stands for; 36 for other bytes
abbrev pub digit : ℕ → ℕ
digit b =
    if nat_le 48 b && nat_le b 57 then b - 48 else
    (if nat_le 97 b && nat_le b 122 then b - 87 else
    (if nat_le 65 b && nat_le b 90 then b - 55 else 36))

-- the number that further digits make of n
abbrev pub number_behind : (base n : ℕ) → List ℕ → Option ℕ
number_behind base n [] = Some n
number_behind base n (b ∷ bs) = if nat_lt (digit b) base then number_behind base (n * base + digit b) bs else None

-- the number that digits, one or more, are to the base
abbrev pub number_of : (base : ℕ) → List ℕ → Option ℕ
number_of base [] = None
number_of base (b ∷ bs) = number_behind base 0 (b ∷ bs)

abbrev pub in_range : Option ℕ → Option ℤ
in_range None = None
in_range (Some n) = if nat_le n 9223372036854775807 then Some (pos n) else None

-- the number of a numeral in range
abbrev pub numeral : List ℕ → Option ℤ
numeral s = in_range (if bytes_eq (take 2 s) (codes "0x") then number_of 16 (drop 2 s) else number_of 10 s)

-- a sign or none, and a numeral in range without it
abbrev pub signed : List ℕ → Option ℤ
signed s =
    if bytes_eq (take 1 s) (codes "-") then option_map neg_ℤ (numeral (drop 1 s)) else
    (if bytes_eq (take 1 s) (codes "+") then numeral (drop 1 s) else numeral s)

-- what counts as a number in arithmetic: a number, or a text that without the blanks at its ends is a sign or none and a numeral
abbrev pub to_int : Value → Option ℤ
to_int (value.Int z) = Some z
to_int (value.Text s) = signed (without_blanks s)
to_int _ = None

-- what counts as a text where one is wanted
abbrev pub as_text : Value → Option (List ℕ)
as_text (value.Text s) = Some s
as_text (value.Int z) = Some (signed_decimal z)
as_text _ = None

-- the number of 64 signed bits that has the same lowest 64 bits
abbrev pub wrapped : ℤ → ℤ
wrapped = int_wrap w64

-- it has 64 signed bits
abbrev pub fits : ℤ → Bool
fits z = int_eq z (wrapped z)

-- the quotient, rounded down
abbrev pub floor_div : ℤ → ℤ → ℤ
floor_div x y = if int_lt (pos 0) y then int_div_euclid x y else int_div_euclid (neg_ℤ x) (neg_ℤ y)

-- two operands that count as numbers
pub data Numbers : Type 0 where
  both : ℤ → ℤ → Numbers
  not_both : Numbers

abbrev pub two_ints : Option ℤ → Option ℤ → Numbers
two_ints (Some x) (Some y) = both x y
two_ints _ _ = not_both

abbrev pub numbers : Value → Value → Numbers
numbers a b = two_ints (to_int a) (to_int b)

-- what an operator on numbers comes to: a number, or the text of the error
pub data Worked : Type 0 where
  number : ℤ → Worked
  refused : List ℕ → Worked

-- 0 ^ 0 is 1
abbrev pub power : ℤ → ℤ → Worked
power x (pos n) = number (int_wrapping_pow w64 x n)
power x (negsuc n) = refused (codes "negative exponent")

-- a quotient or remainder, where the divisor isn't zero
abbrev pub divided : (by value : ℤ) → Worked
divided y z = if int_eq y (pos 0) then refused (codes "attempt to divide by zero") else number (wrapped z)

-- an arithmetic operator on numbers; the remainder is that of the quotient rounded down
abbrev pub work_out : BinOp → ℤ → ℤ → Worked
work_out bin.Add x y = number (wrapped (x +ℤ y))
work_out bin.Sub x y = number (wrapped (x -ℤ y))
work_out bin.Mul x y = number (wrapped (x *ℤ y))
work_out bin.Div x y = divided y (floor_div x y)
work_out bin.Mod x y = divided y (x -ℤ (y *ℤ floor_div x y))
work_out bin.Pow x y = power x y
work_out _ x y = number x
