-- The definitions worked out at a few texts.
use Rattle.std.proofs.Common.{◌≡◌, refl}
use Rattle.std.specs.Prelude.{codes, Some, None}
use Rattle.lua_lexer.specs.declared.token.TokenKind.TheVariants.{And, Concat, Text, Name}
use Rattle.lua_lexer.specs.declared.piece.Fault.TheVariants.{BadByte, OpenString, OpenComment, BadEscape, NotWhole, TooBig}
use Rattle.lua_lexer.specs.declared.piece.Piece.TheVariants.{Gap, Token, Refused}
use Rattle.lua_lexer.specs.declared.quoted.Part.TheVariants.{Byte, Bad}
use Rattle.lua_lexer.specs.Numerals.{value, numeral_value}
use Rattle.lua_lexer.specs.Escapes.{escaped, decimal_escape, escape, part_at}
use Rattle.lua_lexer.specs.Brackets.{bracket_level, closes}
use Rattle.lua_lexer.specs.Values.{text_value, bytes_from}
use Rattle.lua_lexer.specs.Lexes.{Stands}
use Rattle.lua_lexer.specs.Scan.{scan, word_kind, late_kind, symbol, numeral, numeral_end, closing, quoted_from, dots}
use Rattle.lua_lexer.proofs.Sound.{stands}

decimal-number : numeral_value (codes "0120") ≡ 120
unfolding value
decimal-number = refl

hexadecimal-number : numeral_value (codes "0x1fA") ≡ 506
unfolding value
hexadecimal-number = refl

three-digits : escape (codes "0655") ≡ Byte 65 4
unfolding escape escaped decimal_escape value
three-digits = refl

past-a-byte : escape (codes "256") ≡ Bad
unfolding escape escaped decimal_escape value
past-a-byte = refl

level-two : bracket_level (codes "[==[x") ≡ Some 2
unfolding bracket_level
level-two = refl

no-bracket : bracket_level (codes "[==x") ≡ None
unfolding bracket_level
no-bracket = refl

long-text-value : text_value (codes "[=[a]]b]=]") ≡ codes "a]]b"
unfolding text_value bracket_level
long-text-value = refl

quoted-text-value : text_value (codes "'a\\z  \\x41'") ≡ codes "aA"
unfolding text_value bracket_level bytes_from part_at escape escaped
quoted-text-value = refl

two-dots : Stands (codes "..a") (Token Concat 2)
unfolding scan dots
two-dots = stands (codes "..a")

a-keyword : Stands (codes "and(") (Token And 3)
unfolding scan word_kind late_kind
a-keyword = stands (codes "and(")

no-keyword : Stands (codes "andy") (Token Name 4)
unfolding scan word_kind late_kind
no-keyword = stands (codes "andy")

first-closing-bracket : Stands (codes "[[a]]]]") (Token Text 5)
unfolding scan bracket_level closing closes
first-closing-bracket = stands (codes "[[a]]]]")

higher-bracket : Stands (codes "--[=[ ]] ]=]a") (Gap 12)
unfolding scan bracket_level closing closes
higher-bracket = stands (codes "--[=[ ]] ]=]a")

unclosed-comment : Stands (codes "--[[ ]") (Refused OpenComment 0)
unfolding scan bracket_level closing closes
unclosed-comment = stands (codes "--[[ ]")

two-points : Stands (codes "1..2") (Refused NotWhole 0)
unfolding scan numeral numeral_end value
two-points = stands (codes "1..2")

lead-alone : Stands (codes "0xp1") (Refused BadByte 2)
unfolding scan numeral numeral_end value
lead-alone = stands (codes "0xp1")

letter-behind : Stands (codes "12x") (Refused BadByte 2)
unfolding scan numeral numeral_end value
letter-behind = stands (codes "12x")

large-before-letter : Stands (codes "99999999999999999999x") (Refused TooBig 0)
unfolding scan numeral numeral_end value
large-before-letter = stands (codes "99999999999999999999x")

escape-before-end : Stands (codes "'a\\q") (Refused BadEscape 2)
unfolding scan quoted_from part_at escape escaped decimal_escape value
escape-before-end = stands (codes "'a\\q")

backslash-at-end : Stands (codes "'a\\") (Refused OpenString 0)
unfolding scan quoted_from part_at escape escaped decimal_escape value
backslash-at-end = stands (codes "'a\\")

lone-tilde : Stands (codes "~ =") (Refused BadByte 0)
unfolding scan symbol
lone-tilde = stands (codes "~ =")
