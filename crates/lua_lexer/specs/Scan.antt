-- How the front of a text is read. This joins the code to the definition of what stands there.
use Rattle.std.specs.Prelude.{ℕ, zero, suc, ◌<◌, ◌≤◌, ◌+◌, ◌==◌, ◌||◌, Bool, is_none, List, [], ◌∷◌, Option, Some, None, length, take, drop, codes, if◌then◌else◌, slice_index}
use Rattle.std.specs.List.{prefix_len}
use Rattle.std.specs.Str.{bytes_eq}
use Rattle.std.specs.Char.{is_ascii_digit}
use Rattle.lua_lexer.specs.declared.token.TokenKind.{TokenKind}
use Rattle.lua_lexer.specs.declared.token.TokenKind.TheVariants.{And, Break, Do, Else, Elseif, End, False, For, Function, Goto, If, In, Local, Nil, Not, Or, Repeat, Return, Then, True, Until, While, Plus, Star, Slash, Percent, Caret, Hash, OpenParen, CloseParen, OpenBrace, CloseBrace, CloseBracket, Semicolon, Comma, NotEqual, Assign, Equal, Less, LessEqual, Greater, GreaterEqual, Colon, DoubleColon, OpenBracket, Minus, Dot, Concat, Ellipsis, Name, Text, Numeral}
use Rattle.lua_lexer.specs.declared.piece.Fault.TheVariants.{BadByte, OpenString, OpenComment, BadEscape, NotWhole, TooBig}
use Rattle.lua_lexer.specs.declared.piece.Piece.{Piece}
use Rattle.lua_lexer.specs.declared.piece.Piece.TheVariants.{Nothing, Gap, Token, Refused}
use Rattle.lua_lexer.specs.declared.quoted.Part.{Part}
use Rattle.lua_lexer.specs.declared.quoted.Part.TheVariants.{Close, Unclosed, Byte, Skip, Bad}
use Rattle.lua_lexer.specs.Bytes.{is_blank, is_name_start, is_name_byte, is_in_line, is_quote, is_exponent, is_digit}
use Rattle.lua_lexer.specs.Numerals.{up_to, lead_of, value_as, is_hexadecimal}
use Rattle.lua_lexer.specs.Escapes.{part_at}
use Rattle.lua_lexer.specs.Brackets.{bracket_level, closes}

unfoldable pub late_kind : List ℕ → TokenKind
late_kind w =
    if bytes_eq w (codes "in") then In
    else (if bytes_eq w (codes "local") then Local
    else (if bytes_eq w (codes "nil") then Nil
    else (if bytes_eq w (codes "not") then Not
    else (if bytes_eq w (codes "or") then Or
    else (if bytes_eq w (codes "repeat") then Repeat
    else (if bytes_eq w (codes "return") then Return
    else (if bytes_eq w (codes "then") then Then
    else (if bytes_eq w (codes "true") then True
    else (if bytes_eq w (codes "until") then Until
    else (if bytes_eq w (codes "while") then While
    else Name))))))))))

-- the kind of a word
unfoldable pub word_kind : List ℕ → TokenKind
word_kind w =
    if bytes_eq w (codes "and") then And
    else (if bytes_eq w (codes "break") then Break
    else (if bytes_eq w (codes "do") then Do
    else (if bytes_eq w (codes "else") then Else
    else (if bytes_eq w (codes "elseif") then Elseif
    else (if bytes_eq w (codes "end") then End
    else (if bytes_eq w (codes "false") then False
    else (if bytes_eq w (codes "for") then For
    else (if bytes_eq w (codes "function") then Function
    else (if bytes_eq w (codes "goto") then Goto
    else (if bytes_eq w (codes "if") then If
    else late_kind w))))))))))

-- a symbol that begins with neither `[` nor `-` nor `.`, by its first byte and the next
unfoldable pub symbol : ℕ → ℕ → Option (TokenKind × ℕ)
symbol b next =
    if b == 43 then Some (Plus, 1)
    else (if b == 42 then Some (Star, 1)
    else (if b == 47 then Some (Slash, 1)
    else (if b == 37 then Some (Percent, 1)
    else (if b == 94 then Some (Caret, 1)
    else (if b == 35 then Some (Hash, 1)
    else (if b == 40 then Some (OpenParen, 1)
    else (if b == 41 then Some (CloseParen, 1)
    else (if b == 123 then Some (OpenBrace, 1)
    else (if b == 125 then Some (CloseBrace, 1)
    else (if b == 93 then Some (CloseBracket, 1)
    else (if b == 59 then Some (Semicolon, 1)
    else (if b == 44 then Some (Comma, 1)
    else (if b == 126 then (if next == 61 then Some (NotEqual, 2) else None)
    else (if b == 61 then (if next == 61 then Some (Equal, 2) else Some (Assign, 1))
    else (if b == 60 then (if next == 61 then Some (LessEqual, 2) else Some (Less, 1))
    else (if b == 62 then (if next == 61 then Some (GreaterEqual, 2) else Some (Greater, 1))
    else (if b == 58 then (if next == 58 then Some (DoubleColon, 2) else Some (Colon, 1))
    else None)))))))))))))))))

abbrev pub symbol_by : Option (TokenKind × ℕ) → Piece
symbol_by (Some t) = Token t.0 t.1
symbol_by None = Refused BadByte 0

-- a numeral of n bytes with this value, if it isn't too large; behind it stands this byte, or 0 at the end
unfoldable pub numeral_end : Bool → ℕ → Option ℕ → ℕ → Piece
numeral_end hex n v b =
    if b == 46 || is_exponent hex b then Refused NotWhole 0
    else (if is_none v then Refused TooBig 0
    else (if is_name_start b then Refused BadByte n
    else Token Numeral n))

-- the bytes of the numeral at the front, where it has a digit
abbrev pub numeral_len : (hex : Bool) → List ℕ → ℕ
numeral_len hex xs = lead_of hex + prefix_len (is_digit hex) (drop (lead_of hex) xs)

unfoldable pub numeral : (hex : Bool) → List ℕ → Piece
numeral hex xs =
    let n = numeral_len hex xs in
    if n == lead_of hex then Refused BadByte n
    else numeral_end hex n (up_to 9223372036854775807 (value_as hex (take n xs))) (slice_index xs n)

abbrev pub one_further : Option ℕ → Option ℕ
one_further (Some k) = Some (k + 1)
one_further None = None

-- how far it is to the first closing bracket of this level
unfoldable pub closing : ℕ → List ℕ → Option ℕ
closing level [] = None
closing level (b ∷ rest) = if closes level (b ∷ rest) then Some 0 else one_further (closing level rest)

abbrev pub long_text : ℕ → Option ℕ → Piece
long_text level (Some k) = Token Text (k + (level + 2) + (level + 2))
long_text level None = Refused OpenString 0

abbrev pub long_comment : ℕ → Option ℕ → Piece
long_comment level (Some k) = Gap (k + (level + 2) + (level + 2) + 2)
long_comment level None = Refused OpenComment 0

-- behind `--`
abbrev pub comment_by : List ℕ → Option ℕ → Piece
comment_by xs (Some level) = long_comment level (closing level (drop (level + 2) xs))
comment_by xs None = Gap (prefix_len is_in_line xs + 2)

abbrev pub bracket_by : List ℕ → Option ℕ → Piece
bracket_by xs (Some level) = long_text level (closing level (drop (level + 2) xs))
bracket_by xs None = Token OpenBracket 1

abbrev pub quoted_by : (ℕ → Piece) → ℕ → Part → Piece
quoted_by further at Close = Token Text (at + 1)
quoted_by further at Unclosed = Refused OpenString 0
quoted_by further at (Byte b n) = further (at + n)
quoted_by further at (Skip n) = further (at + n)
quoted_by further at Bad = Refused BadEscape at

-- the quoted text at the front, of which the first `at` bytes are read; in at most so many parts
unfoldable pub quoted_from : (parts : ℕ) → ℕ → List ℕ → ℕ → Piece
quoted_from zero q xs at = Refused OpenString 0
quoted_from (suc parts) q xs at = quoted_by (λ k. quoted_from parts q xs k) at (part_at q (drop at xs))

unfoldable pub dots : List ℕ → Piece
dots rest =
    if slice_index rest 0 == 46 then (if slice_index rest 1 == 46 then Token Ellipsis 3 else Token Concat 2)
    else (if is_ascii_digit (slice_index rest 0) then Refused NotWhole 0 else Token Dot 1)

-- what stands at the front of a text
unfoldable pub scan : List ℕ → Piece
scan [] = Nothing
scan (b ∷ rest) =
    if is_blank b then Gap 1
    else (if is_name_start b then
    (let n = prefix_len is_name_byte (b ∷ rest) in Token (word_kind (take n (b ∷ rest))) n)
    else (if is_ascii_digit b then numeral (is_hexadecimal (b ∷ rest)) (b ∷ rest)
    else (if is_quote b then quoted_from (length rest + 2) b (b ∷ rest) 1
    else (if b == 91 then bracket_by (b ∷ rest) (bracket_level (b ∷ rest))
    else (if b == 45 then (if slice_index rest 0 == 45 then comment_by (drop 1 rest) (bracket_level (drop 1 rest)) else Token Minus 1)
    else (if b == 46 then dots rest
    else symbol_by (symbol b (slice_index rest 0))))))))

-- the lengths stay within a text of this length
abbrev pub IsWithin : ℕ → Piece → Type 0
IsWithin len Nothing = Unit {0}
IsWithin len (Gap n) = (0 < n) × (n ≤ len)
IsWithin len (Token k n) = (0 < n) × (n ≤ len)
IsWithin len (Refused f n) = n ≤ len
