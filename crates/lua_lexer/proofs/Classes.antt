-- Pieces by the class of their first byte, and each keyword and symbol in its class.
use Rattle.std.proofs.Common.{◌≡◌, ℕ, ◌<◌, ◌⊎◌, inl, inr, List, [], ◌∷◌, length, Option, Some, None, Bool, true, false, cond, refl, arith, ◌==◌}
use Rattle.std.specs.Prelude.{if◌then◌else◌}
use Rattle.std.specs.List.{prefix_len}
use Rattle.std.specs.Char.{is_ascii_digit}
use Rattle.std.proofs.lemmas.Bool.Decides.{nat_tests}
use Rattle.lua_lexer.specs.declared.token.TokenKind.{TokenKind}
use Rattle.lua_lexer.specs.declared.token.TokenKind.TheVariants.{And, Break, Do, Else, Elseif, End, False, For, Function, Goto, If, In, Local, Nil, Not, Or, Repeat, Return, Then, True, Until, While, Plus, Star, Slash, Percent, Caret, Hash, OpenParen, CloseParen, OpenBrace, CloseBrace, CloseBracket, Semicolon, Comma, Assign, Equal, NotEqual, Less, LessEqual, Greater, GreaterEqual, Colon, DoubleColon, OpenBracket, Minus, Dot, Concat, Ellipsis, Name, Text, Numeral}
use Rattle.lua_lexer.specs.Bytes.{is_blank, is_name_start, is_name_byte, is_quote}
use Rattle.lua_lexer.specs.Spelling.{spelling}
use Rattle.lua_lexer.specs.Scan.{word_kind, late_kind, symbol}

pub data Class : Type 0 where
  Blank : Class
  Word : Class
  Digit : Class
  Quote : Class
  Bracket : Class
  Dash : Class
  Point : Class
  Other : Class

-- what a piece with this first byte can be
unfoldable pub class : ℕ → Class
class b =
    if is_blank b then Blank
    else (if is_name_start b then Word
    else (if is_ascii_digit b then Digit
    else (if is_quote b then Quote
    else (if b == 91 then Bracket
    else (if b == 45 then Dash
    else (if b == 46 then Point
    else Other))))))

pub class-blank : (b : ℕ) → is_blank b ≡ true → class b ≡ Blank
unfolding class
class-blank b h = rw h refl

start_no_blank : (b : ℕ) → is_name_start b ≡ true → is_blank b ≡ false
start_no_blank b h = grind (arith, nat_tests)

pub class-word : (b : ℕ) → is_name_start b ≡ true → class b ≡ Word
unfolding class
class-word b h = rw (start_no_blank b h, h) refl

digit_no_blank : (b : ℕ) → is_ascii_digit b ≡ true → is_blank b ≡ false
digit_no_blank b h = grind (arith, nat_tests)

digit_no_start : (b : ℕ) → is_ascii_digit b ≡ true → is_name_start b ≡ false
digit_no_start b h = grind (arith, nat_tests)

pub class-digit : (b : ℕ) → is_ascii_digit b ≡ true → class b ≡ Digit
unfolding class
class-digit b h = rw (digit_no_blank b h, digit_no_start b h, h) refl

quote-is : (b : ℕ) → is_quote b ≡ true → (b ≡ 34) ⊎ (b ≡ 39)
quote-is b h = grind (arith, nat_tests)

pub class-quote : (b : ℕ) → is_quote b ≡ true → class b ≡ Quote
unfolding class
class-quote b h = elim (quote-is b h) [ inl e ↦ rw e refl | inr e ↦ rw e refl ]

pub class-bracket : (b : ℕ) → b ≡ 91 → class b ≡ Bracket
unfolding class
class-bracket b e = rw e refl

pub class-dash : (b : ℕ) → b ≡ 45 → class b ≡ Dash
unfolding class
class-dash b e = rw e refl

pub class-point : (b : ℕ) → b ≡ 46 → class b ≡ Point
unfolding class
class-point b e = rw e refl

pub class-other : (b : ℕ) → is_blank b ≡ false → is_name_start b ≡ false → is_ascii_digit b ≡ false → is_quote b ≡ false → (b == 91) ≡ false → (b == 45) ≡ false → (b == 46) ≡ false → class b ≡ Other
unfolding class
class-other b h1 h2 h3 h4 h5 h6 h7 = rw (h1, h2, h3, h4, h5, h6, h7) refl

-- the kind of a symbol of n bytes is the one read, or a longer one is read
abbrev pub SymbolBelow : TokenKind → ℕ → Option (TokenKind × ℕ) → Type 0
SymbolBelow k n (Some t) = (n < t.1) ⊎ ((n ≡ t.1) × (k ≡ t.0))
SymbolBelow k n None = ⊥

abbrev pub SymbolTop : TokenKind → List ℕ → Type 0
SymbolTop k (b ∷ []) = (next : ℕ) → SymbolBelow k 1 (symbol b next)
SymbolTop k (b ∷ c ∷ []) = SymbolBelow k 2 (symbol b c)
SymbolTop k _ = ⊥

pub data DotSpelling (k : TokenKind) (s : List ℕ) : Type 0 where
  one_dot : k ≡ Dot → s ≡ 46 ∷ [] → DotSpelling k s
  two_dots : k ≡ Concat → s ≡ 46 ∷ 46 ∷ [] → DotSpelling k s
  three_dots : k ≡ Ellipsis → s ≡ 46 ∷ 46 ∷ 46 ∷ [] → DotSpelling k s

-- what a spelling of a keyword or symbol in this class is
abbrev pub GoodAs : Class → List ℕ → TokenKind → Type 0
GoodAs Word s k = (prefix_len is_name_byte s ≡ length s) × (word_kind s ≡ k)
GoodAs Bracket s k = (k ≡ OpenBracket) × (s ≡ 91 ∷ [])
GoodAs Dash s k = (k ≡ Minus) × (s ≡ 45 ∷ [])
GoodAs Point s k = DotSpelling k s
GoodAs Other s k = SymbolTop k s
GoodAs _ s k = ⊥

abbrev pub Good : List ℕ → TokenKind → Type 0
Good [] k = ⊥
Good (b ∷ s) k = GoodAs (class b) (b ∷ s) k

abbrev pub GoodOf : TokenKind → Option (List ℕ) → Type 0
GoodOf k (Some s) = Good s k
GoodOf k None = Unit {0}

either : (t : Bool) (j k : TokenKind) → SymbolBelow k 1 (cond t (Some (j, 2)) (Some (k, 1)))
either true j k = inl (omega arith)
either false j k = inr (refl, refl)

pub good : (k : TokenKind) → GoodOf k (spelling k)
unfolding class word_kind late_kind symbol
good And = (refl, refl)
good Break = (refl, refl)
good Do = (refl, refl)
good Else = (refl, refl)
good Elseif = (refl, refl)
good End = (refl, refl)
good False = (refl, refl)
good For = (refl, refl)
good Function = (refl, refl)
good Goto = (refl, refl)
good If = (refl, refl)
good In = (refl, refl)
good Local = (refl, refl)
good Nil = (refl, refl)
good Not = (refl, refl)
good Or = (refl, refl)
good Repeat = (refl, refl)
good Return = (refl, refl)
good Then = (refl, refl)
good True = (refl, refl)
good Until = (refl, refl)
good While = (refl, refl)
good Plus = λ next. inr (refl, refl)
good Star = λ next. inr (refl, refl)
good Slash = λ next. inr (refl, refl)
good Percent = λ next. inr (refl, refl)
good Caret = λ next. inr (refl, refl)
good Hash = λ next. inr (refl, refl)
good OpenParen = λ next. inr (refl, refl)
good CloseParen = λ next. inr (refl, refl)
good OpenBrace = λ next. inr (refl, refl)
good CloseBrace = λ next. inr (refl, refl)
good CloseBracket = λ next. inr (refl, refl)
good Semicolon = λ next. inr (refl, refl)
good Comma = λ next. inr (refl, refl)
good Assign = λ next. either (next == 61) Equal Assign
good Equal = inr (refl, refl)
good NotEqual = inr (refl, refl)
good Less = λ next. either (next == 61) LessEqual Less
good LessEqual = inr (refl, refl)
good Greater = λ next. either (next == 61) GreaterEqual Greater
good GreaterEqual = inr (refl, refl)
good Colon = λ next. either (next == 58) DoubleColon Colon
good DoubleColon = inr (refl, refl)
good OpenBracket = (refl, refl)
good Minus = (refl, refl)
good Dot = one_dot refl refl
good Concat = two_dots refl refl
good Ellipsis = three_dots refl refl
good Name = tt
good Text = tt
good Numeral = tt
