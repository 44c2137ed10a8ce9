-- What fits at the front, by the class of the first byte.
use Rattle.std.proofs.Common.{◌≡◌, ℕ, ◌+◌, ◌<◌, ◌≤◌, List, [], ◌∷◌, length, take, drop, Option, Some, None, Bool, true, false, cond, refl, ap, sym, ◌∙◌, subst, arith, zero, suc, ◌==◌, ◌&&◌, ◌||◌, length-take}
use Rattle.std.specs.Prelude.{slice_index, All, IsTrue}
use Rattle.std.specs.List.{prefix_len}
use Rattle.std.specs.Char.{is_ascii_digit}
use Rattle.std.proofs.lemmas.Bool.Decides.{nat_tests}
use Rattle.lua_lexer.specs.declared.token.TokenKind.{TokenKind}
use Rattle.lua_lexer.specs.declared.token.TokenKind.TheVariants.{Minus, OpenBracket, Name, Text, Numeral}
use Rattle.lua_lexer.specs.declared.piece.Piece.{Piece}
use Rattle.lua_lexer.specs.declared.piece.Piece.TheVariants as piece
use Rattle.lua_lexer.specs.declared.piece.Fault.{Fault}
use Rattle.lua_lexer.specs.declared.piece.Fault.TheVariants.{BadByte, OpenString, OpenComment, BadEscape, NotWhole, TooBig}
use Rattle.lua_lexer.specs.declared.quoted.Part.TheVariants.{Unclosed, Bad}
use Rattle.lua_lexer.specs.Bytes.{is_blank, is_name_start, is_name_byte, is_quote, is_in_line, is_exponent, is_digit}
use Rattle.lua_lexer.specs.Numerals.{IsNumeral, value_as, is_hexadecimal}
use Rattle.lua_lexer.specs.Escapes.{Parts, part_at}
use Rattle.lua_lexer.specs.Brackets.{bracket_level, IsLong}
use Rattle.lua_lexer.specs.Spells as spells
use Rattle.lua_lexer.specs.Spells.{Spells, IsGap, IsWord, IsQuoted}
use Rattle.lua_lexer.specs.Lexes as pieces
use Rattle.lua_lexer.specs.Lexes.{Fits, IsMalformed}
use Rattle.lua_lexer.specs.Scan.{word_kind, symbol}
use Rattle.lua_lexer.proofs.Words.{kind_name, word-prefix}
use Rattle.lua_lexer.proofs.Classes.{Class, Blank, Word, Digit, Quote, Bracket, Dash, Point, Other, class, class-blank, class-word, class-digit, class-quote, class-bracket, class-dash, class-point, good, Good, GoodAs, GoodOf, SymbolBelow, SymbolTop, DotSpelling}

pub data WordForm (xs : List ℕ) (n : ℕ) (q : Piece) : Type 0 where
  a_word : prefix_len is_name_byte (take n xs) ≡ n → q ≡ piece.Token (word_kind (take n xs)) n → WordForm xs n q

pub data NumberForm (xs : List ℕ) (n : ℕ) (q : Piece) : Type 0 where
  a_numeral : (hex : Bool) → q ≡ piece.Token Numeral n → n ≤ length xs → IsNumeral hex (take n xs) → value_as hex (take n xs) ≤ 9223372036854775807 → NumberForm xs n q
  a_point : (hex : Bool) (m : ℕ) → n ≡ m + 1 → q ≡ piece.Refused NotWhole 0 → IsNumeral hex (take m xs) → (slice_index xs m == 46 || is_exponent hex (slice_index xs m)) ≡ true → NumberForm xs n q
  too_large : (hex : Bool) → n ≤ length xs → q ≡ piece.Refused TooBig 0 → IsNumeral hex (take n xs) → 9223372036854775807 < value_as hex (take n xs) → NumberForm xs n q
  a_letter : (hex : Bool) (m : ℕ) → n ≡ m + 1 → q ≡ piece.Refused BadByte m → IsNumeral hex (take m xs) → value_as hex (take m xs) ≤ 9223372036854775807 → is_name_start (slice_index xs m) ≡ true → is_exponent hex (slice_index xs m) ≡ false → is_digit hex (slice_index xs m) ≡ false → (n ≡ 2 → is_hexadecimal xs ≡ false) → NumberForm xs n q
  a_lead : n ≡ 2 → q ≡ piece.Refused BadByte 2 → is_hexadecimal xs ≡ true → NumberForm xs n q

pub data QuoteForm (xs : List ℕ) (n : ℕ) (q : Piece) : Type 0 where
  a_text : (place : ℕ) (v : List ℕ) → q ≡ piece.Token Text n → n ≤ length xs → IsQuoted place v (take n xs) → QuoteForm xs n q
  unclosed_text : (v : List ℕ) → q ≡ piece.Refused OpenString 0 → Parts (slice_index xs 0) xs 1 n v → part_at (slice_index xs 0) (drop n xs) ≡ Unclosed → QuoteForm xs n q
  a_bad_escape : (v : List ℕ) → q ≡ piece.Refused BadEscape n → Parts (slice_index xs 0) xs 1 n v → part_at (slice_index xs 0) (drop n xs) ≡ Bad → QuoteForm xs n q

pub data BracketForm (xs : List ℕ) (n : ℕ) (q : Piece) : Type 0 where
  a_bracket : n ≡ 1 → q ≡ piece.Token OpenBracket 1 → BracketForm xs n q
  a_long_text : (level m : ℕ) → q ≡ piece.Token Text n → n ≤ length xs → IsLong level m (take n xs) → BracketForm xs n q
  unclosed_bracket : (level : ℕ) → n ≡ level + 2 → q ≡ piece.Refused OpenString 0 → bracket_level xs ≡ Some level → BracketForm xs n q

pub data DashForm (xs : List ℕ) (n : ℕ) (q : Piece) : Type 0 where
  a_minus : n ≡ 1 → q ≡ piece.Token Minus 1 → DashForm xs n q
  a_line_comment : (c : List ℕ) → q ≡ piece.Gap n → n ≤ length xs → take n xs ≡ 45 ∷ 45 ∷ c → All (λ b. IsTrue (is_in_line b)) c → bracket_level c ≡ None → DashForm xs n q
  a_long_comment : (level m : ℕ) (c : List ℕ) → q ≡ piece.Gap n → n ≤ length xs → take n xs ≡ 45 ∷ 45 ∷ c → IsLong level m c → DashForm xs n q
  unclosed_comment : (level : ℕ) (c : List ℕ) → n ≡ level + 4 → q ≡ piece.Refused OpenComment 0 → xs ≡ 45 ∷ 45 ∷ c → bracket_level c ≡ Some level → DashForm xs n q

pub data PointForm (xs : List ℕ) (n : ℕ) (q : Piece) : Type 0 where
  a_dot : (k : TokenKind) → q ≡ piece.Token k n → n ≤ length xs → DotSpelling k (take n xs) → PointForm xs n q
  a_fraction : n ≡ 2 → q ≡ piece.Refused NotWhole 0 → is_ascii_digit (slice_index xs 1) ≡ true → PointForm xs n q

pub data OtherForm (xs : List ℕ) (n : ℕ) (q : Piece) : Type 0 where
  a_symbol : (k : TokenKind) → q ≡ piece.Token k n → SymbolBelow k n (symbol (slice_index xs 0) (slice_index xs 1)) → OtherForm xs n q

pub data BlankForm (n : ℕ) (q : Piece) : Type 0 where
  a_blank : n ≡ 1 → q ≡ piece.Gap 1 → BlankForm n q

abbrev pub FormAs : Class → List ℕ → ℕ → Piece → Type 0
FormAs Blank xs n q = BlankForm n q
FormAs Word xs n q = WordForm xs n q
FormAs Digit xs n q = NumberForm xs n q
FormAs Quote xs n q = QuoteForm xs n q
FormAs Bracket xs n q = BracketForm xs n q
FormAs Dash xs n q = DashForm xs n q
FormAs Point xs n q = PointForm xs n q
FormAs Other xs n q = OtherForm xs n q

-- keywords and symbols
other-form : (b : ℕ) (rest : List ℕ) (m : ℕ) (k : TokenKind) → suc m ≤ length (b ∷ rest) → SymbolTop k (b ∷ take m rest) → SymbolBelow k (suc m) (symbol b (slice_index rest 0))
other-form b rest zero k le g = g (slice_index rest 0)
other-form b [] (suc m) k le g = absurd (omega arith)
other-form b (c ∷ rest) (suc zero) k le g = g
other-form b (c ∷ []) (suc (suc m)) k le g = absurd (omega arith)
other-form b (c ∷ d ∷ rest) (suc (suc m)) k le g = absurd g

one_long : (b c m : ℕ) (rest : List ℕ) → suc m ≤ length (b ∷ rest) → (b ∷ take m rest) ≡ (c ∷ []) → suc m ≡ 1
one_long b c m rest le e =
    let l : length (b ∷ take m rest) ≡ 1 = ap length e in
    omega (arith, length-take m rest)

as_good : (c : Class) (b : ℕ) (rest : List ℕ) (m : ℕ) (k : TokenKind) → suc m ≤ length (b ∷ rest) → GoodAs c (b ∷ take m rest) k → FormAs c (b ∷ rest) (suc m) (piece.Token k (suc m))
as_good Blank b rest m k le g = absurd g
as_good Word b rest m k le g =
    let l : length (b ∷ take m rest) ≡ suc m = omega (arith, length-take m rest) in
    a_word (g.0 ∙ l) (ap (λ (j : TokenKind). piece.Token j (suc m)) (sym g.1))
as_good Digit b rest m k le g = absurd g
as_good Quote b rest m k le g = absurd g
as_good Bracket b rest m k le g =
    let one : suc m ≡ 1 = one_long b 91 m rest le g.1 in
    let kind : k ≡ OpenBracket = g.0 in
    a_bracket one cc
as_good Dash b rest m k le g =
    let one : suc m ≡ 1 = one_long b 45 m rest le g.1 in
    let kind : k ≡ Minus = g.0 in
    a_minus one cc
as_good Point b rest m k le g = a_dot k refl le g
as_good Other b rest m k le g = a_symbol k refl (other-form b rest m k le g)

good_form : (n b : ℕ) (rest : List ℕ) (k : TokenKind) → n ≤ length (b ∷ rest) → Good (take n (b ∷ rest)) k → FormAs (class b) (b ∷ rest) n (piece.Token k n)
good_form zero b rest k le g = absurd g
good_form (suc m) b rest k le g = as_good (class b) b rest m k le g

-- the first byte of each form
left : (s t : Bool) → (s && t) ≡ true → s ≡ true
left true t h = refl
left false t h = absurd cc

is_zero : (b : ℕ) → (b == 48) ≡ true → is_ascii_digit b ≡ true
is_zero b h = grind (arith, nat_tests)

is_that : (b c : ℕ) → (b == c) ≡ true → b ≡ c
is_that b c h = grind (arith, nat_tests)

numeral-first : (hex : Bool) (m b : ℕ) (rest : List ℕ) → IsNumeral hex (take m (b ∷ rest)) → is_ascii_digit b ≡ true
numeral-first true zero b rest h = let begins : false ≡ true = h.begins in absurd cc
numeral-first true (suc m) b rest h = is_zero b (left (b == 48) _ h.begins)
numeral-first false zero b rest h = let some : 0 < 0 = h.some in absurd (omega arith)
numeral-first false (suc m) b rest h = h.digits 0 0 (omega arith)

some-if : (t : Bool) (n level : ℕ) → cond t (Some n) None ≡ Some level → t ≡ true
some-if true n level e = refl
some-if false n level e = absurd cc

pub bracket_level-first : (b : ℕ) (rest : List ℕ) (level : ℕ) → bracket_level (b ∷ rest) ≡ Some level → b ≡ 91
unfolding bracket_level
bracket_level-first b rest level e = is_that b 91 (left (b == 91) _ (some-if _ _ _ e))

long-first : (n b : ℕ) (rest : List ℕ) (level : ℕ) → bracket_level (take n (b ∷ rest)) ≡ Some level → b ≡ 91
unfolding bracket_level
long-first zero b rest level e = absurd cc
long-first (suc m) b rest level e = bracket_level-first b (take m rest) level e

quoted-first : (n b : ℕ) (rest : List ℕ) → is_quote (slice_index (take n (b ∷ rest)) 0) ≡ true → is_quote b ≡ true
quoted-first zero b rest h = absurd cc
quoted-first (suc m) b rest h = h

head-is : (n b : ℕ) (rest : List ℕ) (c : ℕ) (s : List ℕ) → take n (b ∷ rest) ≡ (c ∷ s) → b ≡ c
head-is zero b rest c s e = absurd cc
head-is (suc m) b rest c s e = cc

word_form : (n b : ℕ) (rest : List ℕ) (q : Piece) → n ≤ length (b ∷ rest) → IsWord (take n (b ∷ rest)) → q ≡ piece.Token (word_kind (take n (b ∷ rest))) n → FormAs (class b) (b ∷ rest) n q
word_form zero b rest q le w e = absurd w
word_form (suc m) b rest q le w e =
    let l : length (take (suc m) (b ∷ rest)) ≡ suc m = omega (arith, length-take m rest) in
    rw (class-word b w.0) (a_word (word-prefix (take (suc m) (b ∷ rest)) w ∙ l) e)

blank_form : (n b : ℕ) (rest : List ℕ) (q : Piece) (c : ℕ) → n ≤ length (b ∷ rest) → take n (b ∷ rest) ≡ (c ∷ []) → is_blank c ≡ true → q ≡ piece.Gap n → FormAs (class b) (b ∷ rest) n q
blank_form zero b rest q c le e h eq = absurd cc
blank_form (suc m) b rest q c le e h eq =
    let same : b ≡ c = head-is (suc m) b rest c [] e in
    let one : suc m ≡ 1 = one_long b c m rest le e in
    rw (class-blank b (rw same h)) (a_blank one cc)

token_form : (n b : ℕ) (rest : List ℕ) (q : Piece) (k : TokenKind) → q ≡ piece.Token k n → n ≤ length (b ∷ rest) → Spells k (take n (b ∷ rest)) → FormAs (class b) (b ∷ rest) n q
token_form n b rest q k e le (spells.fixed f) = rw e (good_form n b rest k le (subst (λ (o : Option (List ℕ)). GoodOf k o) f (good k)))
token_form n b rest q k e le (spells.name kn w none) = word_form n b rest q le w (let name : word_kind (take n (b ∷ rest)) ≡ Name = kind_name _ none in cc)
token_form n b rest q k e le (spells.numeral hex kn h v) = rw (class-digit b (numeral-first hex n b rest h)) (a_numeral hex (cc) le h v)
token_form n b rest q k e le (spells.quoted place v kn h) = rw (class-quote b (quoted-first n b rest h.begins)) (a_text place v (cc) le h)
token_form n b rest q k e le (spells.long level m kn h) = rw (class-bracket b (long-first n b rest level h.opens)) (a_long_text level m (cc) le h)

gap_form : (n b : ℕ) (rest : List ℕ) (q : Piece) → q ≡ piece.Gap n → n ≤ length (b ∷ rest) → IsGap (take n (b ∷ rest)) → FormAs (class b) (b ∷ rest) n q
gap_form n b rest q e le (spells.blank c s h) = blank_form n b rest q c le s h e
gap_form n b rest q e le (spells.line_comment c s all none) = rw (class-dash b (head-is n b rest 45 (45 ∷ c) s)) (a_line_comment c e le s all none)
gap_form n b rest q e le (spells.long_comment level m c s h) = rw (class-dash b (head-is n b rest 45 (45 ∷ c) s)) (a_long_comment level m c e le s h)

refusal-is : (q : Piece) (f g : Fault) (i j : ℕ) → q ≡ piece.Refused f i → f ≡ g → i ≡ j → q ≡ piece.Refused g j
refusal-is q f g i j e a o = cc

malformed_form : (n b : ℕ) (rest : List ℕ) (q : Piece) (f : Fault) (offset : ℕ) → q ≡ piece.Refused f offset → IsMalformed (b ∷ rest) n f offset → FormAs (class b) (b ∷ rest) n q
malformed_form n b rest q f o e (pieces.not_whole hex m en ef eo h t) = rw (class-digit b (numeral-first hex m b rest h)) (a_point hex m en (refusal-is _ _ _ _ _ e ef eo) h t)
malformed_form n b rest q f o e (pieces.point_first en ef eo h d) = rw (class-point b h) (a_fraction en (refusal-is _ _ _ _ _ e ef eo) d)
malformed_form n b rest q f o e (pieces.too_big hex le ef eo h v) = rw (class-digit b (numeral-first hex n b rest h)) (too_large hex le (refusal-is _ _ _ _ _ e ef eo) h v)
malformed_form n b rest q f o e (pieces.letter hex m en ef eo h v s x d none) = rw (class-digit b (numeral-first hex m b rest h)) (a_letter hex m en (refusal-is _ _ _ _ _ e ef eo) h v s x d none)
malformed_form n b rest q f o e (pieces.no_digit en ef eo h) = rw (class-digit b (is_zero b (left (b == 48) _ h))) (a_lead en (refusal-is _ _ _ _ _ e ef eo) h)
malformed_form n b rest q f o e (pieces.open_text v ef eo h ps un) = rw (class-quote b h) (unclosed_text v (refusal-is _ _ _ _ _ e ef eo) ps un)
malformed_form n b rest q f o e (pieces.bad_escape v ef eo h ps un) = rw (class-quote b h) (a_bad_escape v (refusal-is _ _ _ _ _ e ef eo) ps un)
malformed_form n b rest q f o e (pieces.open_bracket level en ef eo h) = rw (class-bracket b (bracket_level-first b rest level h)) (unclosed_bracket level en (refusal-is _ _ _ _ _ e ef eo) h)
malformed_form n b rest q f o e (pieces.open_comment level c en ef eo s h) = rw (class-dash b (let same : b ≡ 45 = cc in same)) (unclosed_comment level c en (refusal-is _ _ _ _ _ e ef eo) s h)

-- what fits is of the class of its first byte
pub form : (n b : ℕ) (rest : List ℕ) (q : Piece) → Fits (b ∷ rest) n q → FormAs (class b) (b ∷ rest) n q
form n b rest q (pieces.token k e le s) = token_form n b rest q k e le s
form n b rest q (pieces.gap e le s) = gap_form n b rest q e le s
form n b rest q (pieces.malformed f o e s) = malformed_form n b rest q f o e s
