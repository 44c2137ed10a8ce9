-- Symbols and dots as the longest that fit.
use Rattle.std.proofs.Common.{◌≡◌, ℕ, ◌<◌, ◌≤◌, inl, inr, List, [], ◌∷◌, length, take, Option, Some, None, Bool, true, false, cond, refl, ap, sym, ◌∙◌, arith, ◌==◌, length-take, get_or, get_or-take, lit<}
use Rattle.std.specs.Prelude.{slice_index}
use Rattle.std.specs.Char.{is_ascii_digit}
use Rattle.std.proofs.lemmas.Bool.Decides.{nat_tests}
use Rattle.lua_lexer.specs.declared.token.TokenKind.{TokenKind}
use Rattle.lua_lexer.specs.declared.piece.Piece.{Piece}
use Rattle.lua_lexer.specs.declared.piece.Piece.TheVariants as piece
use Rattle.lua_lexer.specs.declared.piece.Fault.TheVariants.{NotWhole}
use Rattle.lua_lexer.specs.declared.token.TokenKind.TheVariants.{Plus, Star, Slash, Percent, Caret, Hash, OpenParen, CloseParen, OpenBrace, CloseBrace, CloseBracket, Semicolon, Comma, NotEqual, Assign, Equal, Less, LessEqual, Greater, GreaterEqual, Colon, DoubleColon, Dot, Concat, Ellipsis}
use Rattle.lua_lexer.specs.Spelling.{spelling}
use Rattle.lua_lexer.specs.Spells as spells
use Rattle.lua_lexer.specs.Lexes as pieces
use Rattle.lua_lexer.specs.Lexes.{Fits}
use Rattle.lua_lexer.specs.Scan.{symbol, symbol_by, dots}
use Rattle.lua_lexer.proofs.Classes.{Other, Point, class, class-point, SymbolBelow, DotSpelling, one_dot, two_dots, three_dots}
use Rattle.lua_lexer.proofs.Forms.{a_symbol, a_dot, a_fraction}
use Rattle.lua_lexer.proofs.Tops.{Below, shorter, same, Read, topped, foreign, choose, form-at}

-- what the symbol that is read is spelled like
pub data SymbolIs (b next : ℕ) (o : Option (TokenKind × ℕ)) : Type 0 where
  no_symbol : o ≡ None → SymbolIs b next o
  of_one : (k : TokenKind) → o ≡ Some (k, 1) → spelling k ≡ Some (b ∷ []) → SymbolIs b next o
  of_two : (k : TokenKind) → o ≡ Some (k, 2) → spelling k ≡ Some (b ∷ next ∷ []) → 0 < next → SymbolIs b next o

equal : (b c : ℕ) → (b == c) ≡ true → b ≡ c
equal b c h = grind (arith, nat_tests)

if_one : (t : Bool) (b next c : ℕ) (k : TokenKind) (o : Option (TokenKind × ℕ)) → (t ≡ true → b ≡ c) → spelling k ≡ Some (c ∷ []) → SymbolIs b next o → SymbolIs b next (cond t (Some (k, 1)) o)
if_one true b next c k o h e s = of_one k refl (let eq : b ≡ c = h refl in rw eq e)
if_one false b next c k o h e s = s

if_two : (t u : Bool) (b next c d : ℕ) (k : TokenKind) (p o : Option (TokenKind × ℕ)) → (t ≡ true → b ≡ c) → (u ≡ true → next ≡ d) → spelling k ≡ Some (c ∷ d ∷ []) → 0 < d → (b ≡ c → SymbolIs b next p) → SymbolIs b next o → SymbolIs b next (cond t (cond u (Some (k, 2)) p) o)
if_two true true b next c d k p o h i e lt f s = of_two k refl (let eq : b ≡ c = h refl in let eq' : next ≡ d = i refl in rw (eq, eq') e) (let eq' : next ≡ d = i refl in omega arith)
if_two true false b next c d k p o h i e lt f s = f (h refl)
if_two false u b next c d k p o h i e lt f s = s

only_one : (b next c : ℕ) (k : TokenKind) (o : Option (TokenKind × ℕ)) → spelling k ≡ Some (c ∷ []) → SymbolIs b next o → SymbolIs b next (cond (b == c) (Some (k, 1)) o)
only_one b next c k o e s = if_one (b == c) b next c k o (equal b c) e s

only_two : (b next c d : ℕ) (k : TokenKind) (o : Option (TokenKind × ℕ)) → spelling k ≡ Some (c ∷ d ∷ []) → 0 < d → SymbolIs b next o → SymbolIs b next (cond (b == c) (cond (next == d) (Some (k, 2)) None) o)
only_two b next c d k o e lt s = if_two (b == c) (next == d) b next c d k None o (equal b c) (equal next d) e lt (λ h. no_symbol refl) s

both_lengths : (b next c d : ℕ) (j k : TokenKind) (o : Option (TokenKind × ℕ)) → spelling j ≡ Some (c ∷ []) → spelling k ≡ Some (c ∷ d ∷ []) → 0 < d → SymbolIs b next o → SymbolIs b next (cond (b == c) (cond (next == d) (Some (k, 2)) (Some (j, 1))) o)
both_lengths b next c d j k o ej e lt s = if_two (b == c) (next == d) b next c d k (Some (j, 1)) o (equal b c) (equal next d) e lt (λ h. of_one j refl (rw h ej)) s

symbol-is : (b next : ℕ) → SymbolIs b next (symbol b next)
unfolding symbol
symbol-is b next = only_one b next 43 Plus _ refl (only_one b next 42 Star _ refl (only_one b next 47 Slash _ refl (only_one b next 37 Percent _ refl (only_one b next 94 Caret _ refl (only_one b next 35 Hash _ refl (only_one b next 40 OpenParen _ refl (only_one b next 41 CloseParen _ refl (only_one b next 123 OpenBrace _ refl (only_one b next 125 CloseBrace _ refl (only_one b next 93 CloseBracket _ refl (only_one b next 59 Semicolon _ refl (only_one b next 44 Comma _ refl (only_two b next 126 61 NotEqual _ refl (lit< tt) (both_lengths b next 61 61 Assign Equal _ refl refl (lit< tt) (both_lengths b next 60 61 Less LessEqual _ refl refl (lit< tt) (both_lengths b next 62 61 Greater GreaterEqual _ refl refl (lit< tt) (both_lengths b next 58 58 Colon DoubleColon _ refl refl (lit< tt) (no_symbol refl))))))))))))))))))

below-other : (n m : ℕ) (q : Piece) (j k : TokenKind) → q ≡ piece.Token j n → SymbolBelow j n (Some (k, m)) → Below n q m (piece.Token k m)
below-other n m q j k e (inl lt) = shorter lt
below-other n m q j k e (inr h) = same h.0 (e ∙ (let kind : j ≡ k = h.1 in let len : n ≡ m = h.0 in cc))

other-top : (b : ℕ) (rest : List ℕ) (k : TokenKind) (m : ℕ) → class b ≡ Other → symbol b (slice_index rest 0) ≡ Some (k, m) → (n : ℕ) (q : Piece) → Fits (b ∷ rest) n q → Below n q m (piece.Token k m)
other-top b rest k m e is n q f = elim (form-at Other n b rest q e f) [ a_symbol j eq s ↦ below-other n m q j k eq (rw is at s) ]

other-by : (b : ℕ) (rest : List ℕ) (o : Option (TokenKind × ℕ)) → symbol b (slice_index rest 0) ≡ o → class b ≡ Other → SymbolIs b (slice_index rest 0) o → Read (b ∷ rest) (symbol_by o)
other-by b rest o is e (no_symbol h) = rw h (foreign refl (λ n q f. elim (form-at Other n b rest q e f) [ a_symbol j eq s ↦ rw (is, h) at s ]))
other-by b rest o is e (of_one k h sp) = rw h (topped 1 (record {
  fits = pieces.token k refl (omega arith) (spells.fixed sp);
  top = other-top b rest k 1 e (is ∙ h);
  forward = lit< tt;
}))
other-by b [] o is e (of_two k h sp lt) = absurd (omega arith)
other-by b (c ∷ rest) o is e (of_two k h sp lt) = rw h (topped 2 (record {
  fits = pieces.token k refl (omega arith) (spells.fixed sp);
  top = other-top b (c ∷ rest) k 2 e (is ∙ h);
  forward = lit< tt;
}))

pub other-read : (b : ℕ) (rest : List ℕ) → class b ≡ Other → Read (b ∷ rest) (symbol_by (symbol b (slice_index rest 0)))
other-read b rest e = other-by b rest (symbol b (slice_index rest 0)) refl e (symbol-is b (slice_index rest 0))

-- how long dots are, by the bytes behind the first
pub data DotLen (k : TokenKind) (n c d : ℕ) : Type 0 where
  len_one : k ≡ Dot → n ≡ 1 → DotLen k n c d
  len_two : k ≡ Concat → n ≡ 2 → c ≡ 46 → DotLen k n c d
  len_three : k ≡ Ellipsis → n ≡ 3 → c ≡ 46 → d ≡ 46 → DotLen k n c d

at-place : (n i v : ℕ) (xs s : List ℕ) → i < n → take n xs ≡ s → get_or s i 0 ≡ v → get_or xs i 0 ≡ v
at-place n i v xs s lt e h = sym (get_or-take n xs i 0 lt) ∙ (ap (λ (l : List ℕ). get_or l i 0) e ∙ h)

dot-len : (k : TokenKind) (n : ℕ) (xs : List ℕ) → n ≤ length xs → DotSpelling k (take n xs) → DotLen k n (slice_index xs 1) (slice_index xs 2)
dot-len k n xs le (one_dot ek es) = len_one ek (omega (arith, ap length es, length-take n xs))
dot-len k n xs le (two_dots ek es) =
    let two : n ≡ 2 = omega (arith, ap length es, length-take n xs) in
    len_two ek two (at-place n 1 46 xs _ (omega arith) es refl)
dot-len k n xs le (three_dots ek es) =
    let three : n ≡ 3 = omega (arith, ap length es, length-take n xs) in
    len_three ek three (at-place n 1 46 xs _ (omega arith) es refl) (at-place n 2 46 xs _ (omega arith) es refl)

not-equal : (b c : ℕ) → (b == c) ≡ false → b ≡ c → ⊥
not-equal b c h e = grind (arith, nat_tests)

token-is : (q : Piece) (j k : TokenKind) (n m : ℕ) → q ≡ piece.Token j n → j ≡ k → n ≡ m → q ≡ piece.Token k m
token-is q j k n m e a b = cc

no_digit_there : (c : ℕ) → c ≡ 46 → is_ascii_digit c ≡ true → ⊥
no_digit_there c e h = grind (arith, nat_tests)

ellipsis-below : (k : TokenKind) (n : ℕ) (q : Piece) (c d : ℕ) → q ≡ piece.Token k n → DotLen k n c d → Below n q 3 (piece.Token Ellipsis 3)
ellipsis-below k n q c d e (len_one ek en) = shorter (omega arith)
ellipsis-below k n q c d e (len_two ek en ec) = shorter (omega arith)
ellipsis-below k n q c d e (len_three ek en ec ed) = same en (token-is _ _ _ _ _ e ek en)

concat-below : (k : TokenKind) (n : ℕ) (q : Piece) (c d : ℕ) → (d == 46) ≡ false → q ≡ piece.Token k n → DotLen k n c d → Below n q 2 (piece.Token Concat 2)
concat-below k n q c d h e (len_one ek en) = shorter (omega arith)
concat-below k n q c d h e (len_two ek en ec) = same en (token-is _ _ _ _ _ e ek en)
concat-below k n q c d h e (len_three ek en ec ed) = absurd (not-equal d 46 h ed)

dot-below : (k : TokenKind) (n : ℕ) (q : Piece) (c d : ℕ) → (c == 46) ≡ false → q ≡ piece.Token k n → DotLen k n c d → Below n q 1 (piece.Token Dot 1)
dot-below k n q c d h e (len_one ek en) = same en (token-is _ _ _ _ _ e ek en)
dot-below k n q c d h e (len_two ek en ec) = absurd (not-equal c 46 h ec)
dot-below k n q c d h e (len_three ek en ec ed) = absurd (not-equal c 46 h ec)

fraction-below : (k : TokenKind) (n : ℕ) (q : Piece) (c d : ℕ) → (c == 46) ≡ false → q ≡ piece.Token k n → DotLen k n c d → Below n q 2 (piece.Refused NotWhole 0)
fraction-below k n q c d h e (len_one ek en) = shorter (omega arith)
fraction-below k n q c d h e (len_two ek en ec) = absurd (not-equal c 46 h ec)
fraction-below k n q c d h e (len_three ek en ec ed) = absurd (not-equal c 46 h ec)

two-there : (b : ℕ) (rest : List ℕ) → b ≡ 46 → slice_index rest 0 ≡ 46 → Fits (b ∷ rest) 2 (piece.Token Concat 2)
two-there b [] e h = absurd (omega arith)
two-there b (c ∷ rest) e h = pieces.token Concat refl (omega arith) (spells.fixed (rw (e, h) refl))

three-there : (b : ℕ) (rest : List ℕ) → b ≡ 46 → slice_index rest 0 ≡ 46 → slice_index rest 1 ≡ 46 → Fits (b ∷ rest) 3 (piece.Token Ellipsis 3)
three-there b [] e h i = absurd (omega arith)
three-there b (c ∷ []) e h i = absurd (omega arith)
three-there b (c ∷ d ∷ rest) e h i = pieces.token Ellipsis refl (omega arith) (spells.fixed (rw (e, h, i) refl))

module _ (b : ℕ) (rest : List ℕ) (e : b ≡ 46) where
  ellipsis-read : (slice_index rest 0 == 46) ≡ true → (slice_index rest 1 == 46) ≡ true → Read (b ∷ rest) (piece.Token Ellipsis 3)
  ellipsis-read h i = topped 3 (record {
    fits = three-there b rest e (equal _ _ h) (equal _ _ i);
    top = λ n q f. elim (form-at Point n b rest q (class-point b e) f) [
      | a_dot k eq le s ↦ ellipsis-below k n q _ _ eq (dot-len k n (b ∷ rest) le s)
      | a_fraction en eq d ↦ shorter (omega arith)
    ];
    forward = lit< tt;
  })

  concat-read : (slice_index rest 0 == 46) ≡ true → (slice_index rest 1 == 46) ≡ false → Read (b ∷ rest) (piece.Token Concat 2)
  concat-read h i = topped 2 (record {
    fits = two-there b rest e (equal _ _ h);
    top = λ n q f. elim (form-at Point n b rest q (class-point b e) f) [
      | a_dot k eq le s ↦ concat-below k n q _ _ i eq (dot-len k n (b ∷ rest) le s)
      | a_fraction en eq d ↦ absurd (no_digit_there _ (equal _ _ h) d)
    ];
    forward = lit< tt;
  })

  fraction-read : (slice_index rest 0 == 46) ≡ false → is_ascii_digit (slice_index rest 0) ≡ true → Read (b ∷ rest) (piece.Refused NotWhole 0)
  fraction-read h i = topped 2 (record {
    fits = pieces.malformed NotWhole 0 refl (pieces.point_first refl refl refl e i);
    top = λ n q f. elim (form-at Point n b rest q (class-point b e) f) [
      | a_dot k eq le s ↦ fraction-below k n q _ _ h eq (dot-len k n (b ∷ rest) le s)
      | a_fraction en eq d ↦ same en eq
    ];
    forward = tt;
  })

  dot-read : (slice_index rest 0 == 46) ≡ false → is_ascii_digit (slice_index rest 0) ≡ false → Read (b ∷ rest) (piece.Token Dot 1)
  dot-read h i = topped 1 (record {
    fits = pieces.token Dot refl (omega arith) (spells.fixed (rw e refl));
    top = λ n q f. elim (form-at Point n b rest q (class-point b e) f) [
      | a_dot k eq le s ↦ dot-below k n q _ _ h eq (dot-len k n (b ∷ rest) le s)
      | a_fraction en eq d ↦ absurd cc
    ];
    forward = lit< tt;
  })

  pub dots-read : Read (b ∷ rest) (dots rest)
  unfolding dots
  dots-read = choose (b ∷ rest) _ _ _
      (λ h. choose (b ∷ rest) _ _ _ (λ i. ellipsis-read h i) (λ i. concat-read h i))
      (λ h. choose (b ∷ rest) _ _ _ (λ i. fraction-read h i) (λ i. dot-read h i))
