-- Long texts, long comments and comments to the end of the line as the longest that fit.
use Rattle.std.proofs.Common.{◌≡◌, ℕ, ◌+◌, ◌<◌, ◌≤◌, ◌⊎◌, inl, inr, List, [], ◌∷◌, length, take, drop, Option, Some, None, true, false, refl, ap, ◌∙◌, subst, arith, zero, suc, ◌==◌, length-take, lit<}
use Rattle.std.specs.Prelude.{slice_index}
use Rattle.std.specs.List.{prefix_len}
use Rattle.std.proofs.lemmas.Bool.Decides.{nat_tests, leb_tells}
use Rattle.lua_lexer.specs.declared.piece.Piece.{Piece}
use Rattle.lua_lexer.specs.declared.piece.Piece.TheVariants as piece
use Rattle.lua_lexer.specs.declared.piece.Fault.TheVariants.{OpenString, OpenComment}
use Rattle.std.proofs.lemmas.List.Sums.{prefix_len-le-length}
use Rattle.lua_lexer.specs.declared.token.TokenKind.TheVariants.{Text, OpenBracket, Minus}
use Rattle.lua_lexer.specs.Bytes.{is_in_line}
use Rattle.lua_lexer.specs.Brackets.{bracket_level, IsLong}
use Rattle.lua_lexer.specs.Spells as spells
use Rattle.lua_lexer.specs.Spells.{IsGap}
use Rattle.lua_lexer.specs.Lexes as pieces
use Rattle.lua_lexer.specs.Scan.{closing, bracket_by, comment_by, long_text, long_comment}
use Rattle.lua_lexer.proofs.Cuts.{LongAt, long-at, long-within, long-cut, bracket_level-cut, bracket_level-uncut, equal}
use Rattle.lua_lexer.proofs.Words.{run_passes, all-prefix, prefix-cut}
use Rattle.lua_lexer.proofs.Classes.{Bracket, Dash, class-bracket, class-dash}
use Rattle.lua_lexer.proofs.Forms.{BracketForm, a_bracket, a_long_text, unclosed_bracket, DashForm, a_minus, a_line_comment, a_long_comment, unclosed_comment}
use Rattle.lua_lexer.proofs.Tops.{Below, shorter, same, Read, topped, form-at, at-most}

some-same : (xs : List ℕ) (o : Option ℕ) (j k : ℕ) → o ≡ Some j → o ≡ Some k → j ≡ k
some-same xs o j k a b = cc

none-some : (o : Option ℕ) (k : ℕ) → o ≡ None → o ≡ Some k → ⊥
none-some o k a b = cc

-- a long bracket of these bytes is the one that is read
long-len : (xs : List ℕ) (level k l m n : ℕ) → bracket_level xs ≡ Some level → closing level (drop (level + 2) xs) ≡ Some k → LongAt l m n xs → n ≡ k + (level + 2) + (level + 2)
long-len xs level k l m n o e h =
    let same_level : l ≡ level = some-same xs (bracket_level xs) l level h.opens o in
    let closed : closing level (drop (level + 2) xs) ≡ Some m = rw same_level at h.closed in
    let same_place : m ≡ k = some-same xs _ m k closed e in
    let len : n ≡ m + (l + 2) + (l + 2) = h.len in
    omega arith

no_long : (xs : List ℕ) (level l m n : ℕ) → bracket_level xs ≡ Some level → closing level (drop (level + 2) xs) ≡ None → LongAt l m n xs → ⊥
no_long xs level l m n o e h =
    let same_level : l ≡ level = some-same xs (bracket_level xs) l level h.opens o in
    let closed : closing level (drop (level + 2) xs) ≡ Some m = rw same_level at h.closed in
    none-some _ m e closed

open-below : (xs : List ℕ) (level k : ℕ) (n : ℕ) (q : Piece) → bracket_level xs ≡ Some level → closing level (drop (level + 2) xs) ≡ Some k → BracketForm xs n q → Below n q (k + (level + 2) + (level + 2)) (piece.Token Text (k + (level + 2) + (level + 2)))
open-below xs level k n q o e (a_bracket en eq) = shorter (omega arith)
open-below xs level k n q o e (a_long_text l m eq le h) =
    let len : n ≡ k + (level + 2) + (level + 2) = long-len xs level k l m n o e (long-at l m n xs le h) in
    same len (eq ∙ ap (λ (i : ℕ). piece.Token Text i) len)
open-below xs level k n q o e (unclosed_bracket l en eq h) =
    let same_level : l ≡ level = some-same xs (bracket_level xs) l level h o in
    shorter (omega arith)

unclosed-below : (xs : List ℕ) (level : ℕ) (n : ℕ) (q : Piece) → bracket_level xs ≡ Some level → closing level (drop (level + 2) xs) ≡ None → BracketForm xs n q → Below n q (level + 2) (piece.Refused OpenString 0)
unclosed-below xs level n q o e (a_bracket en eq) = shorter (omega arith)
unclosed-below xs level n q o e (a_long_text l m eq le h) = absurd (no_long xs level l m n o e (long-at l m n xs le h))
unclosed-below xs level n q o e (unclosed_bracket l en eq h) =
    let same_level : l ≡ level = some-same xs (bracket_level xs) l level h o in
    same (omega arith) eq

bracket-below : (xs : List ℕ) (n : ℕ) (q : Piece) → bracket_level xs ≡ None → BracketForm xs n q → Below n q 1 (piece.Token OpenBracket 1)
bracket-below xs n q o (a_bracket en eq) = same en eq
bracket-below xs n q o (a_long_text l m eq le h) = absurd (none-some _ l o (long-at l m n xs le h).opens)
bracket-below xs n q o (unclosed_bracket l en eq h) = absurd (none-some _ l o h)

module _ (b : ℕ) (rest : List ℕ) (e : b ≡ 91) where
  long-read : (level : ℕ) (o : Option ℕ) → bracket_level (b ∷ rest) ≡ Some level → closing level (drop (level + 2) (b ∷ rest)) ≡ o → Read (b ∷ rest) (long_text level o)
  long-read level (Some k) h i = topped (k + (level + 2) + (level + 2)) (record {
    fits = pieces.token Text refl (long-within level k (b ∷ rest) i) (spells.long level k refl (long-cut level k _ (b ∷ rest) refl h i));
    top = λ n q f. open-below (b ∷ rest) level k n q h i (form-at Bracket n b rest q (class-bracket b e) f);
    forward = omega arith;
  })
  long-read level None h i = topped (level + 2) (record {
    fits = pieces.malformed OpenString 0 refl (pieces.open_bracket level refl refl refl h);
    top = λ n q f. unclosed-below (b ∷ rest) level n q h i (form-at Bracket n b rest q (class-bracket b e) f);
    forward = tt;
  })

  bracket-by : (o : Option ℕ) → bracket_level (b ∷ rest) ≡ o → Read (b ∷ rest) (bracket_by (b ∷ rest) o)
  bracket-by (Some level) h = long-read level (closing level (drop (level + 2) (b ∷ rest))) h refl
  bracket-by None h = topped 1 (record {
    fits = pieces.token OpenBracket refl (omega arith) (spells.fixed (rw e refl));
    top = λ n q f. bracket-below (b ∷ rest) n q h (form-at Bracket n b rest q (class-bracket b e) f);
    forward = lit< tt;
  })

  pub bracket-read : Read (b ∷ rest) (bracket_by (b ∷ rest) (bracket_level (b ∷ rest)))
  bracket-read = bracket-by (bracket_level (b ∷ rest)) refl

-- what stands behind the dashes
pub record Behind (n : ℕ) (c s : List ℕ) : Type 0 where
  pub len : ℕ
  pub is_len : n ≡ len + 2
  pub is_front : s ≡ take len c
  pub fits_in : len ≤ length c

behind-dashes : (n b d : ℕ) (c s : List ℕ) → n ≤ length (b ∷ d ∷ c) → take n (b ∷ d ∷ c) ≡ 45 ∷ 45 ∷ s → Behind n c s
behind-dashes zero b d c s le e = absurd cc
behind-dashes (suc zero) b d c s le e = absurd cc
behind-dashes (suc (suc m)) b d c s le e = record { len = m; is_len = omega arith; is_front = cc; fits_in = omega arith }

comment-below : (b d : ℕ) (c : List ℕ) (n : ℕ) (q : Piece) → bracket_level c ≡ None → DashForm (b ∷ d ∷ c) n q → Below n q (prefix_len is_in_line c + 2) (piece.Gap (prefix_len is_in_line c + 2))
comment-below b d c n q o (a_minus en eq) = shorter (omega arith)
comment-below b d c n q o (a_line_comment s eq le es all none) =
    let h : Behind n c s = behind-dashes n b d c s le es in
    let front : s ≡ take h.len c = h.is_front in
    let run : prefix_len is_in_line (take h.len c) ≡ length (take h.len c) = subst (λ (l : List ℕ). prefix_len is_in_line l ≡ length l) front (all-prefix is_in_line s all) in
    let is_len : n ≡ h.len + 2 = h.is_len in
    let fits_in : h.len ≤ length c = h.fits_in in
    elim (at-most n (prefix_len is_in_line c + 2) (omega (arith, run, length-take h.len c, prefix-cut is_in_line h.len c))) [
      | inl lt ↦ shorter lt
      | inr len ↦ same len (eq ∙ ap (λ (i : ℕ). piece.Gap i) len)
    ]
comment-below b d c n q o (a_long_comment l m s eq le es h) =
    let r : Behind n c s = behind-dashes n b d c s le es in
    let opens : bracket_level (take r.len c) ≡ Some l = subst (λ (i : List ℕ). bracket_level i ≡ Some l) r.is_front h.opens in
    absurd (none-some _ l o (bracket_level-uncut r.len c l opens))
comment-below b d c n q o (unclosed_comment l s en eq es h) =
    let tail : c ≡ s = cc in
    absurd (none-some _ l o (rw tail h))

-- a comment to the end of the line, where a long one opens, is cut before it does
line-short : (b d : ℕ) (c : List ℕ) (n level : ℕ) (s : List ℕ) → n ≤ length (b ∷ d ∷ c) → bracket_level c ≡ Some level → take n (b ∷ d ∷ c) ≡ 45 ∷ 45 ∷ s → bracket_level s ≡ None → n < level + 4
line-short b d c n level s le o e none =
    let h : Behind n c s = behind-dashes n b d c s le e in
    let opens : bracket_level (take h.len c) ≡ None = subst (λ (i : List ℕ). bracket_level i ≡ None) h.is_front none in
    let is_len : n ≡ h.len + 2 = h.is_len in
    elim (eqb_choice h.len (level + 2)) [
      | inl lt ↦ omega arith
      | inr more ↦ absurd (none-some _ level opens (bracket_level-cut h.len c level o more))
    ]
  where
    eqb_choice : (a b : ℕ) → (a < b) ⊎ (b ≤ a)
    eqb_choice a b = elim (leb_tells b a) [ inl t ↦ inr t.1 | inr t ↦ inl t.1 ]

long-behind : (b d : ℕ) (c : List ℕ) (n l m : ℕ) (s : List ℕ) → n ≤ length (b ∷ d ∷ c) → take n (b ∷ d ∷ c) ≡ 45 ∷ 45 ∷ s → IsLong l m s → (j : ℕ) × (n ≡ j + 2) × LongAt l m j c
long-behind b d c n l m s le e h =
    let r : Behind n c s = behind-dashes n b d c s le e in
    (r.len, r.is_len, long-at l m r.len c r.fits_in (subst (λ (i : List ℕ). IsLong l m i) r.is_front h))

long-comment-below : (b d : ℕ) (c : List ℕ) (level k n : ℕ) (q : Piece) → bracket_level c ≡ Some level → closing level (drop (level + 2) c) ≡ Some k → DashForm (b ∷ d ∷ c) n q → Below n q (k + (level + 2) + (level + 2) + 2) (piece.Gap (k + (level + 2) + (level + 2) + 2))
long-comment-below b d c level k n q o e (a_minus en eq) = shorter (omega arith)
long-comment-below b d c level k n q o e (a_line_comment s eq le es all none) = shorter (omega (arith, line-short b d c n level s le o es none))
long-comment-below b d c level k n q o e (a_long_comment l m s eq le es h) =
    let r : (j : ℕ) × (n ≡ j + 2) × LongAt l m j c = long-behind b d c n l m s le es h in
    let j_len : r.0 ≡ k + (level + 2) + (level + 2) = long-len c level k l m r.0 o e r.2 in
    let n_len : n ≡ r.0 + 2 = r.1 in
    let len : n ≡ k + (level + 2) + (level + 2) + 2 = omega arith in
    same len (eq ∙ ap (λ (i : ℕ). piece.Gap i) len)
long-comment-below b d c level k n q o e (unclosed_comment l s en eq es h) =
    let tail : c ≡ s = cc in
    let same_level : l ≡ level = some-same c (bracket_level c) l level (rw tail h) o in
    shorter (omega arith)

unclosed-comment-below : (b d : ℕ) (c : List ℕ) (level n : ℕ) (q : Piece) → bracket_level c ≡ Some level → closing level (drop (level + 2) c) ≡ None → DashForm (b ∷ d ∷ c) n q → Below n q (level + 4) (piece.Refused OpenComment 0)
unclosed-comment-below b d c level n q o e (a_minus en eq) = shorter (omega arith)
unclosed-comment-below b d c level n q o e (a_line_comment s eq le es all none) = shorter (line-short b d c n level s le o es none)
unclosed-comment-below b d c level n q o e (a_long_comment l m s eq le es h) =
    let r : (j : ℕ) × (n ≡ j + 2) × LongAt l m j c = long-behind b d c n l m s le es h in
    absurd (no_long c level l m r.0 o e r.2)
unclosed-comment-below b d c level n q o e (unclosed_comment l s en eq es h) =
    let tail : c ≡ s = cc in
    let same_level : l ≡ level = some-same c (bracket_level c) l level (rw tail h) o in
    same (omega arith) eq

none-cut : (m : ℕ) (c : List ℕ) (o : Option ℕ) → bracket_level c ≡ None → bracket_level (take m c) ≡ o → o ≡ None
none-cut m c None h e = refl
none-cut m c (Some level) h e = absurd (none-some _ level h (bracket_level-uncut m c level e))

two-more : (b d n : ℕ) (c : List ℕ) → b ≡ 45 → d ≡ 45 → take (n + 2) (b ∷ d ∷ c) ≡ 45 ∷ 45 ∷ take n c
two-more b d n c eb ed =
    let two : n + 2 ≡ suc (suc n) = omega arith in
    rw (two, eb, ed) refl

line-gap : (b d : ℕ) (c : List ℕ) → b ≡ 45 → d ≡ 45 → bracket_level c ≡ None → IsGap (take (prefix_len is_in_line c + 2) (b ∷ d ∷ c))
line-gap b d c eb ed o = spells.line_comment (take (prefix_len is_in_line c) c) (two-more b d _ c eb ed) (run_passes is_in_line c) (none-cut _ c _ o refl)

long-gap : (b d : ℕ) (c : List ℕ) (level k : ℕ) → b ≡ 45 → d ≡ 45 → bracket_level c ≡ Some level → closing level (drop (level + 2) c) ≡ Some k → IsGap (take (k + (level + 2) + (level + 2) + 2) (b ∷ d ∷ c))
long-gap b d c level k eb ed o e = spells.long_comment level k (take (k + (level + 2) + (level + 2)) c) (two-more b d _ c eb ed) (long-cut level k _ c refl o e)

module _ (b d : ℕ) (c : List ℕ) (eb : b ≡ 45) (ed : d ≡ 45) where
  long-comment-read : (level : ℕ) (o : Option ℕ) → bracket_level c ≡ Some level → closing level (drop (level + 2) c) ≡ o → Read (b ∷ d ∷ c) (long_comment level o)
  long-comment-read level (Some k) h i = topped (k + (level + 2) + (level + 2) + 2) (record {
    fits = pieces.gap refl (omega (arith, long-within level k c i)) (long-gap b d c level k eb ed h i);
    top = λ n q f. long-comment-below b d c level k n q h i (form-at Dash n b (d ∷ c) q (class-dash b eb) f);
    forward = omega arith;
  })
  long-comment-read level None h i = topped (level + 4) (record {
    fits = pieces.malformed OpenComment 0 refl (pieces.open_comment level c refl refl refl (rw (eb, ed) refl) h);
    top = λ n q f. unclosed-comment-below b d c level n q h i (form-at Dash n b (d ∷ c) q (class-dash b eb) f);
    forward = tt;
  })

  comment-by : (o : Option ℕ) → bracket_level c ≡ o → Read (b ∷ d ∷ c) (comment_by c o)
  comment-by (Some level) h = long-comment-read level (closing level (drop (level + 2) c)) h refl
  comment-by None h = topped (prefix_len is_in_line c + 2) (record {
    fits = pieces.gap refl (omega (arith, prefix_len-le-length is_in_line c)) (line-gap b d c eb ed h);
    top = λ n q f. comment-below b d c n q h (form-at Dash n b (d ∷ c) q (class-dash b eb) f);
    forward = omega arith;
  })

pub comment-read : (b : ℕ) (rest : List ℕ) → b ≡ 45 → (slice_index rest 0 == 45) ≡ true → Read (b ∷ rest) (comment_by (drop 1 rest) (bracket_level (drop 1 rest)))
comment-read b [] e h = absurd cc
comment-read b (d ∷ c) e h = comment-by b d c e (equal d 45 h) (bracket_level c) refl

not-equal : (b c : ℕ) → (b == c) ≡ false → b ≡ c → ⊥
not-equal b c h e = grind (arith, nat_tests)

second-is : (n b : ℕ) (rest s : List ℕ) → take n (b ∷ rest) ≡ 45 ∷ 45 ∷ s → slice_index rest 0 ≡ 45
second-is zero b rest s e = absurd cc
second-is (suc m) b [] s e = absurd (omega (arith, length-take {A = ℕ} m [], ap length e))
second-is (suc zero) b (d ∷ c) s e = absurd cc
second-is (suc (suc m)) b (d ∷ c) s e = cc

minus-below : (b : ℕ) (rest : List ℕ) (n : ℕ) (q : Piece) → (slice_index rest 0 == 45) ≡ false → DashForm (b ∷ rest) n q → Below n q 1 (piece.Token Minus 1)
minus-below b rest n q h (a_minus en eq) = same en eq
minus-below b rest n q h (a_line_comment s eq le es all none) = absurd (not-equal _ 45 h (second-is n b rest s es))
minus-below b rest n q h (a_long_comment l m s eq le es i) = absurd (not-equal _ 45 h (second-is n b rest s es))
minus-below b rest n q h (unclosed_comment l s en eq es i) =
    let tail : rest ≡ 45 ∷ s = cc in
    absurd (not-equal _ 45 h (ap (λ (l : List ℕ). slice_index l 0) tail))

pub minus-read : (b : ℕ) (rest : List ℕ) → b ≡ 45 → (slice_index rest 0 == 45) ≡ false → Read (b ∷ rest) (piece.Token Minus 1)
minus-read b rest e h = topped 1 (record {
  fits = pieces.token Minus refl (omega arith) (spells.fixed (rw e refl));
  top = λ n q f. minus-below b rest n q h (form-at Dash n b rest q (class-dash b e) f);
  forward = lit< tt;
})
