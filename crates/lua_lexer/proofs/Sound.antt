-- What is read at the front is what stands there, and nothing else stands there.
use Rattle.std.proofs.Common.{◌≡◌, ℕ, ◌<◌, List, [], ◌∷◌, length, take, Option, Some, Bool, true, false, refl, ap, subst, arith}
use Rattle.std.specs.Prelude.{◌≢◌}
use Rattle.lua_lexer.specs.declared.piece.Piece.{Piece}
use Rattle.lua_lexer.specs.declared.piece.Piece.TheVariants as piece
use Rattle.lua_lexer.specs.Lexes as pieces
use Rattle.lua_lexer.specs.Lexes.{Stands, Fits, IsMalformed}
use Rattle.lua_lexer.specs.declared.token.TokenKind.{TokenKind}
use Rattle.lua_lexer.specs.declared.piece.Fault.{Fault}
use Rattle.lua_lexer.specs.Spelling.{spelling}
use Rattle.lua_lexer.specs.Spells as spells
use Rattle.lua_lexer.specs.Spells.{Spells, IsGap}
use Rattle.lua_lexer.specs.Numerals.{IsNumeral, lead_of}
use Rattle.lua_lexer.specs.Brackets.{bracket_level}
use Rattle.lua_lexer.specs.Scan.{scan}
use Rattle.lua_lexer.proofs.Cuts.{equal}
use Rattle.lua_lexer.proofs.Classes.{class-other, good, GoodOf}
use Rattle.lua_lexer.proofs.PartCuts.{take-nil}
use Rattle.lua_lexer.proofs.Tops.{Read, topped, foreign, Forward, choose, blank-read, word-read, read-stands, read-only}
use Rattle.lua_lexer.proofs.BracketTops.{bracket-read, comment-read, minus-read}
use Rattle.lua_lexer.proofs.NumeralTops.{numeral-read}
use Rattle.lua_lexer.proofs.TextTops.{quote-read}
use Rattle.lua_lexer.proofs.SymbolTops.{other-read, dots-read}

pub scan-read : (b : ℕ) (rest : List ℕ) → Read (b ∷ rest) (scan (b ∷ rest))
unfolding scan
scan-read b rest =
    choose (b ∷ rest) _ _ _ (λ h. blank-read b rest h) (λ h1.
    choose (b ∷ rest) _ _ _ (λ h. word-read b rest h) (λ h2.
    choose (b ∷ rest) _ _ _ (λ h. numeral-read b rest h) (λ h3.
    choose (b ∷ rest) _ _ _ (λ h. quote-read b rest h) (λ h4.
    choose (b ∷ rest) _ _ _ (λ h. bracket-read b rest (equal b 91 h)) (λ h5.
    choose (b ∷ rest) _ _ _ (λ h. choose (b ∷ rest) _ _ _ (λ i. comment-read b rest (equal b 45 h) i) (λ i. minus-read b rest (equal b 45 h) i)) (λ h6.
    choose (b ∷ rest) _ _ _ (λ h. dots-read b rest (equal b 46 h)) (λ h7.
    other-read b rest (class-other b h1 h2 h3 h4 h5 h6 h7))))))))

some-bytes : (b : ℕ) (rest : List ℕ) → (b ∷ rest) ≢ []
some-bytes b rest e = cc

pub stands : (xs : List ℕ) → Stands xs (scan xs)
unfolding scan
stands [] = pieces.end refl refl
stands (b ∷ rest) = read-stands (b ∷ rest) (scan (b ∷ rest)) (some-bytes b rest) (scan-read b rest)

-- nothing fits into an empty rest
no_spelling : (k : TokenKind) → GoodOf k (spelling k) → spelling k ≡ Some [] → ⊥
no_spelling k g e = subst (λ (o : Option (List ℕ)). GoodOf k o) e g

no_token : (k : TokenKind) → Spells k [] → ⊥
unfolding bracket_level
no_token k (spells.fixed e) = no_spelling k (good k) e
no_token k (spells.name e w none) = w
no_token k (spells.numeral hex e h v) = let some : lead_of hex < 0 = h.some in omega arith
no_token k (spells.quoted place v e h) = let begins : false ≡ true = h.begins in cc
no_token k (spells.long level n e h) = let opens : bracket_level [] ≡ Some level = h.opens in cc

no_gap : IsGap [] → ⊥
no_gap (spells.blank b e h) = cc
no_gap (spells.line_comment c e all none) = cc
no_gap (spells.long_comment level n c e h) = cc

no_numeral : (hex : Bool) (m : ℕ) → IsNumeral hex (take m []) → ⊥
no_numeral hex m h = let some : lead_of hex < length (take {A = ℕ} m []) = h.some in omega (arith, ap length (take-nil m))

no_malformed : (n offset : ℕ) (f : Fault) → IsMalformed [] n f offset → ⊥
unfolding bracket_level
no_malformed n o f (pieces.not_whole hex m en ef eo h t) = no_numeral hex m h
no_malformed n o f (pieces.point_first en ef eo h d) = omega arith
no_malformed n o f (pieces.too_big hex le ef eo h v) = no_numeral hex n h
no_malformed n o f (pieces.letter hex m en ef eo h v s x d none) = no_numeral hex m h
no_malformed n o f (pieces.no_digit en ef eo h) = cc
no_malformed n o f (pieces.open_text v ef eo h ps un) = cc
no_malformed n o f (pieces.bad_escape v ef eo h ps un) = cc
no_malformed n o f (pieces.open_bracket level en ef eo h) = cc
no_malformed n o f (pieces.open_comment level c en ef eo s h) = cc

no_fit : (n : ℕ) (p : Piece) → Fits [] n p → ⊥
no_fit n p (pieces.token k e le s) = no_token k (subst (λ (l : List ℕ). Spells k l) (take-nil n) s)
no_fit n p (pieces.gap e le s) = no_gap (subst (λ (l : List ℕ). IsGap l) (take-nil n) s)
no_fit n p (pieces.malformed f o e s) = no_malformed n o f s

only-end : (p : Piece) → Stands [] p → p ≡ piece.Nothing
only-end p (pieces.end e h) = e
only-end p (pieces.longest n f most) = absurd (no_fit n p f)
only-end p (pieces.no_piece e h none) = absurd (h refl)

pub only : (xs : List ℕ) (p : Piece) → Stands xs p → p ≡ scan xs
unfolding scan
only [] p s = only-end p s
only (b ∷ rest) p s = read-only (b ∷ rest) (scan (b ∷ rest)) p (some-bytes b rest) (scan-read b rest) s

forward : (xs : List ℕ) (p : Piece) → Read xs p → Forward p
forward xs p (topped e t) = t.forward
forward xs p (foreign e none) = rw e tt

pub scan-forward : (xs : List ℕ) → Forward (scan xs)
unfolding scan
scan-forward [] = tt
scan-forward (b ∷ rest) = forward (b ∷ rest) (scan (b ∷ rest)) (scan-read b rest)
