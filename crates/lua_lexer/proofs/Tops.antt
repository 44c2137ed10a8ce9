-- The longest piece that fits at the front, and blanks and words as such.
use Rattle.std.proofs.Common.{◌≡◌, ℕ, ◌<◌, ◌≤◌, ◌⊎◌, inl, inr, List, [], ◌∷◌, take, Option, Some, Bool, true, false, cond, refl, ap, sym, ◌∙◌, subst, arith, suc, lit<}
use Rattle.std.specs.Prelude.{◌≢◌}
use Rattle.std.specs.List.{prefix_len}
use Rattle.std.proofs.lemmas.Bool.Decides.{eqb_tells}
use Rattle.lua_lexer.specs.declared.token.TokenKind.{TokenKind}
use Rattle.lua_lexer.specs.declared.piece.Piece.{Piece}
use Rattle.lua_lexer.specs.declared.piece.Piece.TheVariants as piece
use Rattle.lua_lexer.specs.declared.piece.Fault.TheVariants.{BadByte}
use Rattle.lua_lexer.specs.declared.token.TokenKind.TheVariants.{Name}
use Rattle.lua_lexer.specs.Bytes.{is_blank, is_name_start, is_name_byte}
use Rattle.lua_lexer.specs.Spelling.{spelling}
use Rattle.lua_lexer.specs.Spells as spells
use Rattle.lua_lexer.specs.Spells.{Spells, IsWord}
use Rattle.lua_lexer.specs.Lexes as pieces
use Rattle.lua_lexer.specs.Lexes.{Fits, Stands}
use Rattle.lua_lexer.specs.Scan.{word_kind}
use Rattle.lua_lexer.proofs.Words.{kind_of, is_a_name, is_a_keyword, start_is_byte, run_passes, prefix-cut}
use Rattle.lua_lexer.proofs.Classes.{Class, Blank, Word, class, class-blank, class-word, good, GoodOf, GoodAs}
use Rattle.lua_lexer.proofs.Forms.{FormAs, form, a_blank, a_word}
use Rattle.std.proofs.lemmas.List.Sums.{prefix_len-le-length}

-- what fits with n bytes is shorter than e bytes, or is this piece
pub data Below (n : ℕ) (q : Piece) (e : ℕ) (p : Piece) : Type 0 where
  shorter : n < e → Below n q e p
  same : n ≡ e → q ≡ p → Below n q e p

-- a token or a gap has a byte
abbrev pub Forward : Piece → Type 0
Forward (piece.Gap n) = 0 < n
Forward (piece.Token k n) = 0 < n
Forward _ = Unit {0}

-- this piece of e bytes is the longest that fits, and the only one of that length
pub record Top (xs : List ℕ) (e : ℕ) (p : Piece) : Type 0 where
  pub fits : Fits xs e p
  pub top : (n : ℕ) (q : Piece) → Fits xs n q → Below n q e p
  pub forward : Forward p

pub data Read (xs : List ℕ) (p : Piece) : Type 0 where
  topped : (e : ℕ) → Top xs e p → Read xs p
  foreign : p ≡ piece.Refused BadByte 0 → ((n : ℕ) (q : Piece) → Fits xs n q → ⊥) → Read xs p

pub choose : (xs : List ℕ) (t : Bool) (p q : Piece) → (t ≡ true → Read xs p) → (t ≡ false → Read xs q) → Read xs (cond t p q)
choose xs true p q f g = f refl
choose xs false p q f g = g refl

pub at-most : (n e : ℕ) → n ≤ e → (n < e) ⊎ (n ≡ e)
at-most n e h = elim (eqb_tells n e) [ inl a ↦ inr a.1 | inr a ↦ inl (let differ : n ≢ e = a.1 in omega arith) ]

pub form-at : (c : Class) (n b : ℕ) (rest : List ℕ) (q : Piece) → class b ≡ c → Fits (b ∷ rest) n q → FormAs c (b ∷ rest) n q
form-at c n b rest q e f = rw e at (form n b rest q f)

pub blank-read : (b : ℕ) (rest : List ℕ) → is_blank b ≡ true → Read (b ∷ rest) (piece.Gap 1)
blank-read b rest h = topped 1 (record {
  fits = pieces.gap refl (omega arith) (spells.blank b refl h);
  top = λ n q f. elim (form-at Blank n b rest q (class-blank b h) f) [ a_blank e g ↦ same e g ];
  forward = lit< tt;
})

-- a spelling in the class of words is of the kind of its word
keyword-kind : (b : ℕ) (s : List ℕ) (j : TokenKind) → is_name_start b ≡ true → spelling j ≡ Some (b ∷ s) → word_kind (b ∷ s) ≡ j
keyword-kind b s j h e =
    let g : GoodAs (class b) (b ∷ s) j = subst (λ (o : Option (List ℕ)). GoodOf j o) e (good j) in
    (rw (class-word b h) at g).1

named : (b : ℕ) (s : List ℕ) (j : TokenKind) → is_name_start b ≡ true → word_kind (b ∷ s) ≡ Name → spelling j ≢ Some (b ∷ s)
named b s j h e no_name =
    let kind : j ≡ Name = sym (keyword-kind b s j h no_name) ∙ e in
    let none : spelling Name ≡ Some (b ∷ s) = subst (λ (k : TokenKind). spelling k ≡ Some (b ∷ s)) kind no_name in
    absurd cc

word-spells : (b : ℕ) (s : List ℕ) → IsWord (b ∷ s) → Spells (word_kind (b ∷ s)) (b ∷ s)
word-spells b s w = elim (kind_of (b ∷ s)) [
  | is_a_name e ↦ spells.name e w (λ j. named b s j w.0 e)
  | is_a_keyword e ↦ spells.fixed e
]

run-word : (b : ℕ) (rest : List ℕ) → is_name_start b ≡ true → Spells (word_kind (take (prefix_len is_name_byte (b ∷ rest)) (b ∷ rest))) (take (prefix_len is_name_byte (b ∷ rest)) (b ∷ rest))
run-word b rest h =
    let first : is_name_byte b ≡ true = start_is_byte b h in
    let one : prefix_len is_name_byte (b ∷ rest) ≡ suc (prefix_len is_name_byte rest) = rw first (omega arith) in
    let word : Spells (word_kind (take (suc (prefix_len is_name_byte rest)) (b ∷ rest))) (take (suc (prefix_len is_name_byte rest)) (b ∷ rest)) = word-spells b (take (prefix_len is_name_byte rest) rest) (h, run_passes is_name_byte rest) in
    subst (λ (n : ℕ). Spells (word_kind (take n (b ∷ rest))) (take n (b ∷ rest))) (sym one) word

word-below : (xs : List ℕ) (n : ℕ) (q : Piece) → prefix_len is_name_byte (take n xs) ≡ n → q ≡ piece.Token (word_kind (take n xs)) n → Below n q (prefix_len is_name_byte xs) (piece.Token (word_kind (take (prefix_len is_name_byte xs) xs)) (prefix_len is_name_byte xs))
word-below xs n q h e = elim (at-most n (prefix_len is_name_byte xs) (omega (arith, prefix-cut is_name_byte n xs))) [
  | inl lt ↦ shorter lt
  | inr eq ↦ same eq (e ∙ ap (λ (m : ℕ). piece.Token (word_kind (take m xs)) m) eq)
]

pub word-read : (b : ℕ) (rest : List ℕ) → is_name_start b ≡ true → Read (b ∷ rest) (piece.Token (word_kind (take (prefix_len is_name_byte (b ∷ rest)) (b ∷ rest))) (prefix_len is_name_byte (b ∷ rest)))
word-read b rest h = topped (prefix_len is_name_byte (b ∷ rest)) (record {
  fits = pieces.token _ refl (prefix_len-le-length is_name_byte (b ∷ rest)) (run-word b rest h);
  top = λ n q f. elim (form-at Word n b rest q (class-word b h) f) [ a_word p e ↦ word-below (b ∷ rest) n q p e ];
  forward = let first : is_name_byte b ≡ true = start_is_byte b h in rw first (omega arith);
})

below-le : (n : ℕ) (q : Piece) (e : ℕ) (p : Piece) → Below n q e p → n ≤ e
below-le n q e p (shorter h) = omega arith
below-le n q e p (same h g) = omega arith

pub read-stands : (xs : List ℕ) (p : Piece) → xs ≢ [] → Read xs p → Stands xs p
read-stands xs p some (topped e t) = pieces.longest e t.fits (λ m q f. below-le m q e p (t.top m q f))
read-stands xs p some (foreign e none) = pieces.no_piece e some none

below-same : (n : ℕ) (q : Piece) (e : ℕ) (p : Piece) → Below n q e p → e ≤ n → q ≡ p
below-same n q e p (shorter h) le = absurd (omega arith)
below-same n q e p (same h g) le = g

-- what stands is what is read
pub read-only : (xs : List ℕ) (p q : Piece) → xs ≢ [] → Read xs p → Stands xs q → q ≡ p
read-only xs p q some r (pieces.end e none) = absurd (some none)
read-only xs p q some (topped e t) (pieces.longest n f most) = below-same n q e p (t.top n q f) (most e p t.fits)
read-only xs p q some (topped e t) (pieces.no_piece h s none) = absurd (none e p t.fits)
read-only xs p q some (foreign e none) (pieces.longest n f most) = absurd (none n q f)
read-only xs p q some (foreign e none) (pieces.no_piece h s none') = h ∙ sym e
