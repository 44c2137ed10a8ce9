-- Steps of the loops over the parts of a text in quotes.
use Rattle.std.proofs.Common.{◌≡◌, ℕ, ◌+◌, ◌<◌, ◌≤◌, ◌-◌, List, [], ◌∷◌, drop, arith, zero, suc, ◌++◌, append_assoc, append-nil}
use Rattle.lua_lexer.specs.declared.quoted.Part.{Part}
use Rattle.lua_lexer.specs.declared.quoted.Part.TheVariants.{Close, Unclosed, Byte, Skip, Bad}
use Rattle.lua_lexer.specs.declared.piece.Piece.{Piece}
use Rattle.lua_lexer.specs.declared.piece.Piece.TheVariants as piece
use Rattle.lua_lexer.specs.declared.piece.Fault.TheVariants.{OpenString, BadEscape}
use Rattle.lua_lexer.specs.declared.token.TokenKind.TheVariants.{Text}
use Rattle.lua_lexer.specs.Escapes.{part_at}
use Rattle.lua_lexer.specs.Values.{bytes_from, bytes_by}
use Rattle.lua_lexer.specs.Scan.{quoted_from, quoted_by}

-- one more part
pub quoted_next : (m i q : ℕ) (xs : List ℕ) (at : ℕ) (p : Part) (whole : Piece) → i < m → p ≡ part_at q (drop at xs) → quoted_from (m - i) q xs at ≡ whole → quoted_by (λ k. quoted_from (m - (i + 1)) q xs k) at p ≡ whole
unfolding quoted_from
quoted_next m i q xs at p whole lt e inv =
    let s : m - i ≡ suc (m - (i + 1)) = omega arith in
    rw e (rw s at inv)

module _ (m i q : ℕ) (xs : List ℕ) (at : ℕ) (ys : List ℕ) (whole : Piece) (lt : i < m) (here : ys ≡ drop at xs) (inv : quoted_from (m - i) q xs at ≡ whole) where
  pub quoted_close : Close ≡ part_at q ys → piece.Token Text (at + 1) ≡ whole
  quoted_close e = quoted_next m i q xs at Close whole lt (rw here at e) inv

  pub quoted_open : Unclosed ≡ part_at q ys → piece.Refused OpenString 0 ≡ whole
  quoted_open e = quoted_next m i q xs at Unclosed whole lt (rw here at e) inv

  pub quoted_bad : Bad ≡ part_at q ys → piece.Refused BadEscape at ≡ whole
  quoted_bad e = quoted_next m i q xs at Bad whole lt (rw here at e) inv

  pub quoted_byte : (b n : ℕ) → Byte b n ≡ part_at q ys → quoted_from (m - (i + 1)) q xs (at + n) ≡ whole
  quoted_byte b n e = quoted_next m i q xs at (Byte b n) whole lt (rw here at e) inv

  pub quoted_skip : (n : ℕ) → Skip n ≡ part_at q ys → quoted_from (m - (i + 1)) q xs (at + n) ≡ whole
  quoted_skip n e = quoted_next m i q xs at (Skip n) whole lt (rw here at e) inv

pub quoted_end : (m i q : ℕ) (xs : List ℕ) (at : ℕ) (whole : Piece) → m ≤ i → quoted_from (m - i) q xs at ≡ whole → piece.Refused OpenString 0 ≡ whole
unfolding quoted_from
quoted_end m i q xs at whole h inv = let s : m - i ≡ zero = omega arith in rw s at inv

bytes_next : (m i q : ℕ) (xs : List ℕ) (at : ℕ) (p : Part) (out whole : List ℕ) → i < m → p ≡ part_at q (drop at xs) → out ++ bytes_from (m - i) q xs at ≡ whole → out ++ bytes_by (λ k. bytes_from (m - (i + 1)) q xs k) at p ≡ whole
unfolding bytes_from
bytes_next m i q xs at p out whole lt e inv =
    let s : m - i ≡ suc (m - (i + 1)) = omega arith in
    rw e (rw s at inv)

module _ (m i q : ℕ) (xs : List ℕ) (at : ℕ) (ys : List ℕ) (out whole : List ℕ) (lt : i < m) (here : ys ≡ drop at xs) (inv : out ++ bytes_from (m - i) q xs at ≡ whole) where
  pub bytes_close : Close ≡ part_at q ys → out ≡ whole
  bytes_close e = rw append-nil at (bytes_next m i q xs at Close out whole lt (rw here at e) inv)

  pub bytes_open : Unclosed ≡ part_at q ys → out ≡ whole
  bytes_open e = rw append-nil at (bytes_next m i q xs at Unclosed out whole lt (rw here at e) inv)

  pub bytes_bad : Bad ≡ part_at q ys → out ≡ whole
  bytes_bad e = rw append-nil at (bytes_next m i q xs at Bad out whole lt (rw here at e) inv)

  pub bytes_byte : (b n : ℕ) → Byte b n ≡ part_at q ys → (out ++ b ∷ []) ++ bytes_from (m - (i + 1)) q xs (at + n) ≡ whole
  bytes_byte b n e = rw append_assoc (bytes_next m i q xs at (Byte b n) out whole lt (rw here at e) inv)

  pub bytes_skip : (n : ℕ) → Skip n ≡ part_at q ys → out ++ bytes_from (m - (i + 1)) q xs (at + n) ≡ whole
  bytes_skip n e = bytes_next m i q xs at (Skip n) out whole lt (rw here at e) inv

pub bytes_end : (m i q : ℕ) (xs : List ℕ) (at : ℕ) (out whole : List ℕ) → m ≤ i → out ++ bytes_from (m - i) q xs at ≡ whole → out ≡ whole
unfolding bytes_from
bytes_end m i q xs at out whole h inv = let s : m - i ≡ zero = omega arith in rw append-nil at (rw s at inv)
