-- A text has one reading, and what follows of its tokens.
use Rattle.std.proofs.Common.{◌≡◌, ℕ, ◌+◌, ◌-◌, ◌<◌, ◌≤◌, ◌⊎◌, inl, inr, List, [], ◌∷◌, length, take, drop, refl, ap, sym, ◌∙◌, subst, arith, zero, suc, length-drop}
use Rattle.std.specs.Prelude.{All}
use Rattle.std.proofs.lemmas.List.Elements.{All-nil, All-cons}
use Rattle.lua_lexer.specs.declared.token.Token.{Token}
use Rattle.lua_lexer.specs.declared.token.TokenKind.{TokenKind}
use Rattle.lua_lexer.specs.declared.lex_error.LexError.{LexError}
use Rattle.lua_lexer.specs.declared.piece.Fault.{Fault}
use Rattle.lua_lexer.specs.declared.piece.Fault.TheVariants.{BadByte, OpenString, OpenComment, BadEscape, NotWhole, TooBig}
use Rattle.lua_lexer.specs.declared.quoted.Part.TheVariants.{Unclosed, Bad}
use Rattle.lua_lexer.specs.Bytes.{is_name_start}
use Rattle.lua_lexer.specs.Numerals.{is_hexadecimal}
use Rattle.lua_lexer.specs.Escapes.{part_at}
use Rattle.lua_lexer.proofs.Cuts.{right}
use Rattle.std.proofs.lemmas.Bool.Decides.{leb_tells}
use Rattle.std.proofs.Common.{true, false, ◌==◌}
use Rattle.lua_lexer.specs.declared.piece.Piece.{Piece}
use Rattle.lua_lexer.specs.declared.piece.Piece.TheVariants as piece
use Rattle.lua_lexer.specs.Spells.{Spells}
use Rattle.lua_lexer.specs.Lexes as pieces
use Rattle.lua_lexer.specs.Lexes.{Stands, LexesFrom, FailsFrom, done, gap, token, here, behind_gap, behind_token, token_at, refusal, IsInOrder, IsSpelled, IsOnLine, IsWithinText, IsMalformed, place_of}
use Rattle.lua_lexer.specs.Scan.{scan}
use Rattle.lua_lexer.proofs.Drops.{drop-past}
use Rattle.lua_lexer.proofs.Sound.{stands, only, scan-forward}
use Rattle.lua_lexer.proofs.Tops.{Forward}
use Rattle.lua_lexer.proofs.NumeralTops.{goes-on}
use Rattle.lua_lexer.proofs.TextTops.{past-open}

-- two pieces that stand in one place are one
one-piece : (xs : List ℕ) (p q : Piece) → Stands xs p → Stands xs q → p ≡ q
one-piece xs p q a b = only xs p a ∙ sym (only xs q b)

-- a text that is tokens is not refused
pub no_both : (text : List ℕ) (e : LexError) {at : ℕ} {ts : List Token} → LexesFrom text at ts → FailsFrom text e at → ⊥
no_both text e (done d) (here f n h x) = let one : piece.Nothing ≡ piece.Refused f n = one-piece _ _ _ d h in cc
no_both text e (done d) (behind_gap n h x) = let one : piece.Nothing ≡ piece.Gap n = one-piece _ _ _ d h in cc
no_both text e (done d) (behind_token k n h x) = let one : piece.Nothing ≡ piece.Token k n = one-piece _ _ _ d h in cc
no_both text e (gap m g l) (here f n h x) = let one : piece.Gap m ≡ piece.Refused f n = one-piece _ _ _ g h in cc
no_both text e (gap {at = at} m g l) (behind_gap n h x) =
    let one : piece.Gap m ≡ piece.Gap n = one-piece _ _ _ g h in
    let len : n ≡ m = cc in
    no_both text e l (subst (λ (j : ℕ). FailsFrom text e (at + j)) len x)
no_both text e (gap m g l) (behind_token k n h x) = let one : piece.Gap m ≡ piece.Token k n = one-piece _ _ _ g h in cc
no_both text e (token j m g l) (here f n h x) = let one : piece.Token j m ≡ piece.Refused f n = one-piece _ _ _ g h in cc
no_both text e (token j m g l) (behind_gap n h x) = let one : piece.Token j m ≡ piece.Gap n = one-piece _ _ _ g h in cc
no_both text e (token {at = at} j m g l) (behind_token k n h x) =
    let one : piece.Token j m ≡ piece.Token k n = one-piece _ _ _ g h in
    let len : n ≡ m = cc in
    no_both text e l (subst (λ (j : ℕ). FailsFrom text e (at + j)) len x)

-- two lists of tokens of a text are one
pub same_tokens : (text : List ℕ) {at : ℕ} {ts us : List Token} → LexesFrom text at ts → LexesFrom text at us → ts ≡ us
same_tokens text (done d) (done d') = refl
same_tokens text (done d) (gap n h x) = let one : piece.Nothing ≡ piece.Gap n = one-piece _ _ _ d h in absurd cc
same_tokens text (done d) (token k n h x) = let one : piece.Nothing ≡ piece.Token k n = one-piece _ _ _ d h in absurd cc
same_tokens text (gap m g l) (done d) = let one : piece.Gap m ≡ piece.Nothing = one-piece _ _ _ g d in absurd cc
same_tokens text (gap {at = at} {ts = ts} m g l) (gap {ts = us} n h x) =
    let one : piece.Gap m ≡ piece.Gap n = one-piece _ _ _ g h in
    let len : n ≡ m = cc in
    same_tokens text l (subst (λ (j : ℕ). LexesFrom text (at + j) us) len x)
same_tokens text (gap m g l) (token k n h x) = let one : piece.Gap m ≡ piece.Token k n = one-piece _ _ _ g h in absurd cc
same_tokens text (token j m g l) (done d) = let one : piece.Token j m ≡ piece.Nothing = one-piece _ _ _ g d in absurd cc
same_tokens text (token j m g l) (gap n h x) = let one : piece.Token j m ≡ piece.Gap n = one-piece _ _ _ g h in absurd cc
same_tokens text (token {at = at} {ts = ts} j m g l) (token {ts = us} k n h x) =
    let one : piece.Token j m ≡ piece.Token k n = one-piece _ _ _ g h in
    let len : n ≡ m = cc in
    let kind : j ≡ k = cc in
    let rest : ts ≡ us = same_tokens text l (subst (λ (j : ℕ). LexesFrom text (at + j) us) len x) in
    cc

-- two refusals of a text are one
pub same_refusal : (text : List ℕ) (d e : LexError) {at : ℕ} → FailsFrom text d at → FailsFrom text e at → d ≡ e
same_refusal text d e (here {at = at} f n h x) (here g m i y) =
    let one : piece.Refused f n ≡ piece.Refused g m = one-piece _ _ _ h i in
    let fault : f ≡ g = cc in
    let offset : n ≡ m = cc in
    let same : refusal f (at + n) ≡ refusal g (at + m) = ap (λ (j : ℕ). refusal f (at + j)) offset ∙ ap (λ (j : Fault). refusal j (at + m)) fault in
    x ∙ (same ∙ sym y)
same_refusal text d e (here f n h x) (behind_gap m i y) = let one : piece.Refused f n ≡ piece.Gap m = one-piece _ _ _ h i in absurd cc
same_refusal text d e (here f n h x) (behind_token k m i y) = let one : piece.Refused f n ≡ piece.Token k m = one-piece _ _ _ h i in absurd cc
same_refusal text d e (behind_gap n h x) (here f m i y) = let one : piece.Gap n ≡ piece.Refused f m = one-piece _ _ _ h i in absurd cc
same_refusal text d e (behind_gap {at = at} n h x) (behind_gap m i y) =
    let one : piece.Gap n ≡ piece.Gap m = one-piece _ _ _ h i in
    let len : m ≡ n = cc in
    same_refusal text d e x (subst (λ (j : ℕ). FailsFrom text e (at + j)) len y)
same_refusal text d e (behind_gap n h x) (behind_token k m i y) = let one : piece.Gap n ≡ piece.Token k m = one-piece _ _ _ h i in absurd cc
same_refusal text d e (behind_token j n h x) (here f m i y) = let one : piece.Token j n ≡ piece.Refused f m = one-piece _ _ _ h i in absurd cc
same_refusal text d e (behind_token j n h x) (behind_gap m i y) = let one : piece.Token j n ≡ piece.Gap m = one-piece _ _ _ h i in absurd cc
same_refusal text d e (behind_token {at = at} j n h x) (behind_token k m i y) =
    let one : piece.Token j n ≡ piece.Token k m = one-piece _ _ _ h i in
    let len : m ≡ n = cc in
    same_refusal text d e x (subst (λ (j : ℕ). FailsFrom text e (at + j)) len y)

-- each text is tokens or is refused
abbrev pub Reads : List ℕ → ℕ → Type 0
Reads text at = ((ts : List Token) × LexesFrom text at ts) ⊎ ((e : LexError) × FailsFrom text e at)

read_step : (text : List ℕ) (at : ℕ) (p : Piece) → Stands (drop at text) p → Forward p → ((n : ℕ) → 0 < n → Reads text (at + n)) → Reads text at
read_step text at piece.Nothing s f further = inl ([], done s)
read_step text at (piece.Refused g n) s f further = inr (refusal g (at + n), here g n s refl)
read_step text at (piece.Gap n) s f further = elim (further n f) [ inl a ↦ inl (a.0, gap n s a.1) | inr a ↦ inr (a.0, behind_gap n s a.1) ]
read_step text at (piece.Token k n) s f further = elim (further n f) [ inl a ↦ inl (token_at text at k n ∷ a.0, token k n s a.1) | inr a ↦ inr (a.0, behind_token k n s a.1) ]

pub reads : (fuel : ℕ) (text : List ℕ) (at : ℕ) → length text ≤ at + fuel → Reads text at
reads zero text at h = inl ([], done (pieces.end refl (drop-past at text (omega arith))))
reads (suc fuel) text at h = read_step text at (scan (drop at text)) (stands (drop at text)) (scan-forward (drop at text)) (λ n more. reads fuel text (at + n) (omega arith))

-- what stands has a byte and lies within the text
moves : (xs : List ℕ) (p : Piece) → Stands xs p → Forward p
moves xs p s = subst (λ (q : Piece). Forward q) (sym (only xs p s)) (scan-forward xs)

gap-within : (xs : List ℕ) (n : ℕ) → Stands xs (piece.Gap n) → n ≤ length xs
gap-within xs n (pieces.end e h) = absurd cc
gap-within xs n (pieces.longest m (pieces.token k e le s) most) = absurd cc
gap-within xs n (pieces.longest m (pieces.gap e le s) most) = let len : n ≡ m = cc in omega arith
gap-within xs n (pieces.longest m (pieces.malformed f o e s) most) = absurd cc
gap-within xs n (pieces.no_piece e h none) = absurd cc

pub record TokenIs (xs : List ℕ) (k : TokenKind) (n : ℕ) : Type 0 where
  pub within : n ≤ length xs
  pub spelled : Spells k (take n xs)

token-is : (xs : List ℕ) (k : TokenKind) (n : ℕ) → Stands xs (piece.Token k n) → TokenIs xs k n
token-is xs k n (pieces.end e h) = absurd cc
token-is xs k n (pieces.longest m (pieces.token j e le s) most) =
    let len : m ≡ n = cc in
    let kind : j ≡ k = cc in
    record { within = omega arith; spelled = subst (λ (i : ℕ). Spells k (take i xs)) len (subst (λ (i : TokenKind). Spells i (take m xs)) kind s) }
token-is xs k n (pieces.longest m (pieces.gap e le s) most) = absurd cc
token-is xs k n (pieces.longest m (pieces.malformed f o e s) most) = absurd cc
token-is xs k n (pieces.no_piece e h none) = absurd cc

order-from : (from at len : ℕ) (ts : List Token) → from ≤ at → IsInOrder at len ts → IsInOrder from len ts
order-from from at len [] h o = omega arith
order-from from at len (t ∷ ts) h o = (let first : at ≤ t.start = o.0 in omega arith, o.1, o.2)

pub in-order : (text : List ℕ) {at : ℕ} {ts : List Token} → at ≤ length text → LexesFrom text at ts → IsInOrder at (length text) ts
in-order text h (done d) = h
in-order text h (gap {at = at} {ts = ts} n s l) = order-from at (at + n) (length text) ts (omega arith) (in-order text (omega (arith, gap-within (drop at text) n s, length-drop at text)) l)
in-order text h (token {at = at} k n s l) =
    let some : 0 < n = moves (drop at text) (piece.Token k n) s in
    (omega arith, omega arith, in-order text (omega (arith, (token-is (drop at text) k n s).within, length-drop at text)) l)

spelled-at : (text : List ℕ) (at : ℕ) (k : TokenKind) (n : ℕ) → Stands (drop at text) (piece.Token k n) → IsSpelled text (token_at text at k n)
spelled-at text at k n s =
    let len : n ≡ at + n - at = omega arith in
    subst (λ (i : ℕ). Spells k (take i (drop at text))) len (token-is (drop at text) k n s).spelled

pub all-spelled : (text : List ℕ) {at : ℕ} {ts : List Token} → LexesFrom text at ts → All (IsSpelled text) ts
all-spelled text (done d) = All-nil (IsSpelled text)
all-spelled text (gap n s l) = all-spelled text l
all-spelled text (token {at = at} {ts = ts} k n s l) = All-cons (IsSpelled text) (token_at text at k n) ts (spelled-at text at k n s) (all-spelled text l)

pub all-on-line : (text : List ℕ) {at : ℕ} {ts : List Token} → LexesFrom text at ts → All (IsOnLine text) ts
all-on-line text (done d) = All-nil (IsOnLine text)
all-on-line text (gap n s l) = all-on-line text l
all-on-line text (token {at = at} {ts = ts} k n s l) = All-cons (IsOnLine text) (token_at text at k n) ts refl (all-on-line text l)

pub all-within : (text : List ℕ) {at : ℕ} {ts : List Token} → at ≤ length text → LexesFrom text at ts → All (IsWithinText text) ts
all-within text h (done d) = All-nil (IsWithinText text)
all-within text h (gap {at = at} n s l) = all-within text (omega (arith, gap-within (drop at text) n s, length-drop at text)) l
all-within text h (token {at = at} {ts = ts} k n s l) =
    let some : 0 < n = moves (drop at text) (piece.Token k n) s in
    let end : at + n ≤ length text = omega (arith, (token-is (drop at text) k n s).within, length-drop at text) in
    All-cons (IsWithinText text) (token_at text at k n) ts (omega arith, end) (all-within text end l)

two-bytes : (xs : List ℕ) → is_hexadecimal xs ≡ true → 2 ≤ length xs
two-bytes [] h = absurd cc
two-bytes (a ∷ []) h = let second : false ≡ true = right (a == 48) false h in absurd cc
two-bytes (a ∷ b ∷ xs) h = omega arith

escape-in : (q n : ℕ) (xs : List ℕ) → part_at q (drop n xs) ≡ Bad → n ≤ length xs
escape-in q n xs e = elim (leb_tells n (length xs)) [
  | inl t ↦ t.1
  | inr t ↦ (let past : length xs < n = t.1 in let o : part_at q (drop n xs) ≡ Unclosed = past-open q n xs (omega arith) in absurd cc)
]

malformed-in : (xs : List ℕ) (n offset : ℕ) (f : Fault) → IsMalformed xs n f offset → offset ≤ length xs
malformed-in xs n o f (pieces.not_whole hex m en ef eo h t) = omega arith
malformed-in xs n o f (pieces.point_first en ef eo h d) = omega arith
malformed-in xs n o f (pieces.too_big hex le ef eo h v) = omega arith
malformed-in xs n o f (pieces.letter hex m en ef eo h v s x d none) = omega (arith, goes-on is_name_start xs m refl s)
malformed-in xs n o f (pieces.no_digit en ef eo h) = omega (arith, two-bytes xs h)
malformed-in xs n o f (pieces.open_text v ef eo h ps un) = omega arith
malformed-in xs n o f (pieces.bad_escape v ef eo h ps un) = omega (arith, escape-in _ n xs un)
malformed-in xs n o f (pieces.open_bracket level en ef eo h) = omega arith
malformed-in xs n o f (pieces.open_comment level c en ef eo s h) = omega arith

refused-in : (xs : List ℕ) (f : Fault) (o : ℕ) → Stands xs (piece.Refused f o) → o ≤ length xs
refused-in xs f o (pieces.end e h) = absurd cc
refused-in xs f o (pieces.longest m (pieces.token k e le s) most) = absurd cc
refused-in xs f o (pieces.longest m (pieces.gap e le s) most) = absurd cc
refused-in xs f o (pieces.longest m (pieces.malformed g i e s) most) = let same : o ≡ i = cc in omega (arith, malformed-in xs m i g s)
refused-in xs f o (pieces.no_piece e h none) = let same : o ≡ 0 = cc in omega arith

place-is : (f : Fault) (at : ℕ) → place_of (refusal f at) ≡ at
place-is BadByte at = refl
place-is OpenString at = refl
place-is OpenComment at = refl
place-is BadEscape at = refl
place-is NotWhole at = refl
place-is TooBig at = refl

pub place-within : (text : List ℕ) (e : LexError) {at : ℕ} → at ≤ length text → FailsFrom text e at → place_of e ≤ length text
place-within text e h (here {at = at} f o s x) = omega (arith, ap place_of x ∙ place-is f (at + o), refused-in (drop at text) f o s, length-drop at text)
place-within text e h (behind_gap {at = at} n s l) = place-within text e (omega (arith, gap-within (drop at text) n s, length-drop at text)) l
place-within text e h (behind_token {at = at} k n s l) = place-within text e (omega (arith, (token-is (drop at text) k n s).within, length-drop at text)) l
