-- Texts in quotes, and what is malformed like one, as the longest that fit.
use Rattle.std.proofs.Common.{◌≡◌, ℕ, ◌+◌, ◌<◌, ◌≤◌, inl, inr, List, [], ◌∷◌, length, take, drop, true, refl, ap, sym, ◌∙◌, subst, arith, zero, suc, length-take, get_or-take}
use Rattle.std.specs.Prelude.{slice_index}
use Rattle.std.proofs.lemmas.Bool.Decides.{leb_tells}
use Rattle.lua_lexer.specs.declared.piece.Piece.{Piece}
use Rattle.lua_lexer.specs.declared.piece.Piece.TheVariants as piece
use Rattle.lua_lexer.specs.declared.piece.Fault.TheVariants.{OpenString, BadEscape}
use Rattle.lua_lexer.specs.declared.quoted.Part.{Part}
use Rattle.lua_lexer.specs.declared.quoted.Part.TheVariants.{Close, Unclosed, Byte, Skip, Bad}
use Rattle.lua_lexer.specs.declared.token.TokenKind.TheVariants.{Text}
use Rattle.lua_lexer.specs.Bytes.{is_quote}
use Rattle.lua_lexer.specs.Escapes.{Parts, part_at}
use Rattle.lua_lexer.specs.Escapes as escapes
use Rattle.lua_lexer.specs.Spells as spells
use Rattle.lua_lexer.specs.Spells.{IsQuoted}
use Rattle.lua_lexer.specs.Lexes as pieces
use Rattle.lua_lexer.specs.Values.{bytes_from, bytes_by}
use Rattle.lua_lexer.specs.Scan.{quoted_from, quoted_by}
use Rattle.lua_lexer.proofs.Drops.{drop-past}
use Rattle.lua_lexer.proofs.PartCuts.{part-out, part-back, parts-out, parts-back, Grows, part-grows}
use Rattle.lua_lexer.proofs.Classes.{Quote, class-quote}
use Rattle.lua_lexer.proofs.Forms.{QuoteForm, a_text, unclosed_text, a_bad_escape}
use Rattle.lua_lexer.proofs.Tops.{same, Read, topped, form-at}

-- what the reading of parts from a place on comes to
pub data Found (q : ℕ) (s : List ℕ) (at : ℕ) (p : Piece) : Type 0 where
  found_close : (place : ℕ) (v : List ℕ) → p ≡ piece.Token Text (place + 1) → Parts q s at place v → part_at q (drop place s) ≡ Close → Found q s at p
  found_open : (place : ℕ) (v : List ℕ) → p ≡ piece.Refused OpenString 0 → Parts q s at place v → part_at q (drop place s) ≡ Unclosed → Found q s at p
  found_bad : (place : ℕ) (v : List ℕ) → p ≡ piece.Refused BadEscape place → Parts q s at place v → part_at q (drop place s) ≡ Bad → Found q s at p

byte-found : (q : ℕ) (s : List ℕ) (at b n : ℕ) (p : Piece) → part_at q (drop at s) ≡ Byte b n → Found q s (at + n) p → Found q s at p
byte-found q s at b n p e (found_close place v h ps c) = found_close place (b ∷ v) h (escapes.byte b n e ps) c
byte-found q s at b n p e (found_open place v h ps c) = found_open place (b ∷ v) h (escapes.byte b n e ps) c
byte-found q s at b n p e (found_bad place v h ps c) = found_bad place (b ∷ v) h (escapes.byte b n e ps) c

skip-found : (q : ℕ) (s : List ℕ) (at n : ℕ) (p : Piece) → part_at q (drop at s) ≡ Skip n → Found q s (at + n) p → Found q s at p
skip-found q s at n p e (found_close place v h ps c) = found_close place v h (escapes.skip n e ps) c
skip-found q s at n p e (found_open place v h ps c) = found_open place v h (escapes.skip n e ps) c
skip-found q s at n p e (found_bad place v h ps c) = found_bad place v h (escapes.skip n e ps) c

found-step : (q : ℕ) (s : List ℕ) (further : ℕ → Piece) (at : ℕ) (p : Part) → part_at q (drop at s) ≡ p → Grows p → ((n : ℕ) → 0 < n → Found q s (at + n) (further (at + n))) → Found q s at (quoted_by further at p)
found-step q s further at Close e g f = found_close at [] refl escapes.none e
found-step q s further at Unclosed e g f = found_open at [] refl escapes.none e
found-step q s further at (Byte b n) e g f = byte-found q s at b n _ e (f n g)
found-step q s further at (Skip n) e g f = skip-found q s at n _ e (f n g)
found-step q s further at Bad e g f = found_bad at [] refl escapes.none e

pub past-open : (q at : ℕ) (s : List ℕ) → length s ≤ at → part_at q (drop at s) ≡ Unclosed
unfolding part_at
past-open q at s h = rw (drop-past at s h) refl

found : (parts q : ℕ) (s : List ℕ) (at : ℕ) → length s ≤ at + parts → Found q s at (quoted_from parts q s at)
unfolding quoted_from
found zero q s at h = found_open at [] refl escapes.none (past-open q at s (omega arith))
found (suc parts) q s at h = found-step q s (λ k. quoted_from parts q s k) at (part_at q (drop at s)) refl (part-grows q (drop at s)) (λ n lt. found parts q s (at + n) (omega arith))

-- where the parts end, they end in one place
abbrev pub IsStop : Part → Type 0
IsStop (Byte b n) = ⊥
IsStop (Skip n) = ⊥
IsStop _ = Unit {0}

stop-byte : (p : Part) (b n : ℕ) → IsStop p → p ≡ Byte b n → ⊥
stop-byte Close b n h e = cc
stop-byte Unclosed b n h e = cc
stop-byte (Byte c m) b n h e = h
stop-byte (Skip m) b n h e = h
stop-byte Bad b n h e = cc

stop-skip : (p : Part) (n : ℕ) → IsStop p → p ≡ Skip n → ⊥
stop-skip Close n h e = cc
stop-skip Unclosed n h e = cc
stop-skip (Byte c m) n h e = h
stop-skip (Skip m) n h e = h
stop-skip Bad n h e = cc

pub one-stop : (q : ℕ) (s : List ℕ) {at i j : ℕ} {v w : List ℕ} → Parts q s at i v → IsStop (part_at q (drop i s)) → Parts q s at j w → IsStop (part_at q (drop j s)) → (i ≡ j) × (v ≡ w)
one-stop q s escapes.none h escapes.none k = (refl, refl)
one-stop q s escapes.none h (escapes.byte b n e ps) k = absurd (stop-byte _ b n h e)
one-stop q s escapes.none h (escapes.skip n e ps) k = absurd (stop-skip _ n h e)
one-stop q s (escapes.byte b n e ps) h escapes.none k = absurd (stop-byte _ b n k e)
one-stop q s (escapes.byte {at = at} {end = i} {v = v} b n e ps) h (escapes.byte {end = j} {v = w} c m f qs) k =
    let len : m ≡ n = cc in
    let head : b ≡ c = cc in
    let rest : (i ≡ j) × (v ≡ w) = one-stop q s ps h (subst (λ (o : ℕ). Parts q s (at + o) j w) len qs) k in
    (rest.0, (let tail : v ≡ w = rest.1 in cc))
one-stop q s (escapes.byte b n e ps) h (escapes.skip m f qs) k = absurd cc
one-stop q s (escapes.skip n e ps) h escapes.none k = absurd (stop-skip _ n k e)
one-stop q s (escapes.skip n e ps) h (escapes.byte b m f qs) k = absurd cc
one-stop q s (escapes.skip {at = at} n e ps) h (escapes.skip {end = j} {v = w} m f qs) k =
    let len : m ≡ n = cc in
    one-stop q s ps h (subst (λ (o : ℕ). Parts q s (at + o) j w) len qs) k

pub stops : (p r : Part) → p ≡ r → IsStop r → IsStop p
stops p r e h = subst (λ (t : Part). IsStop t) (sym e) h

-- what ends the parts decides what the form is
abbrev pub EndsAs : ℕ → ℕ → Piece → Part → Type 0
EndsAs place n r Close = (n ≡ place + 1) × (r ≡ piece.Token Text (place + 1))
EndsAs place n r Unclosed = (n ≡ place) × (r ≡ piece.Refused OpenString 0)
EndsAs place n r Bad = (n ≡ place) × (r ≡ piece.Refused BadEscape place)
EndsAs place n r _ = ⊥

-- a form that begins with a quote, over the whole text
pub data QuoteEnd (q : ℕ) (s : List ℕ) (n : ℕ) (r : Piece) : Type 0 where
  ends : (place : ℕ) (v : List ℕ) (p : Part) → IsStop p → Parts q s 1 place v → part_at q (drop place s) ≡ p → EndsAs place n r p → QuoteEnd q s n r

text-end : (s : List ℕ) (n : ℕ) (r : Piece) (place : ℕ) (v : List ℕ) → r ≡ piece.Token Text n → n ≤ length s → IsQuoted place v (take n s) → QuoteEnd (slice_index s 0) s n r
text-end s n r place v e le h =
    let len : n ≡ place + 1 = omega (arith, length-take n s, h.whole) in
    let quote : slice_index (take n s) 0 ≡ slice_index s 0 = get_or-take n s 0 0 (omega arith) in
    let parts : Parts (slice_index s 0) (take n s) 1 place v = subst (λ (q : ℕ). Parts q (take n s) 1 place v) quote h.parts in
    let closed : part_at (slice_index s 0) (drop place (take n s)) ≡ Close = subst (λ (q : ℕ). part_at q (drop place (take n s)) ≡ Close) quote h.closed in
    ends place v Close tt (parts-back _ n s parts (omega arith)) (part-back _ place n s Close (omega arith) closed (omega arith)) (len, e ∙ ap (λ (i : ℕ). piece.Token Text i) len)

quote-end : (s : List ℕ) (n : ℕ) (r : Piece) → QuoteForm s n r → QuoteEnd (slice_index s 0) s n r
quote-end s n r (a_text place v e le h) = text-end s n r place v e le h
quote-end s n r (unclosed_text v e ps h) = ends n v Unclosed tt ps h (refl, e)
quote-end s n r (a_bad_escape v e ps h) = ends n v Bad tt ps h (refl, e)

-- the one end of the parts
same-end : (q : ℕ) (s : List ℕ) (n : ℕ) (r : Piece) (place : ℕ) (v : List ℕ) (p : Part) → IsStop p → Parts q s 1 place v → part_at q (drop place s) ≡ p → QuoteEnd q s n r → EndsAs place n r p
same-end q s n r place v p h ps e (ends i w o k qs f g) =
    let one : (i ≡ place) × (w ≡ v) = one-stop q s qs (stops _ o f k) ps (stops _ p e h) in
    let there : part_at q (drop place s) ≡ o = subst (λ (j : ℕ). part_at q (drop j s) ≡ o) one.0 f in
    let part : o ≡ p = sym there ∙ e in
    subst (λ (j : ℕ). EndsAs j n r p) one.0 (subst (λ (t : Part). EndsAs i n r t) part g)

place-in : (q place : ℕ) (s : List ℕ) → part_at q (drop place s) ≡ Close → place < length s
place-in q place s e = elim (leb_tells (length s) place) [
  | inl t ↦ (let open_there : part_at q (drop place s) ≡ Unclosed = past-open q place s t.1 in absurd cc)
  | inr t ↦ t.1
]

text-quoted : (b : ℕ) (rest : List ℕ) (place : ℕ) (v : List ℕ) → is_quote b ≡ true → Parts b (b ∷ rest) 1 place v → part_at b (drop place (b ∷ rest)) ≡ Close → IsQuoted place v (take (place + 1) (b ∷ rest))
text-quoted b rest place v h ps c =
    let quote : slice_index (take (place + 1) (b ∷ rest)) 0 ≡ b = get_or-take (place + 1) (b ∷ rest) 0 0 (omega arith) in
    record {
      begins = rw quote h;
      parts = subst (λ (q : ℕ). Parts q (take (place + 1) (b ∷ rest)) 1 place v) (sym quote) (parts-out b (place + 1) (b ∷ rest) ps (omega arith));
      closed = subst (λ (q : ℕ). part_at q (drop place (take (place + 1) (b ∷ rest))) ≡ Close) (sym quote) (part-out b place (place + 1) (b ∷ rest) Close (omega arith) c (omega arith));
      whole = omega (arith, length-take (place + 1) (b ∷ rest), place-in b place (b ∷ rest) c);
    }

by-found : (b : ℕ) (rest : List ℕ) (p : Piece) → is_quote b ≡ true → Found b (b ∷ rest) 1 p → Read (b ∷ rest) p
by-found b rest p h (found_close place v e ps c) = rw e (topped (place + 1) (record {
  fits = pieces.token Text refl (omega (arith, place-in b place (b ∷ rest) c)) (spells.quoted place v refl (text-quoted b rest place v h ps c));
  top = λ n r f. (let end : EndsAs place n r Close = same-end b (b ∷ rest) n r place v Close tt ps c (quote-end (b ∷ rest) n r (form-at Quote n b rest r (class-quote b h) f)) in same end.0 end.1);
  forward = omega arith;
}))
by-found b rest p h (found_open place v e ps c) = rw e (topped place (record {
  fits = pieces.malformed OpenString 0 refl (pieces.open_text v refl refl h ps c);
  top = λ n r f. (let end : EndsAs place n r Unclosed = same-end b (b ∷ rest) n r place v Unclosed tt ps c (quote-end (b ∷ rest) n r (form-at Quote n b rest r (class-quote b h) f)) in same end.0 end.1);
  forward = tt;
}))
by-found b rest p h (found_bad place v e ps c) = rw e (topped place (record {
  fits = pieces.malformed BadEscape place refl (pieces.bad_escape v refl refl h ps c);
  top = λ n r f. (let end : EndsAs place n r Bad = same-end b (b ∷ rest) n r place v Bad tt ps c (quote-end (b ∷ rest) n r (form-at Quote n b rest r (class-quote b h) f)) in same end.0 end.1);
  forward = tt;
}))

pub quote-read : (b : ℕ) (rest : List ℕ) → is_quote b ≡ true → Read (b ∷ rest) (quoted_from (length rest + 2) b (b ∷ rest) 1)
quote-read b rest h = by-found b rest _ h (found (length rest + 2) b (b ∷ rest) 1 (omega arith))

-- the value of a text in quotes is what its parts stand for
bytes-step : (q : ℕ) (s : List ℕ) (further : ℕ → List ℕ) (at : ℕ) (p : Part) → part_at q (drop at s) ≡ p → Grows p → ((n : ℕ) → 0 < n → (place : ℕ) (v : List ℕ) → Parts q s (at + n) place v → IsStop (part_at q (drop place s)) → v ≡ further (at + n)) → (place : ℕ) (v : List ℕ) → Parts q s at place v → IsStop (part_at q (drop place s)) → v ≡ bytes_by further at p
bytes-step q s further at p e g f place v escapes.none h = stop-bytes p (stops p _ (sym e) h)
  where
    stop-bytes : (p : Part) → IsStop p → [] ≡ bytes_by further at p
    stop-bytes Close h = refl
    stop-bytes Unclosed h = refl
    stop-bytes (Byte b n) h = absurd h
    stop-bytes (Skip n) h = absurd h
    stop-bytes Bad h = refl
bytes-step q s further at p e g f place v (escapes.byte {v = w} b n i ps) h =
    let part : p ≡ Byte b n = sym e ∙ i in
    let more : 0 < n = subst (λ (t : Part). Grows t) part g in
    let rest : w ≡ further (at + n) = f n more place w ps h in
    ap (λ (l : List ℕ). b ∷ l) rest ∙ ap (λ (t : Part). bytes_by further at t) (sym part)
bytes-step q s further at p e g f place v (escapes.skip n i ps) h =
    let part : p ≡ Skip n = sym e ∙ i in
    let more : 0 < n = subst (λ (t : Part). Grows t) part g in
    f n more place v ps h ∙ ap (λ (t : Part). bytes_by further at t) (sym part)

none-left : (q : ℕ) (s : List ℕ) {at place : ℕ} {v : List ℕ} → length s ≤ at → Parts q s at place v → v ≡ []
none-left q s h escapes.none = refl
none-left q s h (escapes.byte {at = at} b n i ps) = let o : part_at q (drop at s) ≡ Unclosed = past-open q at s h in absurd cc
none-left q s h (escapes.skip {at = at} n i ps) = let o : part_at q (drop at s) ≡ Unclosed = past-open q at s h in absurd cc

pub bytes-are : (parts q : ℕ) (s : List ℕ) (at : ℕ) → length s ≤ at + parts → (place : ℕ) (v : List ℕ) → Parts q s at place v → IsStop (part_at q (drop place s)) → v ≡ bytes_from parts q s at
unfolding bytes_from
bytes-are zero q s at h place v ps k = none-left q s (omega arith) ps
bytes-are (suc parts) q s at h place v ps k = bytes-step q s (λ i. bytes_from parts q s i) at (part_at q (drop at s)) refl (part-grows q (drop at s)) (λ n lt i w qs j. bytes-are parts q s (at + n) (omega arith) i w qs j) place v ps k
