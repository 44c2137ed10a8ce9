-- The first place of a text in another, as the search of bytes tells it.
use Rattle.std.proofs.Common.{arith, ◌≡◌, ℕ, zero, suc, ◌+◌, ◌-◌, ◌≤◌, ◌<◌, ℤ, pos, true, false, List, [], ◌∷◌, length, take, drop, Some, None, refl, sym, ◌∙◌, ap, inl, inr}
use Rattle.std.specs.Prelude.{int_lt, slice_index}
use Rattle.std.specs.Prelude.{◌==◌}
use Rattle.std.proofs.lemmas.Bool.{cases_lt, lt-ltb, ltb-true, lt-leb, le-leb, false≢true, false_from_ne_true, and_parts, and_from, eqb-true, eq-eqb}
use Rattle.memchr.specs.Find.{OccursAt, FindsNeedle, Nowhere}
use Rattle.std.specs.Prelude.{nat_le}
use Rattle.std.proofs.Common.{negsuc}
use Rattle.std.proofs.Math.Seq.{take-length}
use Rattle.std.proofs.lemmas.List.{length-drop}
use Rattle.lua_text.specs.Positions.{from_front}
use Rattle.lua_text.specs.Finding.{stands_first, found, first_place}

-- the byte behind one more
one_on : (b : ℕ) (bs : List ℕ) (k : ℕ) → slice_index (b ∷ bs) (suc k) ≡ slice_index bs k
one_on b bs k = refl

next_index : (b : ℕ) (bs : List ℕ) (k m : ℕ) → m ≡ suc k → slice_index (b ∷ bs) m ≡ slice_index bs k
next_index b bs k m e = rw e (one_on b bs k)

-- a place one further on in a longer text
shifted : (b : ℕ) (bs wanted : List ℕ) (k : ℕ) → OccursAt (b ∷ bs) wanted (suc k) → OccursAt bs wanted k
shifted b bs wanted k o = record { fits = omega (arith, o.fits); reads = λ j lt. sym (next_index b bs (k + j) (suc k + j) (omega arith)) ∙ o.reads j lt }

unshifted : (b : ℕ) (bs wanted : List ℕ) (k : ℕ) → OccursAt bs wanted k → OccursAt (b ∷ bs) wanted (suc k)
unshifted b bs wanted k o = record { fits = omega (arith, o.fits); reads = λ j lt. next_index b bs (k + j) (suc k + j) (omega arith) ∙ o.reads j lt }

begins_occurs : (s wanted : List ℕ) → stands_first wanted s ≡ true → OccursAt s wanted 0
begins_occurs s [] e = record { fits = omega arith; reads = λ j lt. absurd (omega (arith, lt)) }
begins_occurs [] (c ∷ cs) e = absurd (false≢true e)
begins_occurs (b ∷ bs) (c ∷ cs) e =
    let parts = and_parts (c == b) (stands_first cs bs) e in
    let more = begins_occurs bs cs parts.1 in
    record { fits = omega (arith, more.fits); reads = reads_all more (eqb-true c b parts.0) }
  where
    reads_all : OccursAt bs cs 0 → c ≡ b → (j : ℕ) → j < length (c ∷ cs) → slice_index (b ∷ bs) (0 + j) ≡ slice_index (c ∷ cs) j
    reads_all more same zero lt = sym same
    reads_all more same (suc j) lt = next_index b bs (0 + j) (0 + suc j) (omega arith) ∙ more.reads j (omega (arith, lt))

occurs_begins : (s wanted : List ℕ) → OccursAt s wanted 0 → stands_first wanted s ≡ true
occurs_begins s [] o = refl
occurs_begins [] (c ∷ cs) o = absurd (omega (arith, o.fits))
occurs_begins (b ∷ bs) (c ∷ cs) o =
    and_from (c == b) (stands_first cs bs) (eq-eqb c b (sym (o.reads 0 (omega arith)))) (occurs_begins bs cs (record { fits = omega (arith, o.fits); reads = λ j lt. sym (next_index b bs (0 + j) (0 + suc j) (omega arith)) ∙ o.reads (suc j) (omega (arith, lt)) }))

-- no place from `at` up to n is before i
abbrev After : ℤ → ℕ → ℕ → Type 0
After i at n = (p : ℕ) → at ≤ p → p ≤ n → int_lt (pos p) i ≡ false

found_here : (wanted : List ℕ) (i : ℤ) (at : ℕ) (s : List ℕ) → int_lt (pos at) i ≡ false → stands_first wanted s ≡ true → found wanted i at s ≡ Some at
unfolding found
found_here wanted i at [] low e = rw low (rw e refl)
found_here wanted i at (b ∷ bs) low e = rw low (rw e refl)

found_later : (wanted : List ℕ) (i : ℤ) (at b : ℕ) (bs : List ℕ) → int_lt (pos at) i ≡ false → stands_first wanted (b ∷ bs) ≡ false → found wanted i at (b ∷ bs) ≡ found wanted i (at + 1) bs
unfolding found
found_later wanted i at b bs low e = rw low (rw e refl)

found_before : (wanted : List ℕ) (i : ℤ) (at b : ℕ) (bs : List ℕ) → int_lt (pos at) i ≡ true → found wanted i at (b ∷ bs) ≡ found wanted i (at + 1) bs
unfolding found
found_before wanted i at b bs low = rw low refl

found_nowhere : (wanted : List ℕ) (i : ℤ) (at : ℕ) → int_lt (pos at) i ≡ false → stands_first wanted [] ≡ false → found wanted i at [] ≡ None
unfolding found
found_nowhere wanted i at low e = rw low (rw e refl)

not_begun : (s wanted : List ℕ) → (OccursAt s wanted 0 → ⊥) → stands_first wanted s ≡ false
not_begun s wanted f = false_from_ne_true (stands_first wanted s) (λ e. f (begins_occurs s wanted e))

-- the search finds nothing
pub found_none : (wanted : List ℕ) (i : ℤ) (at : ℕ) (s : List ℕ) → After i at (at + length s) → Nowhere (OccursAt s wanted) 0 (length s + 1) → found wanted i at s ≡ None
found_none wanted i at [] low absent = found_nowhere wanted i at (low at (omega arith) (omega arith)) (not_begun [] wanted (absent 0 (omega arith) (omega arith)))
found_none wanted i at (b ∷ bs) low absent =
    found_later wanted i at b bs (low at (omega arith) (omega arith)) (not_begun (b ∷ bs) wanted (absent 0 (omega arith) (omega arith)))
    ∙ found_none wanted i (at + 1) bs (λ p le le'. low p (omega (arith, le)) (omega (arith, le'))) (λ k le lt o. absent (suc k) (omega arith) (omega (arith, lt)) (unshifted b bs wanted k o))

-- the search finds a place
pub found_some : (wanted : List ℕ) (i : ℤ) (at k : ℕ) (s : List ℕ) → After i at (at + length s) → k < length s + 1 → Nowhere (OccursAt s wanted) 0 k → OccursAt s wanted k → found wanted i at s ≡ Some (at + k)
found_some wanted i at zero s low lt absent o = found_here wanted i at s (low at (omega arith) (omega arith)) (occurs_begins s wanted o) ∙ ap Some (omega arith)
found_some wanted i at (suc k) [] low lt absent o = absurd (omega (arith, lt))
found_some wanted i at (suc k) (b ∷ bs) low lt absent o =
    found_later wanted i at b bs (low at (omega arith) (omega arith)) (not_begun (b ∷ bs) wanted (absent 0 (omega arith) (omega arith)))
    ∙ (found_some wanted i (at + 1) k bs (λ p le le'. low p (omega (arith, le)) (omega (arith, le'))) (omega (arith, lt)) (λ m le lt' o'. absent (suc m) (omega arith) (omega (arith, lt')) (unshifted b bs wanted m o')) (shifted b bs wanted k o)
    ∙ ap Some (omega arith))

-- places before i are passed
pub found_behind : (wanted : List ℕ) (i : ℤ) (at k : ℕ) (s : List ℕ) → k ≤ length s → ((p : ℕ) → at ≤ p → p < at + k → int_lt (pos p) i ≡ true) → found wanted i at s ≡ found wanted i (at + k) (drop k s)
found_behind wanted i at zero s le low = ap (λ a. found wanted i a s) (omega arith)
found_behind wanted i at (suc k) [] le low = absurd (omega (arith, le))
found_behind wanted i at (suc k) (b ∷ bs) le low =
    found_before wanted i at b bs (low at (omega arith) (omega arith))
    ∙ (found_behind wanted i (at + 1) k bs (omega (arith, le)) (λ p le' lt. low p (omega (arith, le')) (omega (arith, lt)))
    ∙ ap (λ a. found wanted i a (drop k bs)) (omega arith))

-- every place is before i
pub found_past : (wanted : List ℕ) (i : ℤ) (at : ℕ) (s : List ℕ) → ((p : ℕ) → at ≤ p → p ≤ at + length s → int_lt (pos p) i ≡ true) → found wanted i at s ≡ None
unfolding found
found_past wanted i at [] low = rw (low at (omega arith) (omega arith)) refl
found_past wanted i at (b ∷ bs) low = found_before wanted i at b bs (low at (omega arith) (omega arith)) ∙ found_past wanted i (at + 1) bs (λ p le le'. low p (omega (arith, le)) (omega (arith, le')))

-- of the places up to n, those before i are the first so many
abbrev Before : ℤ → ℕ → ℕ → Type 0
Before i before n = (p : ℕ) → 1 ≤ p → p ≤ n → int_lt (pos p) i ≡ nat_le p before

sooner : (z : ℤ) (p q : ℕ) → p ≤ q → int_lt (pos q) z ≡ true → int_lt (pos p) z ≡ true
sooner (pos m) p q le e = lt-ltb p m (omega (arith, le, ltb-true q m e))
sooner (negsuc m) p q le e = absurd (false≢true e)

-- behind the places before i there is none before it
behind : (z : ℤ) (before n : ℕ) → Before z before n → int_lt (pos (n + 1)) z ≡ false → After z (before + 1) (n + 1)
behind z before n places last p le le' = elim (cases_lt p (n + 1)) [
  | inl lt ↦ places p (omega (arith, le)) (omega (arith, lt)) ∙ lt-leb p before (omega (arith, le))
  | inr ge ↦ let same : p ≡ n + 1 = omega (arith, ge, le') in rw same last
]

start_at : (s wanted : List ℕ) (z : ℤ) (before : ℕ) → Before z before (length s) → before ≤ length s → found wanted z 1 s ≡ found wanted z (before + 1) (drop before s)
start_at s wanted z before places le = found_behind wanted z 1 before s le (λ p one lt. places p one (omega (arith, lt, le)) ∙ le-leb p before (omega (arith, lt))) ∙ ap (λ a. found wanted z a (drop before s)) (omega arith)

pub no_place_past : (s wanted : List ℕ) (from z : ℤ) → z ≡ from_front (length s) from → int_lt (pos (length s + 1)) z ≡ true → None ≡ first_place s wanted from
no_place_past s wanted from z same past = sym (rw (sym same) (found_past wanted z 1 s (λ p one le. sooner z p (length s + 1) (omega (arith, le)) past)))

pub no_place : (s wanted : List ℕ) (from z : ℤ) (before : ℕ) → z ≡ from_front (length s) from → int_lt (pos (length s + 1)) z ≡ false → before ≤ length s → Before z before (length s) → FindsNeedle (drop before s) wanted 0 None → None ≡ first_place s wanted from
no_place s wanted from z before same last le places finds =
    let left : length (drop before s) ≡ length s - before = length-drop before s in
    let after : After z (before + 1) (length s + 1) = behind z before (length s) places last in
    sym (rw (sym same) (start_at s wanted z before places le ∙ found_none wanted z (before + 1) (drop before s) (λ p ge le'. after p ge (omega (arith, le', left, le))) finds))

pub place : (s wanted : List ℕ) (from z : ℤ) (before k : ℕ) → z ≡ from_front (length s) from → int_lt (pos (length s + 1)) z ≡ false → before ≤ length s → Before z before (length s) → FindsNeedle (drop before s) wanted 0 (Some k) → Some (before + k + 1) ≡ first_place s wanted from
place s wanted from z before k same last le places finds =
    let left : length (drop before s) ≡ length s - before = length-drop before s in
    let after : After z (before + 1) (length s + 1) = behind z before (length s) places last in
    sym (rw (sym same) (start_at s wanted z before places le ∙ (found_some wanted z (before + 1) k (drop before s) (λ p ge le'. after p ge (omega (arith, le', left, le))) finds.0.high finds.0.before finds.1 ∙ ap Some (omega arith))))

-- a slice up to the end
pub up_to_end : (s : List ℕ) (k : ℕ) → take (length s - k) (drop k s) ≡ drop k s
up_to_end s k = let left : length (drop k s) ≡ length s - k = length-drop k s in ap (λ m. take m (drop k s)) (sym left) ∙ take-length (drop k s)
