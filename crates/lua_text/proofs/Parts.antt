-- The bytes between two positions are a slice.
use Rattle.std.proofs.Common.{arith, ◌≡◌, ℕ, zero, suc, ◌+◌, ◌-◌, ◌≤◌, ◌<◌, ℤ, pos, Bool, true, false, List, [], ◌∷◌, length, take, drop, refl, sym, ◌∙◌, ap, inl, inr}
use Rattle.std.specs.Prelude.{not, nat_lt, nat_le, int_lt, if◌then◌else◌}
use Rattle.std.proofs.lemmas.Bool.{cases_lt, lt-ltb, le-ltb, le-leb, lt-leb}
use Rattle.lua_text.specs.Positions.{from_front, is_between, between, bytes_between}

-- of the places up to n, those not before i are those behind start
abbrev Low : ℤ → ℕ → ℕ → Type 0
Low i start n = (at : ℕ) → 1 ≤ at → at ≤ n → int_lt (pos at) i ≡ nat_le at start

abbrev High : ℤ → ℕ → ℕ → Type 0
High j end n = (at : ℕ) → 1 ≤ at → at ≤ n → int_lt j (pos at) ≡ nat_lt end at

one_more : (i j : ℤ) (at b : ℕ) (bs : List ℕ) (v : Bool) → is_between i j at ≡ v → between i j at (b ∷ bs) ≡ (if v then b ∷ between i j (at + 1) bs else between i j (at + 1) bs)
unfolding between
one_more i j at b bs v e = rw e refl

no_byte : (i j : ℤ) (at : ℕ) → between i j at [] ≡ []
unfolding between
no_byte i j at = refl

not_behind : (j : ℤ) (end n at : ℕ) (v : Bool) → High j end n → 1 ≤ at → at ≤ n → nat_lt end at ≡ v → not (int_lt j (pos at)) ≡ not v
not_behind j end n at v high one all e = ap not (high at one all ∙ e)

inside : (i j : ℤ) (start end n at : ℕ) (v : Bool) → Low i start n → High j end n → 1 ≤ at → at ≤ n → start < at → nat_lt end at ≡ v → is_between i j at ≡ not v
inside i j start end n at v low high one all above e = rw (low at one all) (rw (lt-leb at start above) (not_behind j end n at v high one all e))

outside : (i j : ℤ) (start n at : ℕ) → Low i start n → 1 ≤ at → at ≤ n → at ≤ start → is_between i j at ≡ false
outside i j start n at low one all under = rw (low at one all) (rw (le-leb at start under) refl)

take_none : (k : ℕ) → ◌≡◌ {A = List ℕ} (take k []) []
take_none zero = refl
take_none (suc k) = refl

drop_none : (k : ℕ) → ◌≡◌ {A = List ℕ} (drop k []) []
drop_none zero = refl
drop_none (suc k) = refl

takes : (i j : ℤ) (start end n : ℕ) → Low i start n → High j end n → (at : ℕ) (s : List ℕ) → 1 ≤ at → at + length s ≤ n + 1 → start < at → between i j at s ≡ take (end + 1 - at) s
takes i j start end n low high at [] one all above = no_byte i j at ∙ sym (take_none (end + 1 - at))
takes i j start end n low high at (b ∷ bs) one all above = elim (cases_lt end at) [
  | inl lt ↦
      let gone : end + 1 - at ≡ 0 = omega (arith, lt) in
      let gone' : end + 1 - (at + 1) ≡ 0 = omega (arith, lt) in
      one_more i j at b bs false (inside i j start end n at true low high one (omega (arith, all)) above (lt-ltb end at lt)) ∙ (takes i j start end n low high (at + 1) bs (omega arith) (omega (arith, all)) (omega (arith, above)) ∙ rw gone (rw gone' refl))
  | inr le ↦
      let there : end + 1 - at ≡ suc (end + 1 - (at + 1)) = omega (arith, le) in
      one_more i j at b bs true (inside i j start end n at false low high one (omega (arith, all)) above (le-ltb end at le)) ∙ rw there (ap (λ xs. b ∷ xs) (takes i j start end n low high (at + 1) bs (omega arith) (omega (arith, all)) (omega (arith, above))))
]

skips : (i j : ℤ) (start end n : ℕ) → Low i start n → High j end n → (k at : ℕ) (s : List ℕ) → 1 ≤ at → at + length s ≤ n + 1 → at + k ≡ start + 1 → between i j at s ≡ take (end - start) (drop k s)
skips i j start end n low high zero at s one all e = let same : end + 1 - at ≡ end - start = omega (arith, e) in takes i j start end n low high at s one all (omega (arith, e)) ∙ rw same refl
skips i j start end n low high (suc k) at [] one all e = no_byte i j at ∙ sym (take_none (end - start))
skips i j start end n low high (suc k) at (b ∷ bs) one all e = one_more i j at b bs false (outside i j start n at low one (omega (arith, all)) (omega (arith, e))) ∙ skips i j start end n low high k (at + 1) bs (omega arith) (omega (arith, all)) (omega (arith, e))

-- a slice of a text, by what its ends mean
pub part_is : (s : List ℕ) (i j p q : ℤ) (start end : ℕ) → p ≡ from_front (length s) i → q ≡ from_front (length s) j → Low p start (length s) → High q end (length s) → take (end - start) (drop start s) ≡ bytes_between s i j
part_is s i j p q start end same same' low high = rw (sym same) (rw (sym same') (sym (skips p q start end (length s) low high start 1 s (omega arith) (omega arith) (omega arith))))

-- and nothing where it ends before it begins
pub part_is_none : (s : List ℕ) (i j p q : ℤ) (start end : ℕ) → p ≡ from_front (length s) i → q ≡ from_front (length s) j → Low p start (length s) → High q end (length s) → end ≤ start → ◌≡◌ {A = List ℕ} [] (bytes_between s i j)
part_is_none s i j p q start end same same' low high le = let none : end - start ≡ 0 = omega (arith, le) in ap (λ k. take k (drop start s)) (sym none) ∙ part_is s i j p q start end same same' low high
