-- The parts of a text in quotes, cut off behind its closing quote, read as in the whole text.
use Rattle.std.proofs.Common.{◌≡◌, ℕ, ◌+◌, ◌-◌, ◌<◌, ◌≤◌, ◌⊎◌, inl, inr, List, [], ◌∷◌, take, drop, Option, Some, None, Bool, true, false, cond, refl, ap, sym, ◌∙◌, subst, arith, zero, suc, ◌==◌}
use Rattle.std.specs.Prelude.{if◌then◌else◌, nat_lt}
use Rattle.std.specs.List.{prefix_len}
use Rattle.std.specs.Char.{is_ascii_digit}
use Rattle.std.proofs.lemmas.List.{take-take}
use Rattle.std.proofs.lemmas.Bool.Decides.{nat_tests, leb_tells}
use Rattle.lua_lexer.specs.declared.quoted.Part.{Part}
use Rattle.lua_lexer.specs.declared.quoted.Part.TheVariants.{Close, Unclosed, Byte, Skip, Bad}
use Rattle.lua_lexer.specs.Bytes.{is_blank}
use Rattle.lua_lexer.specs.Numerals.{value}
use Rattle.lua_lexer.specs.Escapes.{escaped, hex_escape, decimal_escape, escape_by, escape, part_at, Parts, none, byte, skip}
use Rattle.lua_lexer.proofs.Cuts.{prefix-short, prefix-whole, drop-cut}

-- the part ends before this place
abbrev pub EndsBefore : Part → ℕ → Type 0
EndsBefore Close c = 0 < c
EndsBefore (Byte b n) c = n < c
EndsBefore (Skip n) c = n < c
EndsBefore _ c = ⊥

-- where this part ends before the cut, the cut text has it too, and the other way round
pub record CutAlike (p r : Part) (c : ℕ) : Type 0 where
  pub out : EndsBefore p c → r ≡ p
  pub back : EndsBefore r c → p ≡ r

alike : (p : Part) (c : ℕ) → CutAlike p p c
alike p c = record { out = λ h. refl; back = λ h. refl }

alike-if : (t : Bool) (p r p' r' : Part) (c : ℕ) → CutAlike p r c → CutAlike p' r' c → CutAlike (cond t p p') (cond t r r') c
alike-if true p r p' r' c a b = a
alike-if false p r p' r' c a b = b

run-alike : (m : ℕ) (more : List ℕ) → CutAlike (Skip (prefix_len is_blank more + 2)) (Skip (prefix_len is_blank (take m more) + 2)) (suc (suc m))
run-alike m more = record {
  out = λ h. ap (λ (n : ℕ). Skip (n + 2)) (prefix-short is_blank m more (omega arith));
  back = λ h. ap (λ (n : ℕ). Skip (n + 2)) (sym (prefix-whole is_blank m more (omega arith)));
}

hex-if : (t : Bool) (v m : ℕ) → m < 2 → EndsBefore (cond t (Byte v 4) Bad) (suc (suc m)) → ⊥
hex-if true v m lt h = omega arith
hex-if false v m lt h = h

hex-alike : (m : ℕ) (more : List ℕ) → CutAlike (hex_escape more) (hex_escape (take m more)) (suc (suc m))
hex-alike m [] = record { out = λ h. absurd h; back = λ h. bad-nil m h }
  where
    bad-nil : (m : ℕ) → EndsBefore (hex_escape (take m [])) (suc (suc m)) → hex_escape [] ≡ hex_escape (take m [])
    bad-nil zero h = absurd h
    bad-nil (suc m) h = absurd h
hex-alike m (a ∷ []) = record { out = λ h. absurd h; back = λ h. bad-one m a h }
  where
    bad-one : (m a : ℕ) → EndsBefore (hex_escape (take m (a ∷ []))) (suc (suc m)) → hex_escape (a ∷ []) ≡ hex_escape (take m (a ∷ []))
    bad-one zero a h = absurd h
    bad-one (suc zero) a h = absurd h
    bad-one (suc (suc m)) a h = absurd h
hex-alike zero (a ∷ b ∷ more) = record { out = λ h. absurd (hex-if _ _ zero (omega arith) h); back = λ h. absurd h }
hex-alike (suc zero) (a ∷ b ∷ more) = record { out = λ h. absurd (hex-if _ _ (suc zero) (omega arith) h); back = λ h. absurd h }
hex-alike (suc (suc m)) (a ∷ b ∷ more) = alike _ _

-- one to three digits
abbrev decimal_by : ℕ → ℕ → Part
decimal_by n v = if n == 0 then Bad else (if nat_lt 255 v then Bad else Byte v (n + 1))

decimal-short : (n v c : ℕ) → EndsBefore (decimal_by n v) (suc c) → n < c
decimal-short n v c h = short-if (n == 0) (nat_lt 255 v) n v c h
  where
    short-if : (s t : Bool) (n v c : ℕ) → EndsBefore (cond s Bad (cond t Bad (Byte v (n + 1)))) (suc c) → n < c
    short-if true t n v c h = absurd h
    short-if false true n v c h = absurd h
    short-if false false n v c h = omega arith

at-or-above : (a b : ℕ) → (a < b) ⊎ (b ≤ a)
at-or-above a b = elim (leb_tells b a) [ inl t ↦ inr t.1 | inr t ↦ inl t.1 ]

pub take-nil : (n : ℕ) → take {A = ℕ} n [] ≡ []
take-nil zero = refl
take-nil (suc n) = refl

take-all-of : (n m : ℕ) (xs : List ℕ) → m ≤ n → take n (take m xs) ≡ take m xs
take-all-of n zero xs h = take-nil n
take-all-of n (suc m) [] h = take-nil n
take-all-of zero (suc m) (x ∷ xs) h = absurd (omega arith)
take-all-of (suc n) (suc m) (x ∷ xs) h = ap (λ (s : List ℕ). x ∷ s) (take-all-of n m xs (omega arith))

three-small : (c : ℕ) (xs : List ℕ) → c < 3 → take 3 (take c xs) ≡ take c (take 3 xs)
three-small c xs small = take-all-of 3 c xs (omega arith) ∙ sym (take-take c 3 xs (omega arith))

-- the digits among the first three, in the cut text and in the whole
digits-out : (c : ℕ) (xs : List ℕ) → prefix_len is_ascii_digit (take 3 xs) < c → prefix_len is_ascii_digit (take 3 (take c xs)) ≡ prefix_len is_ascii_digit (take 3 xs)
digits-out c xs lt = elim (at-or-above c 3) [
  | inl small ↦ ap (λ (s : List ℕ). prefix_len is_ascii_digit s) (three-small c xs small) ∙ prefix-short is_ascii_digit c (take 3 xs) lt
  | inr le ↦ ap (λ (s : List ℕ). prefix_len is_ascii_digit s) (take-take 3 c xs le)
]

digits-back : (c : ℕ) (xs : List ℕ) → prefix_len is_ascii_digit (take 3 (take c xs)) < c → prefix_len is_ascii_digit (take 3 (take c xs)) ≡ prefix_len is_ascii_digit (take 3 xs)
digits-back c xs lt = elim (at-or-above c 3) [
  | inl small ↦ (let swap : prefix_len is_ascii_digit (take 3 (take c xs)) ≡ prefix_len is_ascii_digit (take c (take 3 xs)) = ap (λ (s : List ℕ). prefix_len is_ascii_digit s) (three-small c xs small) in swap ∙ prefix-whole is_ascii_digit c (take 3 xs) (omega arith))
  | inr le ↦ ap (λ (s : List ℕ). prefix_len is_ascii_digit s) (take-take 3 c xs le)
]

same-decimal : (c n m : ℕ) (xs : List ℕ) → n ≡ m → m < c → decimal_by n (value 10 (take n (take c xs))) ≡ decimal_by m (value 10 (take m xs))
same-decimal c n m xs e lt =
    let cut : take n (take c xs) ≡ take m xs = ap (λ (i : ℕ). take i (take c xs)) e ∙ take-take m c xs (omega arith) in
    ap (λ (i : ℕ). decimal_by i (value 10 (take n (take c xs)))) e ∙ ap (λ (l : List ℕ). decimal_by m (value 10 l)) cut

decimal-alike : (c : ℕ) (xs : List ℕ) → CutAlike (decimal_escape xs) (decimal_escape (take c xs)) (suc c)
unfolding decimal_escape
decimal-alike c xs = record {
  out = λ h. (let lt : prefix_len is_ascii_digit (take 3 xs) < c = decimal-short _ _ c h in same-decimal c _ _ xs (digits-out c xs lt) lt);
  back = λ h. (let lt : prefix_len is_ascii_digit (take 3 (take c xs)) < c = decimal-short _ _ c h in
      let e : prefix_len is_ascii_digit (take 3 (take c xs)) ≡ prefix_len is_ascii_digit (take 3 xs) = digits-back c xs lt in
      sym (same-decimal c _ _ xs e (omega arith)));
}

-- what stands behind a backslash is two bytes long with it, or more
abbrev pub IsLongPart : Part → Type 0
IsLongPart Close = ⊥
IsLongPart (Byte b n) = 1 < n
IsLongPart (Skip n) = 1 < n
IsLongPart _ = Unit {0}

long-if : (t : Bool) (p r : Part) → IsLongPart p → IsLongPart r → IsLongPart (cond t p r)
long-if true p r a b = a
long-if false p r a b = b

hex-long : (xs : List ℕ) → IsLongPart (hex_escape xs)
hex-long [] = tt
hex-long (a ∷ []) = tt
hex-long (a ∷ b ∷ more) = long-if _ (Byte _ 4) Bad (omega arith) tt

decimal-long : (xs : List ℕ) → IsLongPart (decimal_escape xs)
unfolding decimal_escape
decimal-long xs = decimal-long-if _ (prefix_len is_ascii_digit (take 3 xs)) _ (value 10 _) (above-zero (prefix_len is_ascii_digit (take 3 xs)))
  where
    decimal-some : (n : ℕ) (t : Bool) (v : ℕ) → 0 < n → IsLongPart (cond t Bad (Byte v (n + 1)))
    decimal-some n true v h = tt
    decimal-some n false v h = omega arith

    decimal-long-if : (z : Bool) (n : ℕ) (t : Bool) (v : ℕ) → (z ≡ false → 0 < n) → IsLongPart (cond z Bad (cond t Bad (Byte v (n + 1))))
    decimal-long-if true n t v h = tt
    decimal-long-if false n t v h = decimal-some n t v (h refl)

    above-zero : (n : ℕ) → (n == 0) ≡ false → 0 < n
    above-zero n h = grind (arith, nat_tests)

by-long : (o : Option ℕ) (xs : List ℕ) → IsLongPart (escape_by o xs)
by-long (Some b) xs = omega arith
by-long None xs = decimal-long xs

escape-long : (xs : List ℕ) → IsLongPart (escape xs)
unfolding escape
escape-long [] = tt
escape-long (c ∷ rest) = long-if (c == 122) _ _ (omega arith) (long-if (c == 120) _ _ (hex-long rest) (by-long (escaped c) (c ∷ rest)))

not-short : (p : Part) → IsLongPart p → EndsBefore p 1 → ⊥
not-short Close l h = l
not-short Unclosed l h = h
not-short (Byte b n) l h = omega arith
not-short (Skip n) l h = omega arith
not-short Bad l h = h

by-alike : (o : Option ℕ) (c m : ℕ) (more : List ℕ) → CutAlike (escape_by o (c ∷ more)) (escape_by o (c ∷ take m more)) (suc (suc m))
by-alike (Some b) c m more = alike _ _
by-alike None c m more = decimal-alike (suc m) (c ∷ more)

escape-alike : (m : ℕ) (rest : List ℕ) → CutAlike (escape rest) (escape (take m rest)) (suc m)
unfolding escape
escape-alike zero [] = alike _ _
escape-alike (suc m) [] = alike _ _
escape-alike zero (c ∷ more) = record { out = λ h. absurd (not-short _ (escape-long (c ∷ more)) h); back = λ h. absurd h }
escape-alike (suc m) (c ∷ more) = alike-if (c == 122) _ _ _ _ _ (run-alike m more) (alike-if (c == 120) _ _ _ _ _ (hex-alike m more) (by-alike (escaped c) c m more))

none-before : (p : Part) → EndsBefore p 0 → ⊥
none-before Close h = omega arith
none-before Unclosed h = h
none-before (Byte b n) h = omega arith
none-before (Skip n) h = omega arith
none-before Bad h = h

part-alike : (q c : ℕ) (xs : List ℕ) → CutAlike (part_at q xs) (part_at q (take c xs)) c
unfolding part_at
part-alike q zero [] = alike _ _
part-alike q zero (b ∷ rest) = record { out = λ h. absurd (none-before _ h); back = λ h. absurd h }
part-alike q (suc c) [] = alike _ _
part-alike q (suc c) (b ∷ rest) = alike-if (b == q) _ _ _ _ _ (alike _ _) (alike-if (b == 10) _ _ _ _ _ (alike _ _) (alike-if (b == 92) _ _ _ _ _ (escape-alike c rest) (alike _ _)))

pub part-out : (q at n : ℕ) (xs : List ℕ) (p : Part) → at ≤ n → part_at q (drop at xs) ≡ p → EndsBefore p (n - at) → part_at q (drop at (take n xs)) ≡ p
part-out q at n xs p le e h =
    let there : EndsBefore (part_at q (drop at xs)) (n - at) = subst (λ (r : Part). EndsBefore r (n - at)) (sym e) h in
    ap (λ (l : List ℕ). part_at q l) (drop-cut at n xs le) ∙ ((part-alike q (n - at) (drop at xs)).out there ∙ e)

pub part-back : (q at n : ℕ) (xs : List ℕ) (p : Part) → at ≤ n → part_at q (drop at (take n xs)) ≡ p → EndsBefore p (n - at) → part_at q (drop at xs) ≡ p
part-back q at n xs p le e h =
    let cut : part_at q (take (n - at) (drop at xs)) ≡ p = ap (λ (l : List ℕ). part_at q l) (sym (drop-cut at n xs le)) ∙ e in
    let there : EndsBefore (part_at q (take (n - at) (drop at xs))) (n - at) = subst (λ (r : Part). EndsBefore r (n - at)) (sym cut) h in
    (part-alike q (n - at) (drop at xs)).back there ∙ cut

pub parts-le : (q : ℕ) (s : List ℕ) {at end : ℕ} {v : List ℕ} → Parts q s at end v → at ≤ end
parts-le q s none = omega arith
parts-le q s (byte b n e ps) = omega (arith, parts-le q s ps)
parts-le q s (skip n e ps) = omega (arith, parts-le q s ps)

pub parts-out : (q n : ℕ) (s : List ℕ) {at end : ℕ} {v : List ℕ} → Parts q s at end v → end < n → Parts q (take n s) at end v
parts-out q n s none lt = none
parts-out q n s (byte {at = at} b k e ps) lt = byte b k (part-out q at n s (Byte b k) (omega (arith, parts-le q s ps)) e (omega (arith, parts-le q s ps))) (parts-out q n s ps lt)
parts-out q n s (skip {at = at} k e ps) lt = skip k (part-out q at n s (Skip k) (omega (arith, parts-le q s ps)) e (omega (arith, parts-le q s ps))) (parts-out q n s ps lt)

pub parts-back : (q n : ℕ) (s : List ℕ) {at end : ℕ} {v : List ℕ} → Parts q (take n s) at end v → end < n → Parts q s at end v
parts-back q n s none lt = none
parts-back q n s (byte {at = at} b k e ps) lt = byte b k (part-back q at n s (Byte b k) (omega (arith, parts-le q (take n s) ps)) e (omega (arith, parts-le q (take n s) ps))) (parts-back q n s ps lt)
parts-back q n s (skip {at = at} k e ps) lt = skip k (part-back q at n s (Skip k) (omega (arith, parts-le q (take n s) ps)) e (omega (arith, parts-le q (take n s) ps))) (parts-back q n s ps lt)

-- a part between quotes has a byte
abbrev pub Grows : Part → Type 0
Grows (Byte b n) = 0 < n
Grows (Skip n) = 0 < n
Grows _ = Unit {0}

grows-if : (t : Bool) (p r : Part) → Grows p → Grows r → Grows (cond t p r)
grows-if true p r a b = a
grows-if false p r a b = b

long-grows : (p : Part) → IsLongPart p → Grows p
long-grows Close h = tt
long-grows Unclosed h = tt
long-grows (Byte b n) h = omega arith
long-grows (Skip n) h = omega arith
long-grows Bad h = tt

pub part-grows : (q : ℕ) (xs : List ℕ) → Grows (part_at q xs)
unfolding part_at
part-grows q [] = tt
part-grows q (b ∷ rest) = grows-if (b == q) _ _ tt (grows-if (b == 10) _ _ tt (grows-if (b == 92) _ _ (long-grows _ (escape-long rest)) (omega arith)))
