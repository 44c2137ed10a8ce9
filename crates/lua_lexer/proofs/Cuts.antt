-- The front of a text, cut off behind a piece, reads as in the whole text.
use Rattle.std.proofs.Common.{◌≡◌, ℕ, ◌+◌, ◌-◌, ◌<◌, ◌≤◌, inl, inr, List, [], ◌∷◌, length, take, drop, Option, Some, None, Bool, true, false, cond, refl, ap, sym, ◌∙◌, subst, arith, zero, suc, ◌==◌, ◌&&◌, length-take, length-drop, get_or, get_or-take}
use Rattle.std.specs.List.{prefix_len}
use Rattle.std.proofs.lemmas.List.{drop-take}
use Rattle.std.proofs.lemmas.Bool.Decides.{nat_tests, eqb_tells}
use Rattle.lua_lexer.specs.Bytes.{is_equals_sign}
use Rattle.lua_lexer.specs.Brackets.{bracket_level, closes, IsFirstClosing, IsLong}
use Rattle.lua_lexer.specs.Scan.{closing, one_further}
use Rattle.lua_lexer.proofs.Drops.{drop-past}

pub drop-cut : (a n : ℕ) (xs : List ℕ) → a ≤ n → drop a (take n xs) ≡ take (n - a) (drop a xs)
drop-cut a n xs h =
    let whole : a + (n - a) ≡ n = omega arith in
    let e : drop a (take (a + (n - a)) xs) ≡ take (n - a) (drop a xs) = drop-take a (n - a) xs in
    subst (λ (m : ℕ). drop a (take m xs) ≡ take (n - a) (drop a xs)) whole e

short-if : (t : Bool) (m a b : ℕ) → (b < m → a ≡ b) → cond t (1 + b) 0 < suc m → cond t (1 + a) 0 ≡ cond t (1 + b) 0
short-if true m a b h lt = ap (λ (n : ℕ). 1 + n) (h (omega arith))
short-if false m a b h lt = refl

-- a run that ends before the cut
pub prefix-short : (p : ℕ → Bool) (m : ℕ) (xs : List ℕ) → prefix_len p xs < m → prefix_len p (take m xs) ≡ prefix_len p xs
prefix-short p zero xs h = absurd (omega arith)
prefix-short p (suc m) [] h = refl
prefix-short p (suc m) (x ∷ xs) h = short-if (p x) m _ _ (λ lt. prefix-short p m xs lt) h

pub prefix-whole : (p : ℕ → Bool) (m : ℕ) (xs : List ℕ) → prefix_len p (take m xs) < m → prefix_len p (take m xs) ≡ prefix_len p xs
prefix-whole p zero xs h = absurd (omega arith)
prefix-whole p (suc m) [] h = refl
prefix-whole p (suc m) (x ∷ xs) h = whole-if (p x) m _ _ (λ lt. prefix-whole p m xs lt) h
  where
    whole-if : (t : Bool) (m a b : ℕ) → (a < m → a ≡ b) → cond t (1 + a) 0 < suc m → cond t (1 + a) 0 ≡ cond t (1 + b) 0
    whole-if true m a b h lt = ap (λ (n : ℕ). 1 + n) (h (omega arith))
    whole-if false m a b h lt = refl

same-level : (p : ℕ → Bool) (level m : ℕ) (xs : List ℕ) → level < m → (prefix_len p (take m xs) == level) ≡ (prefix_len p xs == level)
same-level p level m xs lt = elim (eqb_tells (prefix_len p (take m xs)) level) [
  | inl a ↦ (let is : prefix_len p (take m xs) ≡ level = a.1 in ap (λ (n : ℕ). n == level) (prefix-whole p m xs (omega arith)))
  | inr a ↦ elim (eqb_tells (prefix_len p xs) level) [
    | inl b ↦ (let is : prefix_len p xs ≡ level = b.1 in absurd (a.1 (prefix-short p m xs (omega arith) ∙ is)))
    | inr b ↦ a.0 ∙ sym b.0
  ]
]

pub closes-cut : (level c : ℕ) (xs : List ℕ) → level + 2 ≤ c → closes level (take c xs) ≡ closes level xs
unfolding closes
closes-cut level zero xs h = absurd (omega arith)
closes-cut level (suc c) [] h = refl
closes-cut level (suc c) (b ∷ rest) h =
    let lt : level < c = omega arith in
    rw (same-level is_equals_sign level c rest lt, get_or-take c rest level 0 lt) refl

pub left : (s t : Bool) → (s && t) ≡ true → s ≡ true
left true t h = refl
left false t h = absurd cc

pub right : (s t : Bool) → (s && t) ≡ true → t ≡ true
right true t h = h
right false t h = absurd cc

pub equal : (b c : ℕ) → (b == c) ≡ true → b ≡ c
equal b c h = grind (arith, nat_tests)

within : (xs : List ℕ) (i c : ℕ) → get_or xs i 0 ≡ c → 0 < c → i < length xs
within [] i c e h = absurd (omega arith)
within (x ∷ xs) zero c e h = omega arith
within (x ∷ xs) (suc i) c e h = omega (arith, within xs i c e h)

-- what a long bracket that opens is
pub record Opens (level b : ℕ) (rest : List ℕ) : Type 0 where
  pub first : b ≡ 91
  pub run : prefix_len is_equals_sign rest ≡ level
  pub second : get_or rest level 0 ≡ 91

some-if : (t : Bool) (n level : ℕ) → cond t (Some n) None ≡ Some level → (t ≡ true) × (n ≡ level)
some-if true n level e = (refl, cc)
some-if false n level e = absurd cc

pub bracket_level-is : (b : ℕ) (rest : List ℕ) (level : ℕ) → bracket_level (b ∷ rest) ≡ Some level → Opens level b rest
unfolding bracket_level
bracket_level-is b rest level e =
    let both : ((b == 91 && get_or rest (prefix_len is_equals_sign rest) 0 == 91) ≡ true) × (prefix_len is_equals_sign rest ≡ level) = some-if _ _ _ e in
    let run : prefix_len is_equals_sign rest ≡ level = both.1 in
    record { first = equal b 91 (left (b == 91) _ both.0); run = run; second = equal _ 91 (rw run at (right (b == 91) _ both.0)) }

same-test : (b c : ℕ) → b ≡ c → (b == c) ≡ true
same-test b c e = grind (arith, nat_tests)

pub bracket_level-from : (b : ℕ) (rest : List ℕ) (level : ℕ) → Opens level b rest → bracket_level (b ∷ rest) ≡ Some level
unfolding bracket_level
bracket_level-from b rest level h =
    let run : prefix_len is_equals_sign rest ≡ level = h.run in
    let first : (b == 91) ≡ true = same-test b 91 h.first in
    let second : (get_or rest level 0 == 91) ≡ true = same-test _ 91 h.second in
    rw (run, first, second) refl

pub bracket_level-cut : (n : ℕ) (xs : List ℕ) (level : ℕ) → bracket_level xs ≡ Some level → level + 2 ≤ n → bracket_level (take n xs) ≡ Some level
unfolding bracket_level
bracket_level-cut zero xs level e h = absurd (omega arith)
bracket_level-cut (suc m) [] level e h = absurd cc
bracket_level-cut (suc m) (b ∷ rest) level e h =
    let o : Opens level b rest = bracket_level-is b rest level e in
    let lt : level < m = omega arith in
    let run : prefix_len is_equals_sign rest ≡ level = o.run in
    bracket_level-from b (take m rest) level (record {
      first = o.first;
      run = prefix-short is_equals_sign m rest (omega arith) ∙ o.run;
      second = get_or-take m rest level 0 lt ∙ o.second;
    })

pub bracket_level-uncut : (n : ℕ) (xs : List ℕ) (level : ℕ) → bracket_level (take n xs) ≡ Some level → bracket_level xs ≡ Some level
unfolding bracket_level
bracket_level-uncut zero xs level e = absurd cc
bracket_level-uncut (suc m) [] level e = absurd cc
bracket_level-uncut (suc m) (b ∷ rest) level e =
    let o : Opens level b (take m rest) = bracket_level-is b (take m rest) level e in
    let run : prefix_len is_equals_sign (take m rest) ≡ level = o.run in
    let in_cut : level < length (take m rest) = within (take m rest) level 91 o.second (omega arith) in
    let lt : level < m = omega (arith, length-take m rest) in
    bracket_level-from b rest level (record {
      first = o.first;
      run = sym (prefix-whole is_equals_sign m rest (omega arith)) ∙ o.run;
      second = sym (get_or-take m rest level 0 lt) ∙ o.second;
    })

pub closes-len : (level : ℕ) (xs : List ℕ) → closes level xs ≡ true → level + 2 ≤ length xs
unfolding closes
closes-len level [] h = absurd cc
closes-len level (b ∷ rest) h =
    let second : get_or rest level 0 ≡ 93 = equal _ 93 (right _ _ (right (b == 93) _ h)) in
    omega (arith, within rest level 93 second (omega arith))

one-further : (o : Option ℕ) (k : ℕ) → one_further o ≡ Some k → (j : ℕ) × (o ≡ Some j) × (k ≡ suc j)
one-further (Some j) k e = (j, refl, (let l : j + 1 ≡ k = cc in omega arith))
one-further None k e = absurd cc

pub first-closing : (level k : ℕ) (xs : List ℕ) → closing level xs ≡ Some k → IsFirstClosing level k xs
unfolding closing
first-closing level k [] e = absurd cc
first-closing level k (b ∷ rest) e = first-if (closes level (b ∷ rest)) level k b rest refl e (λ j h. first-closing level j rest h)
  where
    later : (level j b : ℕ) (rest : List ℕ) → closes level (b ∷ rest) ≡ false → IsFirstClosing level j rest → (i : ℕ) → i < suc j → closes level (drop i (b ∷ rest)) ≡ false
    later level j b rest h f zero lt = h
    later level j b rest h f (suc i) lt = f.first i (omega arith)

    further : (level j b : ℕ) (rest : List ℕ) → closes level (b ∷ rest) ≡ false → IsFirstClosing level j rest → IsFirstClosing level (suc j) (b ∷ rest)
    further level j b rest h f = record { there = f.there; first = later level j b rest h f }

    first-if : (t : Bool) (level k b : ℕ) (rest : List ℕ) → closes level (b ∷ rest) ≡ t → cond t (Some 0) (one_further (closing level rest)) ≡ Some k → ((j : ℕ) → closing level rest ≡ Some j → IsFirstClosing level j rest) → IsFirstClosing level k (b ∷ rest)
    first-if true level k b rest h e f = let none : k ≡ zero = cc in rw none (record { there = h; first = λ i lt. absurd (omega arith) })
    first-if false level k b rest h e f =
        let o : (j : ℕ) × (closing level rest ≡ Some j) × (k ≡ suc j) = one-further (closing level rest) k e in
        rw o.2 (further level o.0 b rest h (f o.0 o.1))

pub closing-from : (level k : ℕ) (xs : List ℕ) → IsFirstClosing level k xs → closing level xs ≡ Some k
unfolding closing closes
closing-from level k [] f = let there : closes level (drop k []) ≡ true = f.there in let none : closes level [] ≡ true = rw (drop-past k [] (omega arith)) at there in absurd cc
closing-from level zero (b ∷ rest) f = let there : closes level (b ∷ rest) ≡ true = f.there in rw there refl
closing-from level (suc k) (b ∷ rest) f =
    let before : closes level (b ∷ rest) ≡ false = f.first 0 (omega arith) in
    let rec : closing level rest ≡ Some k = closing-from level k rest (record { there = f.there; first = λ i lt. f.first (suc i) (omega arith) }) in
    rw (before, rec) (ap Some (omega arith))

-- a closing bracket before the cut
closing-cut : (level m c i : ℕ) (ys : List ℕ) → c ≡ m + (level + 2) → i ≤ m → closes level (drop i (take c ys)) ≡ closes level (drop i ys)
closing-cut level m c i ys e h = rw (drop-cut i c ys (omega arith)) (closes-cut level (c - i) (drop i ys) (omega arith))

pub record LongAt (level m n : ℕ) (xs : List ℕ) : Type 0 where
  pub opens : bracket_level xs ≡ Some level
  pub closed : closing level (drop (level + 2) xs) ≡ Some m
  pub len : n ≡ m + (level + 2) + (level + 2)

first-in : (level m c : ℕ) (ys : List ℕ) → c ≡ m + (level + 2) → IsFirstClosing level m (take c ys) → IsFirstClosing level m ys
first-in level m c ys e f = record {
  there = sym (closing-cut level m c m ys e (omega arith)) ∙ f.there;
  first = λ i lt. sym (closing-cut level m c i ys e (omega arith)) ∙ f.first i lt;
}

first-out : (level m c : ℕ) (ys : List ℕ) → c ≡ m + (level + 2) → IsFirstClosing level m ys → IsFirstClosing level m (take c ys)
first-out level m c ys e f = record {
  there = closing-cut level m c m ys e (omega arith) ∙ f.there;
  first = λ i lt. closing-cut level m c i ys e (omega arith) ∙ f.first i lt;
}

pub long-at : (level m n : ℕ) (xs : List ℕ) → n ≤ length xs → IsLong level m (take n xs) → LongAt level m n xs
long-at level m n xs le h =
    let len : n ≡ m + (level + 2) + (level + 2) = omega (arith, length-take n xs, h.whole) in
    let ends : IsFirstClosing level m (drop (level + 2) (take n xs)) = h.ends in
    let cut : IsFirstClosing level m (take (n - (level + 2)) (drop (level + 2) xs)) = rw (drop-cut (level + 2) n xs (omega arith)) at ends in
    record {
      opens = bracket_level-uncut n xs level h.opens;
      closed = closing-from level m (drop (level + 2) xs) (first-in level m (n - (level + 2)) (drop (level + 2) xs) (omega arith) cut);
      len = len;
    }

pub long-within : (level k : ℕ) (xs : List ℕ) → closing level (drop (level + 2) xs) ≡ Some k → k + (level + 2) + (level + 2) ≤ length xs
long-within level k xs e =
    let f : IsFirstClosing level k (drop (level + 2) xs) = first-closing level k (drop (level + 2) xs) e in
    omega (arith, closes-len level (drop k (drop (level + 2) xs)) f.there, length-drop k (drop (level + 2) xs), length-drop (level + 2) xs)

pub long-cut : (level k n : ℕ) (xs : List ℕ) → n ≡ k + (level + 2) + (level + 2) → bracket_level xs ≡ Some level → closing level (drop (level + 2) xs) ≡ Some k → IsLong level k (take n xs)
long-cut level k n xs en o e =
    let le : k + (level + 2) + (level + 2) ≤ length xs = long-within level k xs e in
    record {
      opens = bracket_level-cut n xs level o (omega arith);
      ends = rw (drop-cut (level + 2) n xs (omega arith)) (first-out level k (n - (level + 2)) (drop (level + 2) xs) (omega arith) (first-closing level k (drop (level + 2) xs) e));
      whole = omega (arith, length-take n xs);
    }
