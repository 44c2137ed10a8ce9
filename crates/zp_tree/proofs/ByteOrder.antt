-- Texts in byte order: the texts that they were, each above those before it.
use Rattle.std.proofs.Common.{◌≡◌, ℕ, List, [], ◌∷◌, Bool, true, false, ◌||◌, Ordering, Less, Equal, Greater, nat_cmp, refl, sym, ap, ◌∙◌}
use Rattle.std.specs.List.{list_any}
use Rattle.std.specs.Ordering.{match_ordering, is_gt, ordering_reverse}
use Rattle.std.specs.Cmp.Lexicographic.{slice_cmp}
use Rattle.std.specs.BTreeSet.{insert_key}
use Rattle.std.proofs.lemmas.Cmp.{nat_list_cmp_total, tied_itself, upto}
use Rattle.std.proofs.lemmas.Map.Lookups.{exact_bytes}
use Rattle.zp_tree.specs.ShortNames.{in_byte_order}
use Rattle.zp_tree.specs.NextByName.{is_above}

-- whether one of the names passes, where one more is put
pub any-inserted : (p : List ℕ → Bool) (names : List (List ℕ)) (x : List ℕ) → list_any p (insert_key (slice_cmp nat_cmp) names x) ≡ (p x || list_any p names)
any-inserted p [] x = refl
any-inserted p (y ∷ ys) x = by (slice_cmp nat_cmp x y) refl (any-inserted p ys x)
  where
    swap : (a b c : Bool) → (a || (b || c)) ≡ (b || (a || c))
    swap true true c = refl
    swap true false c = refl
    swap false b c = refl

    once : (a b c : Bool) → a ≡ b → (b || c) ≡ (a || (b || c))
    once true b c e = ap (λ d. d || c) (sym e)
    once false b c e = refl

    by : (o : Ordering) → slice_cmp nat_cmp x y ≡ o → list_any p (insert_key (slice_cmp nat_cmp) ys x) ≡ (p x || list_any p ys) → list_any p (match_ordering o (x ∷ y ∷ ys) (y ∷ ys) (y ∷ insert_key (slice_cmp nat_cmp) ys x)) ≡ (p x || (p y || list_any p ys))
    by Less f e = refl
    by Equal f e = once (p x) (p y) (list_any p ys) (ap p (exact_bytes x y f))
    by Greater f e = ap (λ b. p y || b) e ∙ swap (p y) (p x) (list_any p ys)

-- putting names in order leaves which there are
pub any-ordered : (p : List ℕ → Bool) (names : List (List ℕ)) → list_any p (in_byte_order names) ≡ list_any p names
any-ordered p [] = refl
any-ordered p (x ∷ xs) = any-inserted p (in_byte_order xs) x ∙ ap (λ b. p x || b) (any-ordered p xs)

-- ---- which text is above which

pub above-itself : (x : List ℕ) → is_above x x ≡ false
above-itself x = ap is_gt (tied_itself nat_list_cmp_total x)

pub above-back : (x y : List ℕ) → is_above x y ≡ true → is_above y x ≡ false
above-back x y e = go (slice_cmp nat_cmp x y) refl e
  where
    go : (o : Ordering) → slice_cmp nat_cmp x y ≡ o → is_gt o ≡ true → is_above y x ≡ false
    go Greater f g = ap is_gt (nat_list_cmp_total.antisymm y x ∙ ap ordering_reverse f)
    go Less f g = cc
    go Equal f g = cc

-- what is above a text above another is above that
pub above-beyond : (z y x : List ℕ) → is_above z y ≡ true → is_above y x ≡ true → is_above z x ≡ true
above-beyond z y x e f = by (is_above z x) refl
  where
    by : (b : Bool) → is_above z x ≡ b → is_above z x ≡ true
    by true g = g
    by false g = let no : is_above z y ≡ false = upto nat_list_cmp_total z x y g (above-back y x f) in cc

-- a text that isn't above one is above none that is above it
pub not-beyond : (y x a : List ℕ) → is_above y a ≡ false → is_above x a ≡ true → is_above y x ≡ false
not-beyond y x a e f = by (is_above y x) refl
  where
    by : (b : Bool) → is_above y x ≡ b → is_above y x ≡ false
    by false g = g
    by true g = let yes : is_above y a ≡ true = above-beyond y x a g f in cc

-- ---- texts of which each is above those before it

abbrev pub AllAbove : List ℕ → List (List ℕ) → Type 0
AllAbove x [] = Unit {0}
AllAbove x (y ∷ ys) = (is_above y x ≡ true) × AllAbove x ys

abbrev pub Climbs : List (List ℕ) → Type 0
Climbs [] = Unit {0}
Climbs (x ∷ xs) = AllAbove x xs × Climbs xs

pub all-beyond : (x y : List ℕ) (ys : List (List ℕ)) → is_above y x ≡ true → AllAbove y ys → AllAbove x ys
all-beyond x y [] e h = tt
all-beyond x y (z ∷ ys) e h = (above-beyond z y x h.0 e, all-beyond x y ys e h.1)

all-inserted : (x k : List ℕ) (ys : List (List ℕ)) → is_above k x ≡ true → AllAbove x ys → AllAbove x (insert_key (slice_cmp nat_cmp) ys k)
all-inserted x k [] e h = (e, tt)
all-inserted x k (y ∷ ys) e h = by (slice_cmp nat_cmp k y) (all-inserted x k ys e h.1)
  where
    by : (o : Ordering) → AllAbove x (insert_key (slice_cmp nat_cmp) ys k) → AllAbove x (match_ordering o (k ∷ y ∷ ys) (y ∷ ys) (y ∷ insert_key (slice_cmp nat_cmp) ys k))
    by Less m = (e, h)
    by Equal m = h
    by Greater m = (h.0, m)

climbs-inserted : (k : List ℕ) (ys : List (List ℕ)) → Climbs ys → Climbs (insert_key (slice_cmp nat_cmp) ys k)
climbs-inserted k [] h = (tt, tt)
climbs-inserted k (y ∷ ys) h = by (slice_cmp nat_cmp k y) refl (climbs-inserted k ys h.1)
  where
    by : (o : Ordering) → slice_cmp nat_cmp k y ≡ o → Climbs (insert_key (slice_cmp nat_cmp) ys k) → Climbs (match_ordering o (k ∷ y ∷ ys) (y ∷ ys) (y ∷ insert_key (slice_cmp nat_cmp) ys k))
    by Less f m =
        let over : is_above y k ≡ true = ap is_gt (nat_list_cmp_total.antisymm y k ∙ ap ordering_reverse f) in
        ((over, all-beyond k y ys over h.0), h)
    by Equal f m = h
    by Greater f m = (all-inserted y k ys (ap is_gt f) h.0, m)

pub climbs-ordered : (names : List (List ℕ)) → Climbs (in_byte_order names)
climbs-ordered [] = tt
climbs-ordered (x ∷ xs) = climbs-inserted x (in_byte_order xs) (climbs-ordered xs)
