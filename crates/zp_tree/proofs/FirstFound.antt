-- What comes first by a key, element by element.
use Rattle.std.proofs.Common.{◌≡◌, ℕ, zero, suc, ◌+◌, ◌<◌, length, take, get_or, add-one, List, [], ◌∷◌, ◌++◌, Bool, true, false, cond, Option, Some, None, refl, sym, ap, subst, ◌∙◌, inl, inr, ◌⊎◌, Ordering, Less, Equal, Greater, nat_cmp}
use Rattle.std.specs.Prelude.{slice_get}
use Rattle.std.proofs.Math.Seq.{take-suc}
use Rattle.std.specs.Ordering.{is_gt, ordering_reverse}
use Rattle.std.specs.Cmp.Lexicographic.{slice_cmp}
use Rattle.std.proofs.lemmas.Bool.{cases_Bool}
use Rattle.std.proofs.lemmas.Cmp.{nat_list_cmp_total, tied_itself, upto}
use Rattle.zp_tree.specs.NextByName.{is_above}
use Rattle.zp_tree.specs.FirstByKey.{FirstBy, sooner, first_of}

snoc-cases : {A : Type 0} (rs : List A) (r x : A) (k : ℕ) → slice_get (rs ++ r ∷ []) k ≡ Some x → (slice_get rs k ≡ Some x) ⊎ (r ≡ x)
snoc-cases [] r x zero e = inr (let is : Some r ≡ Some x = e in cc)
snoc-cases [] r x (suc k) e = cc
snoc-cases (y ∷ rs) r x zero e = inl e
snoc-cases (y ∷ rs) r x (suc k) e = snoc-cases rs r x k e

grow : {A : Type 0} (rs : List A) (r x : A) (k : ℕ) → slice_get rs k ≡ Some x → slice_get (rs ++ r ∷ []) k ≡ Some x
grow [] r x k e = cc
grow (y ∷ rs) r x zero e = e
grow (y ∷ rs) r x (suc k) e = grow rs r x k e

record Last {A : Type 0} (rs : List A) (r : A) : Type 0 where
  place : ℕ
  there : slice_get (rs ++ r ∷ []) place ≡ Some r

last : {A : Type 0} (rs : List A) (r : A) → Last rs r
last [] r = record { place = 0; there = refl }
last (y ∷ rs) r = let l = last rs r in record { place = suc l.place; there = l.there }

below-back : (x y : List ℕ) → is_above x y ≡ true → is_above y x ≡ false
below-back x y e = go (slice_cmp nat_cmp x y) refl e
  where
    go : (o : Ordering) → slice_cmp nat_cmp x y ≡ o → is_gt o ≡ true → is_above y x ≡ false
    go Greater f g = ap is_gt (nat_list_cmp_total.antisymm y x ∙ ap ordering_reverse f)
    go Less f g = cc
    go Equal f g = cc

-- what doesn't pass leaves the first
stays : {A : Type 0} (key : A → List ℕ) (rs : List A) (may : A → Bool) (o : Option A) (r : A) → may r ≡ false → FirstBy key rs may o → FirstBy key (rs ++ r ∷ []) may o
stays key rs may None r out h = record { none = λ k u e. elim (snoc-cases rs r u k e) [ inl old ↦ h.none k u old | inr here ↦ ap may (sym here) ∙ out ] }
stays key rs may (Some s) r out h = record {
  place = h.place;
  there = grow rs r s h.place h.there;
  passes = h.passes;
  least = λ k u e m. elim (snoc-cases rs r u k e) [ inl old ↦ h.least k u old m | inr here ↦ (let gone : may u ≡ false = ap may (sym here) ∙ out in cc) ];
}

pub first-more : {A : Type 0} (key : A → List ℕ) (rs : List A) (may : A → Bool) (o : Option A) (r : A) → FirstBy key rs may o → FirstBy key (rs ++ r ∷ []) may (first_of key (may r) o r)
first-more {A} key rs may o r h = elim (cases_Bool (may r)) [
  | inr out ↦ subst (λ b. FirstBy key (rs ++ r ∷ []) may (cond b (sooner key r o) o)) (sym out) (stays key rs may o r out h)
  | inl can ↦ subst (λ b. FirstBy key (rs ++ r ∷ []) may (cond b (sooner key r o) o)) (sym can) (come o h can)
]
  where
    itself : is_above (key r) (key r) ≡ false
    itself = ap is_gt (tied_itself nat_list_cmp_total (key r))

    come : (o : Option A) → FirstBy key rs may o → may r ≡ true → FirstBy key (rs ++ r ∷ []) may (sooner key r o)
    come None h can = let l = last rs r in record {
      place = l.place;
      there = l.there;
      passes = can;
      least = λ k u e m. elim (snoc-cases rs r u k e) [ inl old ↦ (let gone = h.none k u old in cc) | inr here ↦ ap (λ v. is_above (key r) (key v)) (sym here) ∙ itself ];
    }
    come (Some t) h can = elim (cases_Bool (is_above (key t) (key r))) [
      | inl over ↦ subst (λ b. FirstBy key (rs ++ r ∷ []) may (cond b (Some r) (Some t))) (sym over) (let l = last rs r in record {
        place = l.place;
        there = l.there;
        passes = can;
        least = λ k u e m. elim (snoc-cases rs r u k e) [ inl old ↦ upto nat_list_cmp_total (key r) (key t) (key u) (below-back (key t) (key r) over) (h.least k u old m) | inr here ↦ ap (λ v. is_above (key r) (key v)) (sym here) ∙ itself ];
      })
      | inr under ↦ subst (λ b. FirstBy key (rs ++ r ∷ []) may (cond b (Some r) (Some t))) (sym under) (record {
        place = h.place;
        there = grow rs r t h.place h.there;
        passes = h.passes;
        least = λ k u e m. elim (snoc-cases rs r u k e) [ inl old ↦ h.least k u old m | inr here ↦ ap (λ v. is_above (key t) (key v)) (sym here) ∙ under ];
      })
    ]

-- the elements up to a place, with the one that is there
pub up-to : {A : Type 0} (xs : List A) (i : ℕ) (d : A) → i < length xs → d ≡ get_or xs i d → take (i + 1) xs ≡ take i xs ++ d ∷ []
up-to xs i d lt is = let e : take (i + 1) xs ≡ take i xs ++ get_or xs i d ∷ [] = rw (add-one, take-suc xs i d lt) in e ∙ ap (λ y. take i xs ++ y ∷ []) (sym is)
