-- The record that comes first by name, record by record.
use Rattle.std.proofs.Common.{◌≡◌, ℕ, zero, suc, List, [], ◌∷◌, ◌++◌, Bool, true, false, cond, Option, Some, None, refl, sym, ap, subst, ◌∙◌, inl, inr, ◌⊎◌, Ordering, Less, Equal, Greater, nat_cmp, option_map}
use Rattle.std.specs.Prelude.{slice_get}
use Rattle.std.specs.Ordering.{is_gt, ordering_reverse}
use Rattle.std.specs.Cmp.Lexicographic.{slice_cmp}
use Rattle.std.proofs.lemmas.Bool.{cases_Bool}
use Rattle.std.proofs.lemmas.Cmp.{nat_list_cmp_total, tied_itself, upto}
use Rattle.zp_tree.specs.declared.item.Item.{Item}
use Rattle.zp_tree.specs.Tree.{id_of}
use Rattle.zp_tree.specs.NextByName.{is_above, key_of, Comes, IsNext, better, lesser}

snoc-cases : (rs : List Item) (r x : Item) (k : ℕ) → slice_get (rs ++ r ∷ []) k ≡ Some x → (slice_get rs k ≡ Some x) ⊎ (r ≡ x)
snoc-cases [] r x zero e = inr (let is : Some r ≡ Some x = e in cc)
snoc-cases [] r x (suc k) e = cc
snoc-cases (y ∷ rs) r x zero e = inl e
snoc-cases (y ∷ rs) r x (suc k) e = snoc-cases rs r x k e

grow : (rs : List Item) (r x : Item) (k : ℕ) → slice_get rs k ≡ Some x → slice_get (rs ++ r ∷ []) k ≡ Some x
grow [] r x k e = cc
grow (y ∷ rs) r x zero e = e
grow (y ∷ rs) r x (suc k) e = grow rs r x k e

record Last (rs : List Item) (r : Item) : Type 0 where
  place : ℕ
  there : slice_get (rs ++ r ∷ []) place ≡ Some r

last : (rs : List Item) (r : Item) → Last rs r
last [] r = record { place = 0; there = refl }
last (y ∷ rs) r = let l = last rs r in record { place = suc l.place; there = l.there }

below-back : (x y : List ℕ) → is_above x y ≡ true → is_above y x ≡ false
below-back x y e = go (slice_cmp nat_cmp x y) refl e
  where
    go : (o : Ordering) → slice_cmp nat_cmp x y ≡ o → is_gt o ≡ true → is_above y x ≡ false
    go Greater f g = ap is_gt (nat_list_cmp_total.antisymm y x ∙ ap ordering_reverse f)
    go Less f g = cc
    go Equal f g = cc

-- a record that doesn't pass leaves the first
stays : (rs : List Item) (may : Item → Bool) (o : Option Item) (r : Item) → may r ≡ false → Comes rs may o → Comes (rs ++ r ∷ []) may o
stays rs may None r out h = record { none = λ k u e. elim (snoc-cases rs r u k e) [ inl old ↦ h.none k u old | inr here ↦ ap may (sym here) ∙ out ] }
stays rs may (Some s) r out h = record {
  place = h.place;
  there = grow rs r s h.place h.there;
  passes = h.passes;
  least = λ k u e m. elim (snoc-cases rs r u k e) [ inl old ↦ h.least k u old m | inr here ↦ (let gone : may u ≡ false = ap may (sym here) ∙ out in cc) ];
}

pub comes-more : (rs : List Item) (may : Item → Bool) (o : Option Item) (r : Item) → Comes rs may o → Comes (rs ++ r ∷ []) may (better (may r) o r)
comes-more rs may o r h = elim (cases_Bool (may r)) [
  | inr out ↦ subst (λ b. Comes (rs ++ r ∷ []) may (cond b (lesser r o) o)) (sym out) (stays rs may o r out h)
  | inl can ↦ subst (λ b. Comes (rs ++ r ∷ []) may (cond b (lesser r o) o)) (sym can) (come o h can)
]
  where
    itself : is_above (key_of r) (key_of r) ≡ false
    itself = ap is_gt (tied_itself nat_list_cmp_total (key_of r))

    come : (o : Option Item) → Comes rs may o → may r ≡ true → Comes (rs ++ r ∷ []) may (lesser r o)
    come None h can = let l = last rs r in record {
      place = l.place;
      there = l.there;
      passes = can;
      least = λ k u e m. elim (snoc-cases rs r u k e) [ inl old ↦ (let gone = h.none k u old in cc) | inr here ↦ ap (λ v. is_above (key_of r) (key_of v)) (sym here) ∙ itself ];
    }
    come (Some t) h can = elim (cases_Bool (is_above (key_of t) (key_of r))) [
      | inl over ↦ subst (λ b. Comes (rs ++ r ∷ []) may (cond b (Some r) (Some t))) (sym over) (let l = last rs r in record {
        place = l.place;
        there = l.there;
        passes = can;
        least = λ k u e m. elim (snoc-cases rs r u k e) [ inl old ↦ upto nat_list_cmp_total (key_of r) (key_of t) (key_of u) (below-back (key_of t) (key_of r) over) (h.least k u old m) | inr here ↦ ap (λ v. is_above (key_of r) (key_of v)) (sym here) ∙ itself ];
      })
      | inr under ↦ subst (λ b. Comes (rs ++ r ∷ []) may (cond b (Some r) (Some t))) (sym under) (record {
        place = h.place;
        there = grow rs r t h.place h.there;
        passes = h.passes;
        least = λ k u e m. elim (snoc-cases rs r u k e) [ inl old ↦ h.least k u old m | inr here ↦ ap (λ v. is_above (key_of t) (key_of v)) (sym here) ∙ under ];
      })
    ]

-- the id of what comes first
pub next-of : (rs : List Item) (may : Item → Bool) (o : Option Item) → Comes rs may o → IsNext rs may (option_map id_of o)
next-of rs may None h = h
next-of rs may (Some r) h = record { item = r; id = refl; first = h }

-- where the test fails everywhere, none comes
pub none-comes : (rs : List Item) (may : Item → Bool) → ((r : Item) → may r ≡ false) → IsNext rs may None
none-comes rs may h = record { none = λ k r e. h r }
