-- Sums over the records.
use Rattle.std.proofs.Common.{◌≡◌, ℕ, ◌+◌, List, [], ◌∷◌, cond, Some, sym, ap, ◌∙◌, sum_by, inl, inr}
use Rattle.std.proofs.lemmas.Bool.{cases_eq, eq-eqb, ne_eqb}
use Rattle.std.proofs.lemmas.List.Sums.{sum_by-cons}
use Rattle.zp_tree.specs.declared.item.Item.{Item}
use Rattle.zp_tree.specs.Tree.{at, id_of, put}

-- a record of the same weight in the place of another
pub sum-put : (f : Item → ℕ) (x r : Item) (rs : List Item) → at rs (id_of x) ≡ Some r → f x ≡ f r → sum_by f (put x rs) ≡ sum_by f rs
sum-put f x r [] e same = cc
sum-put f x r (y ∷ rs) e same = elim (cases_eq (id_of y) (id_of x)) [
  | inl here ↦
      let is : Some y ≡ Some r = sym (ap (λ b. cond b (Some y) (at rs (id_of x))) (eq-eqb (id_of y) (id_of x) here)) ∙ e in
      let it : y ≡ r = cc in
      ap (λ b. sum_by f (cond b (x ∷ rs) (y ∷ put x rs))) (eq-eqb (id_of y) (id_of x) here) ∙ sum_by-cons f x rs ∙ ap (λ n. n + sum_by f rs) (same ∙ ap f (sym it)) ∙ sym (sum_by-cons f y rs)
  | inr there ↦
      ap (λ b. sum_by f (cond b (x ∷ rs) (y ∷ put x rs))) (ne_eqb (id_of y) (id_of x) there) ∙ sum_by-cons f y (put x rs)
      ∙ ap (λ n. f y + n) (sum-put f x r rs (sym (ap (λ b. cond b (Some y) (at rs (id_of x))) (ne_eqb (id_of y) (id_of x) there)) ∙ e) same) ∙ sym (sum_by-cons f y rs)
]
