-- A text before and after its mark.
use Rattle.std.proofs.Common.{◌≡◌, ℕ, suc, ◌+◌, Bool, true, false, not, cond, List, [], ◌∷◌, ◌++◌, take, drop, Some, None, Option, sym, ap, ◌∙◌, refl, subst, arith, inl, inr, nat_eq}
use Rattle.std.specs.Prelude.{find, is_none}
use Rattle.std.specs.List.{position_or_len}
use Rattle.std.specs.Option.{option_or}
use Rattle.std.proofs.lemmas.Bool.{cases_Bool, or_cases, eqb-true, both_ways}
use Rattle.std.proofs.lemmas.List.Folds.{find-append}
use Rattle.zp_names.specs.declared.form.Form.{Form}
use Rattle.zp_names.specs.declared.form.Form.TheVariants as form
use Rattle.zp_names.specs.Names.{is_mark, is_head, head_of, short_of}
use Rattle.zp_names.specs.NameParts.{form_by, form_of, written}

-- a byte that is no mark stands before the mark
pub head_of-other : (b : ℕ) (bs : List ℕ) → is_mark b ≡ false → head_of (b ∷ bs) ≡ b ∷ head_of bs
head_of-other b bs e = ap (λ x. take (cond (not x) (1 + position_or_len is_mark bs) 0) (b ∷ bs)) e ∙ ap (λ n. take n (b ∷ bs)) one
  where
    one : 1 + position_or_len is_mark bs ≡ suc (position_or_len is_mark bs)
    one = omega arith

-- and is no part of the short name
pub short_of-other : (b : ℕ) (bs : List ℕ) → is_mark b ≡ false → short_of (b ∷ bs) ≡ short_of bs
short_of-other b bs e = ap (λ x. drop (cond (not x) (1 + position_or_len is_mark bs) 0 + 1) (b ∷ bs)) e ∙ ap (λ n. drop n (b ∷ bs)) one
  where
    one : 1 + position_or_len is_mark bs + 1 ≡ suc (position_or_len is_mark bs + 1)
    one = omega arith

-- a text is a head's where no byte of it is a mark
pub is_head-cons : (b : ℕ) (bs : List ℕ) (x : Bool) → is_mark b ≡ x → is_head (b ∷ bs) ≡ cond x false (is_head bs)
is_head-cons b bs true e = ap (λ x. is_none (cond x (Some b) (find is_mark bs))) e
is_head-cons b bs false e = ap (λ x. is_none (cond x (Some b) (find is_mark bs))) e

-- no mark stands before the mark
pub is_head-head_of : (t : List ℕ) → is_head (head_of t) ≡ true
is_head-head_of [] = refl
is_head-head_of (b ∷ bs) = elim (cases_Bool (is_mark b)) [
  | inl m ↦ ap (λ x. is_head (take (cond (not x) (1 + position_or_len is_mark bs) 0) (b ∷ bs))) m
  | inr m ↦ ap is_head (head_of-other b bs m) ∙ is_head-cons b (head_of bs) false m ∙ is_head-head_of bs
]

-- without a mark all of a text stands before it
pub head_of-head : (t : List ℕ) → is_head t ≡ true → head_of t ≡ t
head_of-head [] e = refl
head_of-head (b ∷ bs) e = elim (cases_Bool (is_mark b)) [
  | inl m ↦ absurd (both_ways _ (is_head-cons b bs true m) e)
  | inr m ↦ head_of-other b bs m ∙ ap (λ xs. b ∷ xs) (head_of-head bs (sym (is_head-cons b bs false m) ∙ e))
]

-- a front of a text without a mark has none
pub is_head-front : (xs ys : List ℕ) → is_head (xs ++ ys) ≡ true → is_head xs ≡ true
is_head-front xs ys e = go (find is_mark xs) (ap is_none (sym (find-append is_mark xs ys)) ∙ e)
  where
    go : (o : Option ℕ) → is_none (option_or o (find is_mark ys)) ≡ true → is_none o ≡ true
    go None h = refl
    go (Some x) h = h

-- a mark in front of more, and a text with one more byte before it
written-cons : (b : ℕ) (f : Form) (head short : List ℕ) → b ∷ written f head short ≡ written f (b ∷ head) short
written-cons b form.Head head short = refl
written-cons b form.Snap head short = refl
written-cons b form.Bookmark head short = refl

-- a name is its head, its mark and its short name
pub text_written : (t : List ℕ) → t ≡ written (form_of t) (head_of t) (short_of t)
text_written [] = refl
text_written (b ∷ bs) = elim (cases_Bool (is_mark b)) [
  | inl m ↦ elim (or_cases (nat_eq b 64) (nat_eq b 35) m) [ inl e ↦ at 64 (eqb-true b 64 e) refl | inr e ↦ at 35 (eqb-true b 35 e) refl ]
  | inr m ↦ ap (λ xs. b ∷ xs) (text_written bs) ∙ written-cons b (form_of bs) (head_of bs) (short_of bs)
      ∙ ap (λ f. written f (b ∷ head_of bs) (short_of bs)) (sym (form_of-other m))
      ∙ ap (λ h. written (form_of (b ∷ bs)) h (short_of bs)) (sym (head_of-other b bs m))
      ∙ ap (written (form_of (b ∷ bs)) (head_of (b ∷ bs))) (sym (short_of-other b bs m))
]
  where
    at : (mark : ℕ) → b ≡ mark → (mark ∷ bs ≡ written (form_of (mark ∷ bs)) (head_of (mark ∷ bs)) (short_of (mark ∷ bs))) → b ∷ bs ≡ written (form_of (b ∷ bs)) (head_of (b ∷ bs)) (short_of (b ∷ bs))
    at mark is h = subst (λ x. x ∷ bs ≡ written (form_of (x ∷ bs)) (head_of (x ∷ bs)) (short_of (x ∷ bs))) (sym is) h

    form_of-other : is_mark b ≡ false → form_of (b ∷ bs) ≡ form_of bs
    form_of-other m = ap (λ x. form_by (cond x (Some b) (find is_mark bs))) m
