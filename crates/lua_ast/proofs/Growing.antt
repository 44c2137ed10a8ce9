-- Lists that grow by one.
use Rattle.std.specs.Prelude.{◌≡◌, ℕ, zero, suc, ◌<◌, ◌⊎◌, List, [], ◌∷◌, ◌++◌, length, Some, slice_get, refl}
use Rattle.std.proofs.Common.{arith, inl, inr}
use Rattle.lua_ast.specs.declared.node.Field.{Field}
use Rattle.lua_ast.specs.Tree.{Tree, Trees, none, snoc, Cases, no_case, case, Fields, no_field}
use Rattle.lua_ast.specs.Decode.{list_after, list_of, cases_after, cases_of, with_field, fields_after, fields_of}

list_after-push : (part : ℕ → Tree) (before : Trees) (is : List ℕ) (i : ℕ) → list_after part before (is ++ i ∷ []) ≡ snoc (list_after part before is) (part i)
list_after-push part before [] i = refl
list_after-push part before (j ∷ is) i = list_after-push part (snoc before (part j)) is i

pub list_of_push : (part : ℕ → Tree) (is : List ℕ) (i : ℕ) → list_of part (is ++ i ∷ []) ≡ snoc (list_of part is) (part i)
unfolding list_of
list_of_push part is i = list_after-push part none is i

fields_after-push : (part : ℕ → Tree) (before : Fields) (fs : List Field) (f : Field) → fields_after part before (fs ++ f ∷ []) ≡ with_field part (fields_after part before fs) f
fields_after-push part before [] f = refl
fields_after-push part before (g ∷ fs) f = fields_after-push part (with_field part before g) fs f

pub fields_of_push : (part : ℕ → Tree) (fs : List Field) (f : Field) → fields_of part (fs ++ f ∷ []) ≡ with_field part (fields_of part fs) f
unfolding fields_of
fields_of_push part fs f = fields_after-push part no_field fs f

cases_after-push : (part : ℕ → Tree) (before : Cases) (ts bs : List ℕ) (t b : ℕ) → length ts ≡ length bs → cases_after part before (ts ++ t ∷ []) (bs ++ b ∷ []) ≡ case (cases_after part before ts bs) (part t) (part b)
cases_after-push part before [] [] t b e = refl
cases_after-push part before [] (d ∷ bs) t b e = absurd (omega (arith, e))
cases_after-push part before (c ∷ ts) [] t b e = absurd (omega (arith, e))
cases_after-push part before (c ∷ ts) (d ∷ bs) t b e = cases_after-push part (case before (part c) (part d)) ts bs t b (omega (arith, e))

pub cases_of_push : (part : ℕ → Tree) (ts bs : List ℕ) (t b : ℕ) → length ts ≡ length bs → cases_of part (ts ++ t ∷ []) (bs ++ b ∷ []) ≡ case (cases_of part ts bs) (part t) (part b)
unfolding cases_of
cases_of_push part ts bs t b e = cases_after-push part no_case ts bs t b e

-- A test whose block is still to come makes no case.
cases_after-test : (part : ℕ → Tree) (before : Cases) (ts bs : List ℕ) (t : ℕ) → length ts ≡ length bs → cases_after part before (ts ++ t ∷ []) bs ≡ cases_after part before ts bs
cases_after-test part before [] [] t e = refl
cases_after-test part before [] (d ∷ bs) t e = absurd (omega (arith, e))
cases_after-test part before (c ∷ ts) [] t e = absurd (omega (arith, e))
cases_after-test part before (c ∷ ts) (d ∷ bs) t e = cases_after-test part (case before (part c) (part d)) ts bs t (omega (arith, e))

pub cases_of_test : (part : ℕ → Tree) (ts bs : List ℕ) (t : ℕ) → length ts ≡ length bs → cases_of part (ts ++ t ∷ []) bs ≡ cases_of part ts bs
unfolding cases_of
cases_of_test part ts bs t e = cases_after-test part no_case ts bs t e

pub slice_get_before : {X : Type 0} (xs ys : List X) (i : ℕ) → i < length xs → slice_get (xs ++ ys) i ≡ slice_get xs i
slice_get_before [] ys i h = absurd (omega arith)
slice_get_before (x ∷ xs) ys zero h = refl
slice_get_before (x ∷ xs) ys (suc i) h = slice_get_before xs ys i (omega arith)

pub slice_get_last : {X : Type 0} (xs : List X) (y : X) → slice_get (xs ++ y ∷ []) (length xs) ≡ Some y
slice_get_last [] y = refl
slice_get_last (x ∷ xs) y = slice_get_last xs y

pub slice_get_push : {X : Type 0} (xs : List X) (y z : X) (i : ℕ) → slice_get (xs ++ y ∷ []) i ≡ Some z → (slice_get xs i ≡ Some z) ⊎ ((i ≡ length xs) × (y ≡ z))
slice_get_push [] y z zero e = inr (refl, cc)
slice_get_push [] y z (suc i) e = absurd cc
slice_get_push (x ∷ xs) y z zero e = inl e
slice_get_push (x ∷ xs) y z (suc i) e = elim (slice_get_push xs y z i e) [ inl h ↦ inl h | inr h ↦ inr (omega (arith, h.0), h.1) ]
