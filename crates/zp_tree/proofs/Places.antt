-- Places of records, and names in two pieces.
use Rattle.std.proofs.Common.{◌≡◌, ℕ, ◌+◌, ◌≤◌, List, [], ◌∷◌, ◌++◌, length, take, drop, nat_eq, Bool, true, false, not, cond, ◌&&◌, bytes_eq, Option, Some, None, IsSome, slice_set, refl, sym, ap, ◌∙◌, arith, inl, inr}
use Rattle.std.proofs.lemmas.Bool.{eq-eqb, cases_eq, ne_eqb}
use Rattle.std.proofs.lemmas.Grind.{common_steps}
use Rattle.std.proofs.lemmas.List.Folds.{find_at}
use Rattle.std.proofs.lemmas.Option.{slice_get_past}
use Rattle.std.specs.List.{position_or_len, position, remove}
use Rattle.zp_tree.specs.declared.item.Item.{Item}
use Rattle.zp_tree.specs.Tree.{put, without, has_id, id_of, at}

pub put-set : (x : Item) (rs : List Item) → put x rs ≡ slice_set rs (position_or_len (has_id (id_of x)) rs) x
put-set x [] = refl
put-set x (r ∷ rs) =
    elim (has_id (id_of x) r) as (λ b. cond b (x ∷ rs) (r ∷ put x rs) ≡ slice_set (r ∷ rs) (cond (not b) (1 + position_or_len (has_id (id_of x)) rs) 0) x)
    [ true ↦ refl | false ↦ ap (λ ys. r ∷ ys) (put-set x rs) ∙ shift (position_or_len (has_id (id_of x)) rs) ]
  where
    shift : (n : ℕ) → r ∷ slice_set rs n x ≡ slice_set (r ∷ rs) (1 + n) x
    shift n = grind (arith, common_steps)

pub without-remove : (i : ℕ) (rs : List Item) → IsSome (at rs i) → without i rs ≡ remove rs (position_or_len (has_id i) rs)
without-remove i [] h = cc
without-remove i (r ∷ rs) h =
    elim (has_id i r) as (λ b. IsSome (cond b (Some r) (at rs i)) → cond b rs (r ∷ without i rs) ≡ remove (r ∷ rs) (cond (not b) (1 + position_or_len (has_id i) rs) 0))
    [ true ↦ λ g. refl | false ↦ λ g. ap (λ ys. r ∷ ys) (without-remove i rs g) ∙ shift (position_or_len (has_id i) rs) ] h
  where
    shift : (n : ℕ) → r ∷ remove rs n ≡ remove (r ∷ rs) (1 + n)
    shift n = grind (arith, common_steps)

pub some-place : {X : Type 0} (p : X → Bool) (xs : List X) (i : ℕ) → Some i ≡ position p xs → i ≡ position_or_len p xs
some-place p xs i e = grind arith

past : {X : Type 0} (p : X → Bool) (xs : List X) → None ≡ position p xs → length xs ≤ position_or_len p xs
past p xs e = grind arith

pub no-place : (i : ℕ) (rs : List Item) (o : Option ℕ) → o ≡ position (has_id i) rs → o ≡ None → IsSome (at rs i) → ⊥
no-place i rs o e n h =
    let gone : at rs i ≡ None = find_at (has_id i) rs ∙ slice_get_past rs _ (past (has_id i) rs (sym n ∙ e)) in
    cc

eqb-sym : (x y : ℕ) → nat_eq x y ≡ nat_eq y x
eqb-sym x y = elim (cases_eq x y) [ inl e ↦ eq-eqb x y e ∙ sym (eq-eqb y x (sym e)) | inr n ↦ ne_eqb x y n ∙ sym (ne_eqb y x (λ e. n (sym e))) ]

pub joined : (o t n : List ℕ) → bytes_eq (o ++ t) n ≡ (bytes_eq (take (length o) n) o && bytes_eq t (drop (length o) n))
joined [] t n = refl
joined (x ∷ o) t [] = refl
joined (x ∷ o) t (y ∷ n) =
    ap (λ b. nat_eq x y && b) (joined o t n) ∙ regroup (nat_eq x y) (nat_eq y x) (bytes_eq (take (length o) n) o) (bytes_eq t (drop (length o) n)) (eqb-sym x y)
  where
    regroup : (a b c d : Bool) → a ≡ b → (a && (c && d)) ≡ ((b && c) && d)
    regroup a b c d e = grind arith

-- the three answers of a comparison in pieces
pub none-joined : (o t n : List ℕ) → bytes_eq (take (length o) n) o ≡ false → false ≡ bytes_eq (o ++ t) n
none-joined o t n e = sym (joined o t n ∙ ap (λ b. b && bytes_eq t (drop (length o) n)) e)

pub some-joined : (o t n rest : List ℕ) → bytes_eq (take (length o) n) o ≡ true → rest ≡ drop (length o) n → bytes_eq t rest ≡ bytes_eq (o ++ t) n
some-joined o t n rest e r = ap (bytes_eq t) r ∙ sym (joined o t n ∙ ap (λ b. b && bytes_eq t (drop (length o) n)) e)
