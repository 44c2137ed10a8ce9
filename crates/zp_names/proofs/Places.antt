use Rattle.std.proofs.Common.{◌≡◌, ℕ, ◌≤◌, Bool, true, false, not, cond, List, [], ◌∷◌, length, take, drop, ◌++◌, ◌&&◌, bytes_eq, nat_eq, Some, None, sym, ap, ◌∙◌, refl, arith, inl, inr, eqb}
use Rattle.std.specs.Prelude.{find, is_none, position, unwrap_or}
use Rattle.std.specs.List.{position_or_len, starts_with}
use Rattle.std.proofs.lemmas.Bool.{lt-ltb, le-ltb, eqb-true, eq-eqb, ne_eqb, cases_lt, cases_eq}
use Rattle.std.proofs.lemmas.List.Folds.{find_at}
use Rattle.std.proofs.lemmas.List.Sums.{prefix_len-le-length}
use Rattle.zp_names.specs.Names.{is_mark, is_head}
use Rattle.std.proofs.lemmas.Option.{slice_get_past, slice_get-get_or}

-- the first place that passes, or the length, as the code computes it
pub first_place : (p : ℕ → Bool) (xs : List ℕ) → unwrap_or (position p xs) (length xs) ≡ position_or_len p xs
first_place p xs = elim (cases_lt (position_or_len p xs) (length xs)) [
  | inl lt ↦ ap (λ b. unwrap_or (cond b (Some (position_or_len p xs)) None) (length xs)) (lt-ltb _ _ lt)
  | inr le ↦ ap (λ b. unwrap_or (cond b (Some (position_or_len p xs)) None) (length xs)) (le-ltb _ _ le) ∙ (let h : position_or_len p xs ≤ length xs = prefix_len-le-length (λ x. not (p x)) xs in omega arith)
]

-- no element passes where the first place that passes is the length
pub is_none-find : (p : ℕ → Bool) (xs : List ℕ) → is_none (find p xs) ≡ eqb (position_or_len p xs) (length xs)
is_none-find p xs = elim (cases_lt (position_or_len p xs) (length xs)) [
  | inl lt ↦ ap is_none (find_at p xs ∙ slice_get-get_or xs (position_or_len p xs) 0 lt) ∙ sym (ne_eqb _ _ (λ e. omega arith))
  | inr le ↦ ap is_none (find_at p xs ∙ slice_get_past xs (position_or_len p xs) le) ∙ sym (eq-eqb _ _ (let h : position_or_len p xs ≤ length xs = prefix_len-le-length (λ x. not (p x)) xs in omega arith))
]

-- the first place that passes is no further than the end
pub place_within : (p : ℕ → Bool) (xs : List ℕ) → position_or_len p xs ≤ length xs
place_within p xs = prefix_len-le-length (λ x. not (p x)) xs

-- a text without a mark has its length in the mark's place
pub place_in_head : (t : List ℕ) → is_head t ≡ true → length t ≡ position_or_len is_mark t
place_in_head t e = sym (eqb-true _ _ (sym (is_none-find is_mark t) ∙ e))

eqb_comm : (x y : ℕ) → nat_eq x y ≡ nat_eq y x
eqb_comm x y = elim (cases_eq x y) [ inl e ↦ eq-eqb x y e ∙ sym (eq-eqb y x (sym e)) | inr n ↦ ne_eqb x y n ∙ sym (ne_eqb y x (λ e. n (sym e))) ]

-- a list begins with two pieces where it begins with the first, and what follows with the second
starts_with-append : (first second xs : List ℕ) → starts_with nat_eq xs (first ++ second) ≡ (bytes_eq (take (length first) xs) first && starts_with nat_eq (drop (length first) xs) second)
starts_with-append [] second xs = refl
starts_with-append (x ∷ first) second [] = refl
starts_with-append (x ∷ first) second (y ∷ xs) =
    ap (λ b. nat_eq x y && b) (starts_with-append first second xs) ∙ regroup (nat_eq x y) (nat_eq y x) (bytes_eq (take (length first) xs) first) (starts_with nat_eq (drop (length first) xs) second) (eqb_comm x y)
  where
    regroup : (a b c d : Bool) → a ≡ b → (a && (c && d)) ≡ ((b && c) && d)
    regroup a b c d e = grind arith

pub no_start : (first second xs : List ℕ) → bytes_eq (take (length first) xs) first ≡ false → false ≡ starts_with nat_eq xs (first ++ second)
no_start first second xs e = sym (starts_with-append first second xs ∙ ap (λ b. b && starts_with nat_eq (drop (length first) xs) second) e)

pub start_and_rest : (first second xs rest : List ℕ) → bytes_eq (take (length first) xs) first ≡ true → rest ≡ drop (length first) xs → starts_with nat_eq rest second ≡ starts_with nat_eq xs (first ++ second)
start_and_rest first second xs rest e r = ap (λ ys. starts_with nat_eq ys second) r ∙ sym (starts_with-append first second xs ∙ ap (λ b. b && starts_with nat_eq (drop (length first) xs) second) e)
