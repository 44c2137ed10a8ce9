-- A text is valid exactly where it has no fault.
use Rattle.std.proofs.Common.{◌≡◌, ℕ, suc, ◌+◌, ◌-◌, ◌<◌, ◌≤◌, Bool, true, false, not, cond, ◌&&◌, ◌||◌, List, [], ◌∷◌, length, drop, get_or, Some, None, Option, sym, ap, ◌∙◌, refl, arith, inl, inr, length-drop, add-one}
use Rattle.std.specs.Prelude.{is_none, nat_le, nat_lt}
use Rattle.std.specs.Option.{option_or}
use Rattle.std.specs.Str.{IsAscii}
use Rattle.std.proofs.Math.Seq.{drop-cons}
use Rattle.std.proofs.lemmas.Bool.{cases_lt, lt-leb, le-leb, lt-ltb, le-ltb, and_parts, ne_eqb}
use Rattle.std.proofs.lemmas.List.Folds.{list_any_more}
use Rattle.std.proofs.lemmas.Option.{slice_get_past, slice_get-get_or}
use Rattle.zp_names.specs.declared.bad_name.BadName.{BadName}
use Rattle.zp_names.specs.declared.bad_name.BadName.TheVariants as bad
use Rattle.zp_names.specs.Names.{is_mark, is_separator, is_joined, parts_of, begins_with_letter, is_valid_name}
use Rattle.zp_names.specs.NameFaults.{fault_of, fault_at, is_marked, starts_part, first_fault, name_fault, depth_fault}
use Rattle.zp_names.proofs.FirstFaults.{first_fault_step, starts_part_more}
use Rattle.zp_names.proofs.Rests.{clean, clean_whole, clean_ascii}

is_none-option_or : (o p : Option BadName) → is_none (option_or o p) ≡ (is_none o && is_none p)
is_none-option_or None p = refl
is_none-option_or (Some x) p = refl

-- from a place on a text has no fault where what follows is clean
first_clean : (t r : List ℕ) (i : ℕ) → i ≤ length t → drop i t ≡ r → is_none (first_fault t i (length t + 1 - i)) ≡ clean i (is_marked t i) (starts_part t i) r
first_clean t [] i le e =
    let end : i ≡ length t = (let h : length (drop i t) ≡ 0 = ap length e in omega (arith, length-drop i t)) in
    let last : length t + 1 - (i + 1) ≡ 0 = omega arith in
    ap is_none (first_fault_step t i le) ∙ is_none-option_or (fault_at t i) (first_fault t (i + 1) (length t + 1 - (i + 1)))
    ∙ ap (λ n. is_none (fault_at t i) && is_none (first_fault t (i + 1) n)) last
    ∙ ap (λ o. is_none (fault_of i o (is_marked t i) (starts_part t i)) && true) (slice_get_past t i (omega arith))
    ∙ and_true (is_none (fault_of i None (is_marked t i) (starts_part t i)))
  where
    and_true : (x : Bool) → (x && true) ≡ x
    and_true true = refl
    and_true false = refl
first_clean t (b ∷ bs) i le e =
    let lt : i < length t = (let h : length (drop i t) ≡ length (b ∷ bs) = ap length e in omega (arith, length-drop i t)) in
    let both : get_or t i 0 ∷ drop (suc i) t ≡ b ∷ bs = sym (drop-cons t i 0 lt) ∙ e in
    let here : get_or t i 0 ≡ b = ap (λ xs. get_or xs 0 0) both in
    let rest : drop (i + 1) t ≡ bs = ap (λ n. drop n t) (add-one i) ∙ ap (drop 1) both in
    ap is_none (first_fault_step t i le) ∙ is_none-option_or (fault_at t i) (first_fault t (i + 1) (length t + 1 - (i + 1)))
    ∙ ap (λ o. is_none (fault_of i o (is_marked t i) (starts_part t i)) && is_none (first_fault t (i + 1) (length t + 1 - (i + 1)))) (slice_get-get_or t i 0 lt ∙ ap (λ x. Some x) here)
    ∙ ap (λ x. is_none (fault_of i (Some b) (is_marked t i) (starts_part t i)) && x) (
    first_clean t bs (i + 1) (omega arith) rest
    ∙ ap (λ m. clean (i + 1) m (starts_part t (i + 1)) bs) (list_any_more is_mark t i 0 lt ∙ ap (λ x. is_marked t i || is_mark x) here)
    ∙ ap (λ s. clean (i + 1) (is_marked t i || is_mark b) s bs) (starts_part_more t i ∙ ap is_separator here))

-- a text without a fault at any place is made of parts as a name is
joined_where_clean : (t : List ℕ) → is_none (first_fault t 0 (length t + 1)) ≡ (begins_with_letter t && is_joined t)
joined_where_clean t = ap (λ n. is_none (first_fault t 0 n)) all ∙ first_clean t t 0 (omega arith) refl ∙ clean_whole t
  where
    all : length t + 1 ≡ length t + 1 - 0
    all = omega arith

at_most : (a b : ℕ) → nat_le a b ≡ not (nat_lt b a)
at_most a b = elim (cases_lt b a) [ inl lt ↦ lt-leb a b lt ∙ ap not (sym (lt-ltb b a lt)) | inr le ↦ le-leb a b le ∙ ap not (sym (le-ltb b a le)) ]

-- the law: a text is a valid name exactly where it has no fault
pub valid_where_no_fault : (t : List ℕ) → is_valid_name t ≡ is_none (name_fault t)
unfolding is_valid_name name_fault
valid_where_no_fault [] = refl
valid_where_no_fault (b ∷ bs) =
    ap (λ x. x && nat_le (length t) 255 && nat_le (length (parts_of t)) 50) (sym (joined_where_clean t))
    ∙ ap (λ x. is_none faults && x && nat_le (length (parts_of t)) 50) (at_most (length t) 255)
    ∙ ap (λ x. is_none faults && not (nat_lt 255 (length t)) && x) (at_most (length (parts_of t)) 50)
    ∙ rows (nat_lt 255 (length t)) (nat_lt 50 (length (parts_of t))) faults
    ∙ sym (ap (λ z. is_none (cond z (Some bad.Empty) (cond (nat_lt 255 (length t)) (Some (bad.TooLong (length t))) (option_or faults (depth_fault t))))) (ne_eqb (length t) 0 (λ e. omega arith)))
  where
    t : List ℕ
    t = b ∷ bs

    faults : Option BadName
    faults = first_fault t 0 (length t + 1)

    rows : (l d : Bool) (o : Option BadName) → (is_none o && not l && not d) ≡ is_none (cond l (Some (bad.TooLong (length t))) (option_or o (cond d (Some (bad.TooDeep (length (parts_of t)))) None)))
    rows true d None = refl
    rows true d (Some x) = refl
    rows false true None = refl
    rows false false None = refl
    rows false d (Some x) = refl

-- a valid name is ASCII
pub valid_ascii : (t : List ℕ) → is_valid_name t ≡ true → IsAscii t
unfolding is_valid_name
valid_ascii t e = clean_ascii 0 false true t (clean_whole t ∙ (and_parts _ _ (and_parts _ _ e).0).0)
