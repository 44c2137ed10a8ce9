-- A name with another front: its length, its parts, and when it is valid.
use Rattle.std.proofs.Common.{◌≡◌, ℕ, ◌+◌, Bool, true, false, ◌&&◌, ◌||◌, List, [], ◌∷◌, ◌++◌, length, ◌⊎◌, inl, inr, sym, ap, ◌∙◌, refl, arith, append-nil, length-append}
use Rattle.std.specs.Prelude.{nat_lt, count_by}
use Rattle.std.specs.List.{list_all, slice_split}
use Rattle.std.proofs.lemmas.Bool.{and_parts, and_from, or_left, ltb-false}
use Rattle.std.proofs.lemmas.List.Folds.{list_all-append}
use Rattle.std.proofs.lemmas.List.Sums.{sum_by-append}
use Rattle.std.proofs.lemmas.List.Splits.{length-slice_split}
use Rattle.zp_names.specs.Names.{is_slash, is_part, is_head, parts_of, short_of, begins_with_letter, is_valid_name, is_valid_head, is_valid_short}
use Rattle.zp_names.specs.NameMoves.{is_at_or_below, moved, outgrows}
use Rattle.zp_names.proofs.Marks.{is_head-front, head_of-head}
use Rattle.zp_names.proofs.Heads.{from_valid, to_valid, slice_split-append}
use Rattle.zp_names.proofs.Moving.{Beyond, beyond, moved_at, head_at_or_below, is_head-back, is_head-append}

-- the parts of a name without a mark
split_of : (t : List ℕ) → is_head t ≡ true → parts_of t ≡ slice_split is_slash t
split_of t h = ap (slice_split is_slash) (head_of-head t h)

-- each slash more is a part more
depth_of : (a rest : List ℕ) → is_head (a ++ rest) ≡ true → length (parts_of (a ++ rest)) ≡ length (parts_of a) + count_by is_slash rest
depth_of a rest h =
    let whole = ap length (split_of (a ++ rest) h) in
    let front = ap length (split_of a (is_head-front a rest h)) in
    let both : count_by is_slash (a ++ rest) ≡ count_by is_slash a + count_by is_slash rest = sum_by-append _ a rest in
    omega (arith, length-slice_split is_slash (a ++ rest), length-slice_split is_slash a)

pub record Moved (old new name : List ℕ) : Type 0 where
  pub head : is_head (moved old new name) ≡ true
  pub size : length (moved old new name) + length old ≡ length new + length name
  pub depth : length (parts_of (moved old new name)) + length (parts_of old) ≡ length (parts_of new) + length (parts_of name)

-- what a moved name measures
pub measured : (old new name : List ℕ) → is_head old ≡ true → is_head new ≡ true → is_at_or_below name old ≡ true → Moved old new name
measured old new name ho hn e =
    let b = beyond name old e in
    let is = moved_at old new name b.rest b.is in
    let whole : is_head (old ++ b.rest) ≡ true = joined b in
    let rest = is_head-back old b.rest whole in
    let head = is_head-append new b.rest hn rest in
    let before = ap length b.is in
    let after = ap length is in
    let deep = ap (λ t. length (parts_of t)) b.is in
    let deeper = ap (λ t. length (parts_of t)) is in
    record {
      head = ap is_head is ∙ head;
      size = omega (arith, length-append old b.rest, length-append new b.rest);
      depth = omega (arith, depth_of old b.rest whole, depth_of new b.rest head);
    }
  where
    joined : (b : Beyond name old) → is_head (old ++ b.rest) ≡ true
    joined b = sym (ap is_head b.is) ∙ head_at_or_below name old ho e

pub moved_size : (old new name : List ℕ) → is_head old ≡ true → is_head new ≡ true → is_at_or_below name old ≡ true → length (moved old new name) + length old ≡ length new + length name
moved_size old new name ho hn e = (measured old new name ho hn e).size

letter_in_front : (a b : List ℕ) → begins_with_letter a ≡ true → begins_with_letter (a ++ b) ≡ true
letter_in_front [] b e = cc
letter_in_front (x ∷ a) b e = e

-- what follows the front of a valid name is made of parts
rest_parts : (a rest : List ℕ) → is_head (a ++ rest) ≡ true → ((rest ≡ []) ⊎ ((more : List ℕ) × (rest ≡ 47 ∷ more))) → list_all is_part (parts_of (a ++ rest)) ≡ true →
    (new : List ℕ) → is_head (new ++ rest) ≡ true → list_all is_part (parts_of new) ≡ true → list_all is_part (parts_of (new ++ rest)) ≡ true
rest_parts a rest h start parts new hn good = elim start [
  | inl none ↦ ap (λ r. list_all is_part (parts_of (new ++ r))) none ∙ ap (λ t. list_all is_part (parts_of t)) (append-nil new) ∙ good
  | inr some ↦
      let split = λ (b : List ℕ) (hb : is_head (b ++ rest) ≡ true). split_of (b ++ rest) hb ∙ ap (λ r. slice_split is_slash (b ++ r)) some.1 ∙ slice_split-append b some.0 in
      let both = and_parts (list_all is_part (slice_split is_slash a)) (list_all is_part (slice_split is_slash some.0)) (sym (list_all-append is_part (slice_split is_slash a) (slice_split is_slash some.0)) ∙ sym (ap (list_all is_part) (split a h)) ∙ parts) in
      ap (list_all is_part) (split new hn) ∙ list_all-append is_part (slice_split is_slash new) (slice_split is_slash some.0)
      ∙ and_from (list_all is_part (slice_split is_slash new)) (list_all is_part (slice_split is_slash some.0)) (sym (ap (list_all is_part) (split_of new (is_head-front new rest hn))) ∙ good) both.1
]

-- a name with another front is valid where it doesn't outgrow what a name can be
pub moved_valid : (old new name : List ℕ) → is_head old ≡ true → is_head new ≡ true → is_valid_name new ≡ true → is_valid_name name ≡ true → is_at_or_below name old ≡ true → outgrows old new name 0 ≡ false → is_valid_head (moved old new name) ≡ true
moved_valid old new name ho hn vn v e fits =
    let b = beyond name old e in
    let m = measured old new name ho hn e in
    let is = moved_at old new name b.rest b.is in
    let n = from_valid name v in
    let w = from_valid new vn in
    let big = small (nat_lt 255 (length (moved old new name) + 0)) (nat_lt 50 (length (parts_of (moved old new name)))) (within (is_at_or_below name old) _ e fits) in
    and_from (is_valid_name (moved old new name)) (is_head (moved old new name)) (to_valid (moved old new name) (record {
      letter = ap begins_with_letter is ∙ letter_in_front new b.rest w.letter;
      parts = ap (λ t. list_all is_part (parts_of t)) is
          ∙ rest_parts old b.rest (sym (ap is_head b.is) ∙ head_at_or_below name old ho e) b.start (sym (ap (λ t. list_all is_part (parts_of t)) b.is) ∙ n.parts) new (sym (ap is_head is) ∙ m.head) w.parts;
      short = or_left (is_head (moved old new name)) (is_valid_short (short_of (moved old new name))) m.head;
      size = (let le = ltb-false 255 (length (moved old new name) + 0) big.0 in omega arith);
      depth = ltb-false 50 (length (parts_of (moved old new name))) big.1;
    })) m.head
  where
    small : (x y : Bool) → (x || y) ≡ false → (x ≡ false) × (y ≡ false)
    small true y h = cc
    small false y h = (refl, h)

    within : (x y : Bool) → x ≡ true → (x && y) ≡ false → y ≡ false
    within true y e h = h
    within false y e h = cc
