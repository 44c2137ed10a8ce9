-- The name before the mark, and the name before a slash, are valid names of datasets.
use Rattle.std.proofs.Common.{◌≡◌, ℕ, suc, ◌<◌, ◌≤◌, true, not, ◌&&◌, ◌||◌, List, [], ◌∷◌, ◌++◌, length, take, drop, get_or, sym, ap, ◌∙◌, refl, arith, inl, inr, length-append}
use Rattle.std.specs.Prelude.{nat_le}
use Rattle.std.specs.List.{position_or_len, list_all, slice_split, onto_first}
use Rattle.std.proofs.lemmas.Bool.{cases_Bool, and_parts, and_from, leb-true, le-leb, both_ways, or_left}
use Rattle.std.proofs.Math.Seq.{drop-cons}
use Rattle.std.proofs.lemmas.List.{length-take-le, take-append-drop}
use Rattle.std.proofs.lemmas.List.Sums.{prefix_len-le-length}
use Rattle.std.proofs.lemmas.List.Folds.{list_all-append}
use Rattle.std.proofs.lemmas.List.Splits.{length-slice_split, slice_split-cons_yes, slice_split-cons_no}
use Rattle.zp_names.specs.Names.{is_slash, is_mark, is_part, is_head, head_of, parts_of, short_of, begins_with_letter, is_joined, is_valid_name, is_valid_head, is_valid_short}
use Rattle.zp_names.proofs.ByteKinds.{mark_no_letter}
use Rattle.zp_names.proofs.Marks.{head_of-other, is_head-head_of, head_of-head, is_head-front}

-- what a valid name is, fact by fact
pub record IsName (t : List ℕ) : Type 0 where
  pub letter : begins_with_letter t ≡ true
  pub parts : list_all is_part (parts_of t) ≡ true
  pub short : (is_head t || is_valid_short (short_of t)) ≡ true
  pub size : length t ≤ 255
  pub depth : length (parts_of t) ≤ 50

pub from_valid : (t : List ℕ) → is_valid_name t ≡ true → IsName t
unfolding is_valid_name
from_valid t e =
    let depth = and_parts (begins_with_letter t && is_joined t && nat_le (length t) 255) (nat_le (length (parts_of t)) 50) e in
    let size = and_parts (begins_with_letter t && is_joined t) (nat_le (length t) 255) depth.0 in
    let joined = and_parts (begins_with_letter t) (is_joined t) size.0 in
    let parts = and_parts (list_all is_part (parts_of t)) (is_head t || is_valid_short (short_of t)) joined.1 in
    record { letter = joined.0; parts = parts.0; short = parts.1; size = leb-true _ _ size.1; depth = leb-true _ _ depth.1 }

pub to_valid : (t : List ℕ) → IsName t → is_valid_name t ≡ true
unfolding is_valid_name
to_valid t n = and_from _ _ (and_from _ _ (and_from _ _ n.letter (and_from _ _ n.parts n.short)) (le-leb _ _ n.size)) (le-leb _ _ n.depth)

-- a valid name has at most 255 bytes
pub valid_size : (t : List ℕ) → is_valid_name t ≡ true → length t ≤ 255
valid_size t e = (from_valid t e).size

-- and at most 50 parts
pub valid_depth : (t : List ℕ) → is_valid_name t ≡ true → length (parts_of t) ≤ 50
valid_depth t e = (from_valid t e).depth

-- what stands behind the mark of a valid name is a valid short name
pub short_valid : (t : List ℕ) → is_valid_name t ≡ true → (is_head t || is_valid_short (short_of t)) ≡ true
short_valid t e = (from_valid t e).short

-- a front of a valid name is one, where it has no mark and its parts are parts of the name
front_valid : (t xs : List ℕ) → IsName t → begins_with_letter xs ≡ true → is_head xs ≡ true → length xs ≤ length t → list_all is_part (slice_split is_slash xs) ≡ true → length (slice_split is_slash xs) ≤ length (parts_of t) → is_valid_head xs ≡ true
front_valid t xs n letter head size parts depth =
    let same : slice_split is_slash xs ≡ parts_of xs = ap (slice_split is_slash) (sym (head_of-head xs head)) in
    and_from (is_valid_name xs) (is_head xs) (to_valid xs (record {
      letter = letter;
      parts = ap (list_all is_part) (sym same) ∙ parts;
      short = or_left (is_head xs) (is_valid_short (short_of xs)) head;
      size = (let a = n.size in omega arith);
      depth = (let a = n.depth in let b = ap length same in omega arith);
    })) head

-- the letter that a name begins with stands before its mark
letter_before_mark : (t : List ℕ) → begins_with_letter t ≡ true → begins_with_letter (head_of t) ≡ true
letter_before_mark [] e = e
letter_before_mark (b ∷ bs) e = elim (cases_Bool (is_mark b)) [
  | inl m ↦ absurd (both_ways _ (mark_no_letter b m) e)
  | inr m ↦ ap begins_with_letter (head_of-other b bs m) ∙ e
]

length-head_of : (t : List ℕ) → length (head_of t) ≤ length t
length-head_of t = let h : position_or_len is_mark t ≤ length t = prefix_len-le-length (λ b. not (is_mark b)) t in omega (arith, length-take-le (position_or_len is_mark t) t h)

-- the name before the mark is valid
pub head_valid : (t : List ℕ) → is_valid_name t ≡ true → is_valid_head (head_of t) ≡ true
head_valid t e = let n = from_valid t e in front_valid t (head_of t) n (letter_before_mark t n.letter) (is_head-head_of t) (length-head_of t) n.parts (omega arith)

-- a list of parts has one
onto_first-append : (b : ℕ) (ps qs : List (List ℕ)) → 0 < length ps → onto_first b (ps ++ qs) ≡ onto_first b ps ++ qs
onto_first-append b [] qs h = absurd (omega arith)
onto_first-append b (p ∷ ps) qs h = refl

-- a slash stands between the parts before it and those behind it
pub slice_split-append : (xs ys : List ℕ) → slice_split is_slash (xs ++ 47 ∷ ys) ≡ slice_split is_slash xs ++ slice_split is_slash ys
slice_split-append [] ys = refl
slice_split-append (x ∷ xs) ys = elim (cases_Bool (is_slash x)) [
  | inl s ↦ slice_split-cons_yes is_slash x (xs ++ 47 ∷ ys) s ∙ ap (λ ps. [] ∷ ps) (slice_split-append xs ys) ∙ ap (λ ps. ps ++ slice_split is_slash ys) (sym (slice_split-cons_yes is_slash x xs s))
  | inr s ↦ slice_split-cons_no is_slash x (xs ++ 47 ∷ ys) s ∙ ap (onto_first x) (slice_split-append xs ys)
      ∙ onto_first-append x (slice_split is_slash xs) (slice_split is_slash ys) (omega (arith, length-slice_split is_slash xs))
      ∙ ap (λ ps. ps ++ slice_split is_slash ys) (sym (slice_split-cons_no is_slash x xs s))
]

letter_before_slash : (xs ys : List ℕ) → begins_with_letter (xs ++ 47 ∷ ys) ≡ true → begins_with_letter xs ≡ true
letter_before_slash [] ys e = e
letter_before_slash (x ∷ xs) ys e = e

-- what stands before a slash of a dataset's name is valid
before_slash_valid : (xs ys : List ℕ) → is_valid_name (xs ++ 47 ∷ ys) ≡ true → is_head (xs ++ 47 ∷ ys) ≡ true → is_valid_head xs ≡ true
before_slash_valid xs ys e head =
    let t = xs ++ 47 ∷ ys in
    let n = from_valid t e in
    let all : parts_of t ≡ slice_split is_slash xs ++ slice_split is_slash ys = ap (slice_split is_slash) (head_of-head t head) ∙ slice_split-append xs ys in
    let passed = and_parts _ _ (sym (list_all-append is_part (slice_split is_slash xs) (slice_split is_slash ys)) ∙ sym (ap (list_all is_part) all) ∙ n.parts) in
    front_valid t xs n (letter_before_slash xs ys n.letter) (is_head-front xs (47 ∷ ys) head) (omega (arith, length-append xs (47 ∷ ys)))
    passed.0 (let h = ap length all in omega (arith, length-append (slice_split is_slash xs) (slice_split is_slash ys)))

-- the name before a slash of a dataset's name is valid
pub parent_valid : (t : List ℕ) (at : ℕ) → is_valid_name t ≡ true → is_head t ≡ true → at < length t → get_or t at 0 ≡ 47 → is_valid_head (take at t) ≡ true
parent_valid t at e head lt slash =
    let split : t ≡ take at t ++ (47 ∷ drop (suc at) t) = sym (take-append-drop at t) ∙ ap (λ xs. take at t ++ xs) (drop-cons t at 0 lt ∙ ap (λ b. b ∷ drop (suc at) t) slash) in
    before_slash_valid (take at t) (drop (suc at) t) (sym (ap is_valid_name split) ∙ e) (sym (ap is_head split) ∙ head)
