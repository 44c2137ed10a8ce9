-- A head's name, a mark and a short name are a name where they are short enough.
use Rattle.std.proofs.Common.{◌≡◌, ℕ, ◌+◌, ◌≤◌, true, false, not, cond, Some, None, List, [], ◌∷◌, ◌++◌, length, take, drop, sym, ap, ◌∙◌, arith, inl, inr, nat_le}
use Rattle.std.specs.List.{position_or_len, slice_split, list_all}
use Rattle.std.proofs.lemmas.Bool.{cases_Bool, both_ways, or_right, leb-true, le-leb}
use Rattle.zp_names.specs.Names.{is_slash, is_mark, is_part, is_head, head_of, parts_of, short_of, begins_with_letter, is_valid_name, is_valid_short, as_name}
use Rattle.zp_names.specs.NameParts.{within_name}
use Rattle.zp_names.proofs.Marks.{head_of-other, short_of-other, is_head-cons, head_of-head}
use Rattle.zp_names.proofs.Heads.{from_valid, to_valid, valid_size}

-- the head is what stands before the mark
head_of-joined : (n s : List ℕ) (x : ℕ) → is_mark x ≡ true → is_head n ≡ true → head_of (n ++ x ∷ s) ≡ n
head_of-joined [] s x m h = ap (λ y. take (cond (not y) (1 + position_or_len is_mark s) 0) (x ∷ s)) m
head_of-joined (b ∷ n) s x m h = elim (cases_Bool (is_mark b)) [
  | inl k ↦ absurd (both_ways _ (is_head-cons b n true k) h)
  | inr k ↦ head_of-other b (n ++ x ∷ s) k ∙ ap (λ t. b ∷ t) (head_of-joined n s x m (sym (is_head-cons b n false k) ∙ h))
]

-- and the short name what stands behind it
short_of-joined : (n s : List ℕ) (x : ℕ) → is_mark x ≡ true → is_head n ≡ true → short_of (n ++ x ∷ s) ≡ s
short_of-joined [] s x m h = ap (λ y. drop (cond (not y) (1 + position_or_len is_mark s) 0 + 1) (x ∷ s)) m
short_of-joined (b ∷ n) s x m h = elim (cases_Bool (is_mark b)) [
  | inl k ↦ absurd (both_ways _ (is_head-cons b n true k) h)
  | inr k ↦ short_of-other b (n ++ x ∷ s) k ∙ short_of-joined n s x m (sym (is_head-cons b n false k) ∙ h)
]

letter_joined : (n t : List ℕ) → begins_with_letter n ≡ true → begins_with_letter (n ++ t) ≡ true
letter_joined [] t e = cc
letter_joined (b ∷ n) t e = e

joined_valid : (n s : List ℕ) (x : ℕ) → is_mark x ≡ true → is_valid_name n ≡ true → is_head n ≡ true → is_valid_short s ≡ true → length (n ++ x ∷ s) ≤ 255 → is_valid_name (n ++ x ∷ s) ≡ true
joined_valid n s x m v h short size =
    let k = from_valid n v in
    let same : parts_of (n ++ x ∷ s) ≡ parts_of n = ap (slice_split is_slash) (head_of-joined n s x m h ∙ sym (head_of-head n h)) in
    to_valid (n ++ x ∷ s) (record {
      letter = letter_joined n (x ∷ s) k.letter;
      parts = ap (list_all is_part) same ∙ k.parts;
      short = or_right (is_head (n ++ x ∷ s)) (is_valid_short (short_of (n ++ x ∷ s))) (ap is_valid_short (short_of-joined n s x m h) ∙ short);
      size = size;
      depth = (let d = k.depth in let e = ap length same in omega arith);
    })

-- of valid pieces the length alone decides
pub joined_name : (n s : List ℕ) (x : ℕ) → is_mark x ≡ true → is_valid_name n ≡ true → is_head n ≡ true → is_valid_short s ≡ true → as_name (n ++ x ∷ s) ≡ within_name (n ++ x ∷ s)
joined_name n s x m v h short = elim (cases_Bool (nat_le (length t) 255)) [
  | inl fits ↦ ap (λ b. cond b (Some t) None) (joined_valid n s x m v h short (leb-true (length t) 255 fits)) ∙ sym (ap (λ b. cond b (Some t) None) fits)
  | inr long ↦ elim (cases_Bool (is_valid_name t)) [
    | inl valid ↦ absurd (both_ways _ long (le-leb (length t) 255 (valid_size t valid)))
    | inr bad ↦ ap (λ b. cond b (Some t) None) bad ∙ sym (ap (λ b. cond b (Some t) None) long)
  ]
]
  where
    t : List ℕ
    t = n ++ x ∷ s

-- a name is short enough
pub short_enough : (t : List ℕ) → is_valid_name t ≡ true → within_name t ≡ Some t
short_enough t valid = ap (λ b. cond b (Some t) None) (le-leb (length t) 255 (valid_size t valid))
