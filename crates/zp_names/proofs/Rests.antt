-- The rest of a text, byte by byte, against the parts that it is made of.
use Rattle.std.proofs.Common.{◌≡◌, ℕ, zero, suc, ◌+◌, Bool, true, false, not, cond, ◌&&◌, ◌||◌, List, [], ◌∷◌, take, drop, Some, None, sym, ap, ◌∙◌, refl, arith, nat_eq}
use Rattle.std.specs.Prelude.{is_none}
use Rattle.std.specs.Char.{is_ascii_alphabetic}
use Rattle.std.specs.List.{position_or_len, list_all, slice_split, onto_first}
use Rattle.std.specs.Str.{IsAscii}
use Rattle.std.proofs.lemmas.Bool.{and_parts, ne_eqb}
use Rattle.zp_names.specs.Names.{is_slash, is_mark, is_separator, is_name_byte, is_part, is_head, is_joined, parts_of, short_of, begins_with_letter, is_valid_short}
use Rattle.zp_names.specs.NameFaults.{fault_of}
use Rattle.zp_names.proofs.ByteKinds.{slash, mark, name, other, kind_of, no_letter, free_name, free_first, free_other, free_slash, free_mark, free_ascii}
use Rattle.zp_names.proofs.Marks.{head_of-other, short_of-other, is_head-cons}

-- whether a rest of a text has no fault, by what stands before it
abbrev pub clean : ℕ → Bool → Bool → List ℕ → Bool
clean at m s [] = is_none (fault_of at None m s)
clean at m s (b ∷ bs) = is_none (fault_of at (Some b) m s) && clean (at + 1) (m || is_mark b) (is_separator b) bs

-- a text that is a part, where one starts, or the rest of one
abbrev rest_of_part : Bool → List ℕ → Bool
rest_of_part s p = cond s (is_part p) (list_all is_name_byte p)

cond_same : (s x : Bool) → cond s x x ≡ x
cond_same true x = refl
cond_same false x = refl

later : (at : ℕ) → nat_eq (at + 1) 0 ≡ false
later at = ne_eqb (at + 1) 0 (λ e. omega arith)

-- behind the mark: the short name
clean_short : (at : ℕ) (s : Bool) (r : List ℕ) → nat_eq at 0 ≡ false → clean at true s r ≡ rest_of_part s r
clean_short at true [] z = refl
clean_short at false [] z = refl
clean_short at s (b ∷ bs) z = elim (kind_of b) [
  | slash sl mk n ↦ no_name (free_slash at b true s sl mk n) n
  | mark sl mk n ↦ no_name (free_mark at b true s sl mk n) n
  | other sl mk n ↦ no_name (free_other at b true s sl mk n) n
  | name sl mk n ↦ ap (λ x. x && clean (at + 1) true (is_separator b) bs) (free_name at b true s z sl mk n)
      ∙ ap (λ x. clean (at + 1) true x bs) (let e : is_separator b ≡ false = simp (sl, mk) in e)
      ∙ clean_short (at + 1) false bs (later at)
      ∙ sym (ap (λ x. cond s (x && list_all is_name_byte bs) (x && list_all is_name_byte bs)) n ∙ cond_same s (list_all is_name_byte bs))
]
  where
    no_name : is_none (fault_of at (Some b) true s) ≡ false → is_name_byte b ≡ false → clean at true s (b ∷ bs) ≡ rest_of_part s (b ∷ bs)
    no_name f n = ap (λ x. x && clean (at + 1) (true || is_mark b) (is_separator b) bs) f
        ∙ sym (ap (λ x. cond s (x && list_all is_name_byte bs) (x && list_all is_name_byte bs)) n ∙ cond_same s false)

-- the first part of a list of parts may go on a part, the others are whole
abbrev parts_go_on : Bool → List (List ℕ) → Bool
parts_go_on s [] = true
parts_go_on s (p ∷ ps) = rest_of_part s p && list_all is_part ps

-- parts and at most one mark with a short name, where s says whether the first part starts here
abbrev joined_from : Bool → List ℕ → Bool
joined_from s r = parts_go_on s (parts_of r) && (is_head r || is_part (short_of r))

go_on_whole : (ps : List (List ℕ)) → parts_go_on true ps ≡ list_all is_part ps
go_on_whole [] = refl
go_on_whole (p ∷ ps) = refl

-- a byte before the first part that goes on
go_on_byte : (s : Bool) (b : ℕ) (ps : List (List ℕ)) → parts_go_on s (onto_first b ps) ≡ (is_name_byte b && parts_go_on false ps)
go_on_byte s b [] = ap (λ x. x && true) (cond_same s (is_name_byte b && true)) ∙ and_true (is_name_byte b)
  where
    and_true : (x : Bool) → ((x && true) && true) ≡ (x && true)
    and_true true = refl
    and_true false = refl
go_on_byte s b (p ∷ ps) = ap (λ x. x && list_all is_part ps) (cond_same s (list_all is_name_byte (b ∷ p))) ∙ and_assoc (is_name_byte b) (list_all is_name_byte p) (list_all is_part ps)
  where
    and_assoc : (x y z : Bool) → ((x && y) && z) ≡ (x && (y && z))
    and_assoc true y z = refl
    and_assoc false y z = refl

joined_other : (s : Bool) (b : ℕ) (bs : List ℕ) (x : Bool) → is_slash b ≡ x → is_mark b ≡ false → joined_from s (b ∷ bs) ≡ (parts_go_on s (cond x ([] ∷ parts_of bs) (onto_first b (parts_of bs))) && (is_head bs || is_part (short_of bs)))
joined_other s b bs x sl mk =
    ap (λ h. parts_go_on s (slice_split is_slash h) && (is_head (b ∷ bs) || is_part (short_of (b ∷ bs)))) (head_of-other b bs mk)
    ∙ ap (λ y. parts_go_on s (cond y ([] ∷ parts_of bs) (onto_first b (parts_of bs))) && (is_head (b ∷ bs) || is_part (short_of (b ∷ bs)))) sl
    ∙ ap (λ y. parts_go_on s (cond x ([] ∷ parts_of bs) (onto_first b (parts_of bs))) && (y || is_part (short_of (b ∷ bs)))) (is_head-cons b bs false mk)
    ∙ ap (λ y. parts_go_on s (cond x ([] ∷ parts_of bs) (onto_first b (parts_of bs))) && (is_head bs || is_part y)) (short_of-other b bs mk)

joined_mark : (s : Bool) (b : ℕ) (bs : List ℕ) → is_mark b ≡ true → joined_from s (b ∷ bs) ≡ (not s && is_part bs)
joined_mark s b bs mk =
    ap (λ x. parts_go_on s (slice_split is_slash (take (cond (not x) (1 + position_or_len is_mark bs) 0) (b ∷ bs))) && (is_head (b ∷ bs) || is_part (short_of (b ∷ bs)))) mk
    ∙ ap (λ x. parts_go_on s ([] ∷ []) && (x || is_part (short_of (b ∷ bs)))) (is_head-cons b bs true mk)
    ∙ ap (λ x. parts_go_on s ([] ∷ []) && is_part (drop (cond (not x) (1 + position_or_len is_mark bs) 0 + 1) (b ∷ bs))) mk
    ∙ none s
  where
    none : (s : Bool) → (parts_go_on s ([] ∷ []) && is_part bs) ≡ (not s && is_part bs)
    none true = refl
    none false = refl

-- before the mark: parts, and then a short name
clean_joined : (at : ℕ) (s : Bool) (r : List ℕ) → nat_eq at 0 ≡ false → clean at false s r ≡ joined_from s r
clean_joined at true [] z = refl
clean_joined at false [] z = refl
clean_joined at s (b ∷ bs) z = elim (kind_of b) [
  | slash sl mk n ↦ step (not s) false true (free_slash at b false s sl mk n) mk (simp (sl, mk)) ∙ ap (λ x. not s && x) (clean_joined (at + 1) true bs (later at)) ∙ whole s ∙ sym (joined_other s b bs true sl mk)
  | mark sl mk n ↦ step (not s) true true (free_mark at b false s sl mk n) mk (simp (sl, mk)) ∙ ap (λ x. not s && x) (clean_short (at + 1) true bs (later at)) ∙ sym (joined_mark s b bs mk)
  | other sl mk n ↦ step false false false (free_other at b false s sl mk n) mk (simp (sl, mk)) ∙ sym (joined_other s b bs false sl mk ∙ first_byte false n)
  | name sl mk n ↦ step true false false (free_name at b false s z sl mk n) mk (simp (sl, mk)) ∙ clean_joined (at + 1) false bs (later at) ∙ sym (joined_other s b bs false sl mk ∙ first_byte true n)
]
  where
    step : (f m u : Bool) → is_none (fault_of at (Some b) false s) ≡ f → is_mark b ≡ m → is_separator b ≡ u → clean at false s (b ∷ bs) ≡ (f && clean (at + 1) m u bs)
    step f m u ef em eu = ap (λ x. x && clean (at + 1) (is_mark b) (is_separator b) bs) ef ∙ ap (λ x. f && clean (at + 1) x (is_separator b) bs) em ∙ ap (λ x. f && clean (at + 1) m x bs) eu

    first_byte : (x : Bool) → is_name_byte b ≡ x → (parts_go_on s (onto_first b (parts_of bs)) && (is_head bs || is_part (short_of bs))) ≡ (x && joined_from false bs)
    first_byte true n = ap (λ y. y && (is_head bs || is_part (short_of bs))) (go_on_byte s b (parts_of bs) ∙ ap (λ y. y && parts_go_on false (parts_of bs)) n)
    first_byte false n = ap (λ y. y && (is_head bs || is_part (short_of bs))) (go_on_byte s b (parts_of bs) ∙ ap (λ y. y && parts_go_on false (parts_of bs)) n)

    whole : (s : Bool) → (not s && joined_from true bs) ≡ (parts_go_on s ([] ∷ parts_of bs) && (is_head bs || is_part (short_of bs)))
    whole true = refl
    whole false = ap (λ y. y && (is_head bs || is_part (short_of bs))) (go_on_whole (parts_of bs))

-- the whole text: its first byte is a letter, too
pub clean_whole : (t : List ℕ) → clean 0 false true t ≡ (begins_with_letter t && is_joined t)
unfolding is_valid_short
clean_whole [] = refl
clean_whole (b ∷ bs) = elim (kind_of b) [
  | slash sl mk n ↦ no_name (free_slash 0 b false true sl mk n) n
  | mark sl mk n ↦ no_name (free_mark 0 b false true sl mk n) n
  | other sl mk n ↦ no_name (free_other 0 b false true sl mk n) n
  | name sl mk n ↦
      ap (λ x. x && clean 1 (is_mark b) (is_separator b) bs) (free_first b true sl mk n)
      ∙ ap (λ x. is_ascii_alphabetic b && x) (
      ap (λ x. clean 1 x (is_separator b) bs) mk
      ∙ clean_joined 1 (is_separator b) bs refl
      ∙ sym (clean_joined 2 (is_separator b) bs refl)
      ∙ sym (ap (λ x. clean 2 x (is_separator b) bs) mk)
      ∙ sym (ap (λ x. x && clean 2 (is_mark b) (is_separator b) bs) (free_name 1 b false true refl sl mk n))
      ∙ clean_joined 1 true (b ∷ bs) refl
      ∙ ap (λ x. x && (is_head (b ∷ bs) || is_part (short_of (b ∷ bs)))) (go_on_whole (parts_of (b ∷ bs))))
]
  where
    no_name : is_none (fault_of 0 (Some b) false true) ≡ false → is_name_byte b ≡ false → clean 0 false true (b ∷ bs) ≡ (is_ascii_alphabetic b && is_joined (b ∷ bs))
    no_name f n = ap (λ x. x && clean 1 (is_mark b) (is_separator b) bs) f ∙ sym (ap (λ x. x && is_joined (b ∷ bs)) (no_letter b n))

-- what has no fault is ASCII
pub clean_ascii : (at : ℕ) (m s : Bool) (r : List ℕ) → clean at m s r ≡ true → IsAscii r
clean_ascii at m s [] e i = omega arith
clean_ascii at m s (b ∷ bs) e zero = free_ascii at b m s (and_parts _ _ e).0
clean_ascii at m s (b ∷ bs) e (suc i) = clean_ascii (at + 1) (m || is_mark b) (is_separator b) bs (and_parts _ _ e).1 i
