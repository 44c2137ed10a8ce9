-- What a byte of a text can be, and where it is no fault.
use Rattle.std.proofs.Common.{◌≡◌, ℕ, ◌<◌, Bool, true, false, not, ◌&&◌, Some, sym, refl, subst, arith, inl, inr, nat_eq}
use Rattle.std.specs.Prelude.{is_none}
use Rattle.std.specs.Char.{is_ascii_alphabetic}
use Rattle.std.proofs.lemmas.Bool.{cases_Bool, or_cases, eqb-true, both_ways}
use Rattle.std.proofs.lemmas.Bool.Decides.{nat_tests}
use Rattle.zp_names.specs.Names.{is_slash, is_mark, is_name_byte}
use Rattle.zp_names.specs.NameFaults.{fault_of}

-- what a byte can be
pub data Kind (b : ℕ) : Type 0 where
  slash : is_slash b ≡ true → is_mark b ≡ false → is_name_byte b ≡ false → Kind b
  mark : is_slash b ≡ false → is_mark b ≡ true → is_name_byte b ≡ false → Kind b
  name : is_slash b ≡ false → is_mark b ≡ false → is_name_byte b ≡ true → Kind b
  other : is_slash b ≡ false → is_mark b ≡ false → is_name_byte b ≡ false → Kind b

pub kind_of : (b : ℕ) → Kind b
kind_of b = elim (cases_Bool (is_slash b)) [
  | inl s ↦ (let at : 47 ≡ b = sym (eqb-true b 47 s) in slash s (subst (λ x. is_mark x ≡ false) at refl) (subst (λ x. is_name_byte x ≡ false) at refl))
  | inr s ↦ elim (cases_Bool (is_mark b)) [
    | inl m ↦ mark s m (elim (or_cases (nat_eq b 64) (nat_eq b 35) m) [
      | inl e ↦ subst (λ x. is_name_byte x ≡ false) (sym (eqb-true b 64 e)) refl
      | inr e ↦ subst (λ x. is_name_byte x ≡ false) (sym (eqb-true b 35 e)) refl
    ])
    | inr m ↦ elim (cases_Bool (is_name_byte b)) [ inl n ↦ name s m n | inr n ↦ other s m n ]
  ]
]

-- the bytes of names are ASCII
pub name_ascii : (b : ℕ) → is_name_byte b ≡ true → b < 128
name_ascii b e = grind (arith, nat_tests)

-- a letter is a byte of names
pub no_letter : (b : ℕ) → is_name_byte b ≡ false → is_ascii_alphabetic b ≡ false
no_letter b e = grind (arith, nat_tests)

pub mark_no_letter : (b : ℕ) → is_mark b ≡ true → is_ascii_alphabetic b ≡ false
mark_no_letter b m = elim (or_cases (nat_eq b 64) (nat_eq b 35) m) [
  | inl e ↦ subst (λ x. is_ascii_alphabetic x ≡ false) (sym (eqb-true b 64 e)) refl
  | inr e ↦ subst (λ x. is_ascii_alphabetic x ≡ false) (sym (eqb-true b 35 e)) refl
]

-- a place with no byte to doubt
and_false : (a b : Bool) → ((a && false) && b) ≡ false
and_false true b = refl
and_false false b = refl

pub free_name : (at b : ℕ) (m s : Bool) → nat_eq at 0 ≡ false → is_slash b ≡ false → is_mark b ≡ false → is_name_byte b ≡ true → is_none (fault_of at (Some b) m s) ≡ true
free_name at b m s z sl mk n = simp (z, sl, mk, n)

pub free_first : (b : ℕ) (s : Bool) → is_slash b ≡ false → is_mark b ≡ false → is_name_byte b ≡ true → is_none (fault_of 0 (Some b) false s) ≡ is_ascii_alphabetic b
free_first b s sl mk n = elim (cases_Bool (is_ascii_alphabetic b)) [ inl a ↦ simp (sl, mk, n, a) | inr a ↦ simp (sl, mk, n, a) ]

pub free_other : (at b : ℕ) (m s : Bool) → is_slash b ≡ false → is_mark b ≡ false → is_name_byte b ≡ false → is_none (fault_of at (Some b) m s) ≡ false
free_other at b m s sl mk n = simp (sl, mk, n)

pub free_slash : (at b : ℕ) (m s : Bool) → is_slash b ≡ true → is_mark b ≡ false → is_name_byte b ≡ false → is_none (fault_of at (Some b) m s) ≡ (not m && not s)
free_slash at b true s sl mk n = simp (sl, mk, n)
free_slash at b false true sl mk n = simp (sl, mk, n, and_false)
free_slash at b false false sl mk n = simp (sl, mk, n, and_false)

pub free_mark : (at b : ℕ) (m s : Bool) → is_slash b ≡ false → is_mark b ≡ true → is_name_byte b ≡ false → is_none (fault_of at (Some b) m s) ≡ (not m && not s)
free_mark at b true s sl mk n = simp (sl, mk, n, and_false)
free_mark at b false true sl mk n = simp (sl, mk, n, and_false)
free_mark at b false false sl mk n = simp (sl, mk, n, and_false)

-- a byte without a fault is ASCII
pub free_ascii : (at b : ℕ) (m s : Bool) → is_none (fault_of at (Some b) m s) ≡ true → b < 128
free_ascii at b m s e = elim (kind_of b) [
  | slash sl mk n ↦ (let is : b ≡ 47 = eqb-true b 47 sl in omega arith)
  | mark sl mk n ↦ elim (or_cases (nat_eq b 64) (nat_eq b 35) mk) [ inl k ↦ (let is : b ≡ 64 = eqb-true b 64 k in omega arith) | inr k ↦ (let is : b ≡ 35 = eqb-true b 35 k in omega arith) ]
  | name sl mk n ↦ name_ascii b n
  | other sl mk n ↦ absurd (both_ways _ (free_other at b m s sl mk n) e)
]
