-- What is at each id after one edit.
use Rattle.std.proofs.Common.{◌≡◌, ℕ, ◌+◌, ◌<◌, ◌≤◌, List, [], ◌∷◌, ◌++◌, length, nat_eq, true, false, cond, Option, Some, None, IsSome, refl, sym, ap, subst, ◌∙◌, arith, inl, inr, ◌⊎◌, option_and_then}
use Rattle.std.proofs.lemmas.Bool.{eq-eqb, cases_eq, ne_eqb}
use mathlib.Core.Path.{fun_ext}
use Rattle.zp_tree.specs.declared.item.Item.{Item}
use Rattle.zp_tree.specs.Tree.{at, has_id, id_of, Rises, put, without}
use Rattle.zp_tree.specs.WellFormed.{Look}
use Rattle.zp_tree.proofs.Rising.{rises-below}

-- o at n, and the rest as before
abbrev pub edit : Look → ℕ → Option Item → Look
edit look n o i = cond (nat_eq i n) o (look i)

pub edit-here : (look : Look) (n : ℕ) (o : Option Item) → edit look n o n ≡ o
edit-here look n o = ap (λ b. cond b o (look n)) (eq-eqb n n refl)

pub edit-other : (look : Look) (n : ℕ) (o : Option Item) (i : ℕ) → (i ≡ n → ⊥) → edit look n o i ≡ look i
edit-other look n o i h = ap (λ b. cond b o (look i)) (ne_eqb i n h)

-- where a thing of some kind comes from after an edit
pub edit-cases : {A : Type 0} (part : Item → Option A) (look : Look) (n : ℕ) (o : Option Item) (i : ℕ) (a : A) → option_and_then part (edit look n o i) ≡ Some a →
    ((i ≡ n) × (option_and_then part o ≡ Some a)) ⊎ ((i ≡ n → ⊥) × (option_and_then part (look i) ≡ Some a))
edit-cases part look n o i a e = elim (cases_eq i n) [
  | inl same ↦ inl (same, sym (ap (λ b. option_and_then part (cond b o (look i))) (eq-eqb i n same)) ∙ e)
  | inr other ↦ inr (other, sym (ap (option_and_then part) (edit-other look n o i other)) ∙ e)
]

pub edit-keeps : {A : Type 0} (part : Item → Option A) (look : Look) (n : ℕ) (o : Option Item) (i : ℕ) (a : A) → (i ≡ n → ⊥) → option_and_then part (look i) ≡ Some a → option_and_then part (edit look n o i) ≡ Some a
edit-keeps part look n o i a h e = ap (option_and_then part) (edit-other look n o i h) ∙ e

pub at-new : (low n : ℕ) (rs : List Item) → Rises low rs n → at rs n ≡ None
at-new low n [] h = refl
at-new low n (r ∷ rs) h =
    let le : id_of r + 1 ≤ n = rises-below (id_of r + 1) n rs h.1 in
    let other : id_of r ≡ n → ⊥ = λ same. omega arith in
    ap (λ b. cond b (Some r) (at rs n)) (ne_eqb (id_of r) n other) ∙ at-new (id_of r + 1) n rs h.1

at-added : (low n : ℕ) (rs : List Item) (x : Item) (i : ℕ) → Rises low rs n → id_of x ≡ n → at (rs ++ x ∷ []) i ≡ edit (at rs) n (Some x) i
at-added low n [] x i h e = elim (cases_eq i n) [
  | inl same ↦ ap (λ b. cond b (Some x) None) (eq-eqb (id_of x) i (e ∙ sym same)) ∙ ap (λ b. cond b (Some x) None) (sym (eq-eqb i n same))
  | inr other ↦ ap (λ b. cond b (Some x) None) (ne_eqb (id_of x) i (λ f. other (sym f ∙ e))) ∙ ap (λ b. cond b (Some x) None) (sym (ne_eqb i n other))
]
at-added low n (r ∷ rs) x i h e =
    let le : id_of r + 1 ≤ n = rises-below (id_of r + 1) n rs h.1 in
    let rest : at (rs ++ x ∷ []) i ≡ edit (at rs) n (Some x) i = at-added (id_of r + 1) n rs x i h.1 e in
    elim (cases_eq (id_of r) i) [
      | inl same ↦ let apart : i ≡ n → ⊥ = λ f. omega arith in
          ap (λ b. cond b (Some r) (at (rs ++ x ∷ []) i)) (eq-eqb (id_of r) i same) ∙ sym (edit-other (at (r ∷ rs)) n (Some x) i apart ∙ ap (λ b. cond b (Some r) (at rs i)) (eq-eqb (id_of r) i same))
      | inr other ↦
          ap (λ b. cond b (Some r) (at (rs ++ x ∷ []) i)) (ne_eqb (id_of r) i other) ∙ rest ∙ ap (λ o. cond (nat_eq i n) (Some x) o) (sym (ap (λ b. cond b (Some r) (at rs i)) (ne_eqb (id_of r) i other)))
    ]

pub look-added : (n : ℕ) (rs : List Item) (x : Item) → Rises 0 rs n → id_of x ≡ n → at (rs ++ x ∷ []) ≡ edit (at rs) n (Some x)
look-added n rs x h e = fun_ext (λ i. at-added 0 n rs x i h e)

-- ---- put and without

pub low-none : (low n i : ℕ) (rs : List Item) → Rises low rs n → i < low → at rs i ≡ None
low-none low n i [] h lt = refl
low-none low n i (x ∷ rs) h lt =
    let le : low ≤ id_of x = h.0 in
    let other : id_of x ≡ i → ⊥ = λ same. omega arith in
    ap (λ b. cond b (Some x) (at rs i)) (ne_eqb (id_of x) i other) ∙ low-none (id_of x + 1) n i rs h.1 (omega arith)

pub at-here : (x : Item) (rs : List Item) (i : ℕ) → id_of x ≡ i → at (x ∷ rs) i ≡ Some x
at-here x rs i e = ap (λ b. cond b (Some x) (at rs i)) (eq-eqb (id_of x) i e)

pub at-past : (x : Item) (rs : List Item) (i : ℕ) → (id_of x ≡ i → ⊥) → at (x ∷ rs) i ≡ at rs i
at-past x rs i e = ap (λ b. cond b (Some x) (at rs i)) (ne_eqb (id_of x) i e)

at-without : (low n : ℕ) (rs : List Item) (j i : ℕ) → Rises low rs n → at (without j rs) i ≡ edit (at rs) j None i
at-without low n [] j i h = grind arith
at-without low n (r ∷ rs) j i h = elim (cases_eq (id_of r) j) [
  | inl here ↦ ap (λ b. at (cond b rs (r ∷ without j rs)) i) (eq-eqb (id_of r) j here) ∙ elim (cases_eq i j) [
    | inl same ↦ low-none (id_of r + 1) n i rs h.1 (omega arith) ∙ sym (ap (λ b. cond b None (at (r ∷ rs) i)) (eq-eqb i j same))
    | inr other ↦ sym (edit-other (at (r ∷ rs)) j None i other ∙ at-past r rs i (λ f. other (sym f ∙ here)))
  ]
  | inr there ↦ ap (λ b. at (cond b rs (r ∷ without j rs)) i) (ne_eqb (id_of r) j there) ∙ elim (cases_eq (id_of r) i) [
    | inl same ↦ at-here r (without j rs) i same ∙ sym (edit-other (at (r ∷ rs)) j None i (λ f. there (same ∙ f)) ∙ at-here r rs i same)
    | inr other ↦ at-past r (without j rs) i other ∙ at-without (id_of r + 1) n rs j i h.1 ∙ ap (λ o. cond (nat_eq i j) None o) (sym (at-past r rs i other))
  ]
]

at-put : (x : Item) (rs : List Item) (i : ℕ) → IsSome (at rs (id_of x)) → at (put x rs) i ≡ edit (at rs) (id_of x) (Some x) i
at-put x [] i some = cc
at-put x (r ∷ rs) i some = elim (cases_eq (id_of r) (id_of x)) [
  | inl here ↦ ap (λ b. at (cond b (x ∷ rs) (r ∷ put x rs)) i) (eq-eqb (id_of r) (id_of x) here) ∙ elim (cases_eq i (id_of x)) [
    | inl same ↦ at-here x rs i (sym same) ∙ sym (ap (λ b. cond b (Some x) (at (r ∷ rs) i)) (eq-eqb i (id_of x) same))
    | inr other ↦ at-past x rs i (λ f. other (sym f)) ∙ sym (edit-other (at (r ∷ rs)) (id_of x) (Some x) i other ∙ at-past r rs i (λ f. other (sym f ∙ here)))
  ]
  | inr there ↦ ap (λ b. at (cond b (x ∷ rs) (r ∷ put x rs)) i) (ne_eqb (id_of r) (id_of x) there) ∙ elim (cases_eq (id_of r) i) [
    | inl same ↦ at-here r (put x rs) i same ∙ sym (edit-other (at (r ∷ rs)) (id_of x) (Some x) i (λ f. there (same ∙ f)) ∙ at-here r rs i same)
    | inr other ↦ at-past r (put x rs) i other ∙ at-put x rs i (subst (λ o. IsSome o) (at-past r rs (id_of x) there) some) ∙ ap (λ o. cond (nat_eq i (id_of x)) (Some x) o) (sym (at-past r rs i other))
  ]
]

pub look-without : (n : ℕ) (rs : List Item) (j : ℕ) → Rises 0 rs n → at (without j rs) ≡ edit (at rs) j None
look-without n rs j h = fun_ext (λ i. at-without 0 n rs j i h)

pub look-put : (x : Item) (rs : List Item) → IsSome (at rs (id_of x)) → at (put x rs) ≡ edit (at rs) (id_of x) (Some x)
look-put x rs some = fun_ext (λ i. at-put x rs i some)

pub length-without : (j : ℕ) (rs : List Item) → length (without j rs) ≤ length rs
length-without j [] = omega arith
length-without j (r ∷ rs) = elim (has_id j r) as (λ b. length (cond b rs (r ∷ without j rs)) ≤ length (r ∷ rs))
    [ true ↦ omega arith | false ↦ (let le : length (without j rs) ≤ length rs = length-without j rs in omega arith) ]

pub length-put : (x : Item) (rs : List Item) → length (put x rs) ≡ length rs
length-put x [] = refl
length-put x (r ∷ rs) = elim (has_id (id_of x) r) as (λ b. length (cond b (x ∷ rs) (r ∷ put x rs)) ≡ length (r ∷ rs))
    [ true ↦ refl | false ↦ (let le : length (put x rs) ≡ length rs = length-put x rs in omega arith) ]
