-- Ids that rise along a list of records.
use Rattle.std.proofs.Common.{◌≡◌, ℕ, ◌+◌, ◌≤◌, List, [], ◌∷◌, ◌++◌, cond, true, false, Some, sym, ap, ◌∙◌, subst, arith, inl, inr}
use Rattle.std.proofs.lemmas.Bool.{eq-eqb, cases_eq, ne_eqb}
use Rattle.zp_tree.specs.declared.item.Item.{Item}
use Rattle.zp_tree.specs.Tree.{at, has_id, id_of, Rises, put, without}

-- the next id is above every id
pub rises-below : (low n : ℕ) (rs : List Item) → Rises low rs n → low ≤ n
rises-below low n [] h = h
rises-below low n (r ∷ rs) h = let le : id_of r + 1 ≤ n = rises-below (id_of r + 1) n rs h.1 in omega (arith, h.0)

-- a record with the next id goes last
pub rises-added : (low n : ℕ) (rs : List Item) (x : Item) → Rises low rs n → id_of x ≡ n → Rises low (rs ++ x ∷ []) (n + 1)
rises-added low n [] x h e = (omega arith, omega arith)
rises-added low n (r ∷ rs) x h e = (h.0, rises-added (id_of r + 1) n rs x h.1 e)

pub rises-weaken : (low high n : ℕ) (rs : List Item) → low ≤ high → Rises high rs n → Rises low rs n
rises-weaken low high n [] le h = omega arith
rises-weaken low high n (r ∷ rs) le h = (let more : high ≤ id_of r = h.0 in omega arith, h.1)

-- without one record the ids still rise
pub rises-without : (low n j : ℕ) (rs : List Item) → Rises low rs n → Rises low (without j rs) n
rises-without low n j [] h = h
rises-without low n j (r ∷ rs) h = elim (has_id j r) as (λ b. Rises low (cond b rs (r ∷ without j rs)) n)
    [ true ↦ rises-weaken low (id_of r + 1) n rs (let le : low ≤ id_of r = h.0 in omega arith) h.1 | false ↦ (h.0, rises-without (id_of r + 1) n j rs h.1) ]

-- a record in the place of the one with its id
pub rises-put : (low n : ℕ) (x : Item) (rs : List Item) → Rises low rs n → Rises low (put x rs) n
rises-put low n x [] h = h
rises-put low n x (r ∷ rs) h = elim (cases_eq (id_of r) (id_of x)) [
  | inl here ↦ subst (λ b. Rises low (cond b (x ∷ rs) (r ∷ put x rs)) n) (sym (eq-eqb (id_of r) (id_of x) here)) (subst (λ k. (low ≤ k) × Rises (k + 1) rs n) here h)
  | inr there ↦ subst (λ b. Rises low (cond b (x ∷ rs) (r ∷ put x rs)) n) (sym (ne_eqb (id_of r) (id_of x) there)) (h.0, rises-put (id_of r + 1) n x rs h.1)
]

-- an id is below the next one
pub id-below : (low n i : ℕ) (rs : List Item) (r : Item) → Rises low rs n → at rs i ≡ Some r → i + 1 ≤ n
id-below low n i [] r h e = cc
id-below low n i (x ∷ rs) r h e = elim (cases_eq (id_of x) i) [
  | inl here ↦ let le : id_of x + 1 ≤ n = rises-below (id_of x + 1) n rs h.1 in omega arith
  | inr there ↦ id-below (id_of x + 1) n i rs r h.1 (sym (ap (λ b. cond b (Some x) (at rs i)) (ne_eqb (id_of x) i there)) ∙ e)
]
