-- Looking up ids in a list whose ids rise.
use Rattle.std.proofs.Common.{◌≡◌, ℕ, ◌+◌, ◌≤◌, List, [], ◌∷◌, Bool, true, cond, Option, Some, None, refl, sym, ap, ◌∙◌, arith, find, inl, inr, option_map, is_some, Bor, IfSome}
use Rattle.std.proofs.lemmas.Bool.{eqb-true, eq-eqb, cases_eq, ne_eqb, cases_Bool}
use Rattle.zp_tree.specs.declared.item.Item.{Item}
use Rattle.zp_tree.specs.Tree.{at, has_id, id_of, Rises, is_called, named, Finds}

-- what is found passes
pub find-passes : {X : Type 0} (p : X → Bool) (xs : List X) (x : X) → find p xs ≡ Some x → p x ≡ true
find-passes p [] x e = cc
find-passes p (y ∷ ys) x e =
    elim (cases_Bool (p y)) [
      | inl hit ↦ let same : y ≡ x = some-same (sym (ap (λ b. cond b (Some y) (find p ys)) hit) ∙ e) in ap p (sym same) ∙ hit
      | inr miss ↦ find-passes p ys x (sym (ap (λ b. cond b (Some y) (find p ys)) miss) ∙ e)
    ]
  where
    some-same : {A : Type 0} {a b : A} → Some a ≡ Some b → a ≡ b
    some-same h = cc

-- an id is at least the first one
pub at-low : (low n i : ℕ) (rs : List Item) (r : Item) → Rises low rs n → at rs i ≡ Some r → low ≤ i
at-low low n i [] r h e = cc
at-low low n i (x ∷ rs) r h e =
    elim (cases_eq (id_of x) i) [
      | inl same ↦ omega (arith, h.0)
      | inr other ↦ let le : id_of x + 1 ≤ i = at-low (id_of x + 1) n i rs r h.1 (sym (ap (λ b. cond b (Some x) (at rs i)) (ne_eqb (id_of x) i other)) ∙ e) in omega (arith, h.0)
    ]

-- a record behind another stands at its id, with that one in front too
pub at-later : (x : Item) (n : ℕ) (rs : List Item) (i : ℕ) (r : Item) → Rises (id_of x + 1) rs n → at rs i ≡ Some r → at (x ∷ rs) i ≡ Some r
at-later x n rs i r h e =
    let le : id_of x + 1 ≤ i = at-low (id_of x + 1) n i rs r h e in
    let other : id_of x ≡ i → ⊥ = λ same. omega arith in
    ap (λ b. cond b (Some x) (at rs i)) (ne_eqb (id_of x) i other) ∙ e

-- what a search finds stands at its id
pub found-at : (p : Item → Bool) (low n : ℕ) (rs : List Item) (r : Item) → Rises low rs n → find p rs ≡ Some r → at rs (id_of r) ≡ Some r
found-at p low n [] r h e = cc
found-at p low n (x ∷ rs) r h e =
    elim (cases_Bool (p x)) [
      | inl hit ↦ let same : Some x ≡ Some r = sym (ap (λ b. cond b (Some x) (find p rs)) hit) ∙ e in
          let is : x ≡ r = cc in ap (λ b. cond b (Some x) (at rs (id_of r))) (eq-eqb (id_of x) (id_of r) (ap id_of is)) ∙ same
      | inr miss ↦
          let there : at rs (id_of r) ≡ Some r = found-at p (id_of x + 1) n rs r h.1 (sym (ap (λ b. cond b (Some x) (find p rs)) miss) ∙ e) in
          let le : id_of x + 1 ≤ id_of r = at-low (id_of x + 1) n (id_of r) rs r h.1 there in
          let other : id_of x ≡ id_of r → ⊥ = λ same. omega arith in
          ap (λ b. cond b (Some x) (at rs (id_of r))) (ne_eqb (id_of x) (id_of r) other) ∙ there
    ]

-- the record at the id of what a search finds
pub at-found : (p : Item → Bool) (low n : ℕ) (rs : List Item) (i : ℕ) → Rises low rs n → option_map id_of (find p rs) ≡ Some i → at rs i ≡ find p rs
at-found p low n rs i h e = go (find p rs) refl e
  where
    go : (o : Option Item) → find p rs ≡ o → option_map id_of o ≡ Some i → at rs i ≡ find p rs
    go None is f = cc
    go (Some r) is f = let same : id_of r ≡ i = cc in ap (at rs) (sym same) ∙ found-at p low n rs r h is ∙ sym is

pub at-id : (i : ℕ) (rs : List Item) (r : Item) → at rs i ≡ Some r → id_of r ≡ i
at-id i rs r e = eqb-true (id_of r) i (find-passes (has_id i) rs r e)

-- what is lent at an id stands at its own id
pub lent-there : (i : ℕ) (rs : List Item) (o : Option (Bor Item)) → option_map (λ r. r.now) o ≡ at rs i → IfSome o (λ r. at rs (id_of r.now) ≡ Some r.now)
lent-there i rs None e = tt
lent-there i rs (Some r) e = ap (at rs) (at-id i rs r.now (sym e)) ∙ sym e

-- the first record of a name is one that has it
pub finds-first : (rs : List Item) (name : List ℕ) (n : ℕ) (o : Option Item) → Rises 0 rs n → o ≡ named rs name → Finds rs name (option_map id_of o)
finds-first rs name n None h e = sym e
finds-first rs name n (Some r) h e = (r, found-at (is_called rs name) 0 n rs r h (sym e), find-passes (is_called rs name) rs r (sym e))

-- where an element passes, some element is found
pub find-some : {X : Type 0} (p q : X → Bool) (xs : List X) (x : X) → find q xs ≡ Some x → p x ≡ true → is_some (find p xs) ≡ true
find-some p q [] x e h = cc
find-some p q (y ∷ ys) x e h =
    elim (cases_Bool (p y)) [
      | inl hit ↦ ap (λ b. is_some (cond b (Some y) (find p ys))) hit
      | inr miss ↦ ap (λ b. is_some (cond b (Some y) (find p ys))) miss ∙ elim (cases_Bool (q y)) [
        | inl at_y ↦ let same : Some y ≡ Some x = sym (ap (λ b. cond b (Some y) (find q ys)) at_y) ∙ e in let is : y ≡ x = cc in let here : p y ≡ true = ap p is ∙ h in cc
        | inr later ↦ find-some p q ys x (sym (ap (λ b. cond b (Some y) (find q ys)) later) ∙ e) h
      ]
    ]

-- a look-up by name finds something exactly where some record has the name
pub finds-some : (rs : List Item) (name : List ℕ) (o : Option ℕ) → Finds rs name o → is_some o ≡ is_some (named rs name)
finds-some rs name None f = sym (ap is_some f)
finds-some rs name (Some i) f = sym (find-some (is_called rs name) (has_id i) rs f.0 f.1 f.2)
