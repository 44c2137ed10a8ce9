-- A tree with fewer records.
use Rattle.std.proofs.Common.{◌≡◌, ℕ, ◌+◌, ◌≤◌, List, [], ◌∷◌, length, filter, Bool, true, false, cond, Option, Some, None, refl, sym, ap, ◌∙◌, arith, sum_by, inl, inr}
use Rattle.std.proofs.lemmas.Bool.{cases_eq, cases_Bool}
use Rattle.std.proofs.lemmas.List.Sums.{sum_by-cons}
use Rattle.zp_tree.specs.declared.item.Item.{Item}
use Rattle.zp_tree.specs.Tree.{Tree, at, id_of, has_id, Rises, without, removed}
use Rattle.zp_tree.specs.WellFormed.{Look, user_settings, AreRecords, Agrees, IsWellFormed}
use Rattle.zp_tree.proofs.Rising.{rises-weaken, rises-without}
use Rattle.zp_tree.proofs.Edits.{edit, edit-here, edit-other, at-here, at-past, low-none, look-without, length-without}

-- ---- some records are left out

rises-filtered : (p : Item → Bool) (low n : ℕ) (rs : List Item) → Rises low rs n → Rises low (filter p rs) n
rises-filtered p low n [] h = h
rises-filtered p low n (r ∷ rs) h = elim (p r) as (λ b. Rises low (cond b (r ∷ filter p rs) (filter p rs)) n)
    [ true ↦ (h.0, rises-filtered p (id_of r + 1) n rs h.1) | false ↦ rises-weaken low (id_of r + 1) n (filter p rs) (let le : low ≤ id_of r = h.0 in omega arith) (rises-filtered p (id_of r + 1) n rs h.1) ]

length-filtered : (p : Item → Bool) (rs : List Item) → length (filter p rs) ≤ length rs
length-filtered p [] = omega arith
length-filtered p (r ∷ rs) = let le : length (filter p rs) ≤ length rs = length-filtered p rs in elim (p r) as (λ b. length (cond b (r ∷ filter p rs) (filter p rs)) ≤ length (r ∷ rs)) [ true ↦ omega arith | false ↦ omega arith ]

sum-filtered : (f : Item → ℕ) (p : Item → Bool) (rs : List Item) → sum_by f (filter p rs) ≤ sum_by f rs
sum-filtered f p [] = omega arith
sum-filtered f p (r ∷ rs) =
    let le : sum_by f (filter p rs) ≤ sum_by f rs = sum-filtered f p rs in
    let all : sum_by f (r ∷ rs) ≡ f r + sum_by f rs = sum_by-cons f r rs in
    let kept : sum_by f (r ∷ filter p rs) ≡ f r + sum_by f (filter p rs) = sum_by-cons f r (filter p rs) in
    elim (p r) as (λ b. sum_by f (cond b (r ∷ filter p rs) (filter p rs)) ≤ sum_by f (r ∷ rs)) [ true ↦ omega arith | false ↦ omega arith ]

sum-without : (f : Item → ℕ) (j : ℕ) (rs : List Item) → sum_by f (without j rs) ≤ sum_by f rs
sum-without f j [] = omega arith
sum-without f j (r ∷ rs) =
    let le : sum_by f (without j rs) ≤ sum_by f rs = sum-without f j rs in
    let all : sum_by f (r ∷ rs) ≡ f r + sum_by f rs = sum_by-cons f r rs in
    let kept : sum_by f (r ∷ without j rs) ≡ f r + sum_by f (without j rs) = sum_by-cons f r (without j rs) in
    elim (has_id j r) as (λ b. sum_by f (cond b rs (r ∷ without j rs)) ≤ sum_by f (r ∷ rs)) [ true ↦ omega arith | false ↦ omega arith ]

-- the record, where it passes
abbrev pub passing : (Item → Bool) → Option Item → Option Item
passing p None = None
passing p (Some r) = cond (p r) (Some r) None

pub at-filtered : (p : Item → Bool) (low n : ℕ) (rs : List Item) (i : ℕ) → Rises low rs n → at (filter p rs) i ≡ passing p (at rs i)
at-filtered p low n [] i h = refl
at-filtered p low n (r ∷ rs) i h =
    let rest : at (filter p rs) i ≡ passing p (at rs i) = at-filtered p (id_of r + 1) n rs i h.1 in
    elim (cases_Bool (p r)) [
      | inl stays ↦ ap (λ b. at (cond b (r ∷ filter p rs) (filter p rs)) i) stays ∙ elim (cases_eq (id_of r) i) [
        | inl same ↦ at-here r (filter p rs) i same ∙ sym (ap (passing p) (at-here r rs i same) ∙ ap (λ b. cond b (Some r) None) stays)
        | inr other ↦ at-past r (filter p rs) i other ∙ rest ∙ sym (ap (passing p) (at-past r rs i other))
      ]
      | inr goes ↦ ap (λ b. at (cond b (r ∷ filter p rs) (filter p rs)) i) goes ∙ rest ∙ elim (cases_eq (id_of r) i) [
        | inl same ↦ ap (passing p) (low-none (id_of r + 1) n i rs h.1 (omega arith)) ∙ sym (ap (passing p) (at-here r rs i same) ∙ ap (λ b. cond b (Some r) None) goes)
        | inr other ↦ sym (ap (passing p) (at-past r rs i other))
      ]
    ]

-- ---- fewer records

pub record Fewer (t u : Tree) : Type 0 where
  pub rises : Rises 0 u.records u.next
  pub less : (i : ℕ) (r : Item) → at u.records i ≡ Some r → at t.records i ≡ Some r
  pub count : length u.records ≤ length t.records
  pub weight : sum_by user_settings u.records ≤ sum_by user_settings t.records

passed-by : (p : Item → Bool) (o : Option Item) (r : Item) → passing p o ≡ Some r → o ≡ Some r
passed-by p None r e = cc
passed-by p (Some u) r e = go (p u) e
  where
    go : (b : Bool) → cond b (Some u) None ≡ Some r → Some u ≡ Some r
    go true f = f
    go false f = cc

edited-by : (look : Look) (j i : ℕ) (r : Item) → edit look j None i ≡ Some r → look i ≡ Some r
edited-by look j i r e = elim (cases_eq i j) [
  | inl same ↦ (let gone : None ≡ Some r = sym (ap (edit look j None) same ∙ edit-here look j None) ∙ e in cc)
  | inr other ↦ sym (edit-other look j None i other) ∙ e
]

pub fewer-filtered : (p : Item → Bool) (t : Tree) → Rises 0 t.records t.next → Fewer t (record t { records = filter p t.records })
fewer-filtered p t h = record {
  rises = rises-filtered p 0 t.next t.records h;
  less = λ i r e. passed-by p (at t.records i) r (sym (at-filtered p 0 t.next t.records i h) ∙ e);
  count = length-filtered p t.records;
  weight = sum-filtered user_settings p t.records;
}

pub fewer-removed : (t : Tree) (j : ℕ) → Rises 0 t.records t.next → Fewer t (removed t j)
fewer-removed t j h = record {
  rises = rises-without 0 t.next j t.records h;
  less = λ i r e. edited-by (at t.records) j i r (sym (ap (λ (look : Look). look i) (look-without t.next t.records j h)) ∙ e);
  count = length-without j t.records;
  weight = sum-without user_settings j t.records;
}

pub fewer-yet : (t u v : Tree) → Fewer t u → Fewer u v → Fewer t v
fewer-yet t u v f g = record {
  rises = g.rises;
  less = λ i r e. f.less i r (g.less i r e);
  count = (let a = f.count in let b = g.count in omega arith);
  weight = (let a = f.weight in let b = g.weight in omega arith);
}

pub records_fewer : (t u : Tree) → AreRecords t → Fewer t u → AreRecords u
records_fewer t u w f = record { rises = f.rises; records = λ i r e. w.records i r (f.less i r e) }

-- what the records say of each other is all that is left to show
pub well-fewer : (t u : Tree) → IsWellFormed t → Fewer t u → Agrees (at u.records) → IsWellFormed u
well-fewer t u w f a = record {
  rises = f.rises;
  agrees = a;
  few_records = (let less = f.count in let few = w.few_records in omega arith);
  few_settings = (let less = f.weight in let few = w.few_settings in omega arith);
}
