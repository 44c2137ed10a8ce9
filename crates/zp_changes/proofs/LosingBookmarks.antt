-- A head's bookmarks go one after the other.
use Rattle.std.proofs.Common.{◌≡◌, ℕ, ◌<◌, List, [], ◌∷◌, length, filter, Bool, true, false, not, cond, Option, Some, None, IsSome, is_some, refl, sym, ap, subst, ◌∙◌, arith, inl, inr, suc, option_map, option_and_then}
use Rattle.std.specs.Prelude.{slice_get}
use Rattle.std.proofs.lemmas.Bool.{cases_Bool}
use Rattle.zp_tree.specs.declared.item.Item.{Item}
use Rattle.zp_tree.specs.declared.item.Item.TheVariants as item
use Rattle.zp_tree.specs.declared.item.Head.{Head}
use Rattle.zp_tree.specs.Tree.{Tree, at, has_id, as_head, head_name, Rises, without, removed}
use Rattle.zp_tree.specs.NextByName.{is_bookmark_above, NoneComes, HasFirst}
use Rattle.zp_tree.specs.Dependents.{is_bookmark_of, without_bookmarks}
use Rattle.zp_tree.specs.WellFormed.{Look}
use Rattle.zp_tree.proofs.Depending.{at-place, no-bookmark, a-bookmark}
use Rattle.zp_tree.proofs.Edits.{edit-other, look-without}
use Rattle.zp_tree.proofs.Rising.{rises-without}

-- one that doesn't pass makes no difference
filter-without : (p : Item → Bool) (j : ℕ) (rs : List Item) (r : Item) → at rs j ≡ Some r → p r ≡ false → filter p (without j rs) ≡ filter p rs
filter-without p j [] r e out = cc
filter-without p j (x ∷ rs) r e out = elim (cases_Bool (has_id j x)) [
  | inl here ↦
      let is : Some x ≡ Some r = sym (ap (λ b. cond b (Some x) (at rs j)) here) ∙ e in
      let it : x ≡ r = cc in
      ap (λ b. filter p (cond b rs (x ∷ without j rs))) here ∙ sym (ap (λ b. cond b (x ∷ filter p rs) (filter p rs)) (ap p it ∙ out))
  | inr there ↦ ap (λ b. filter p (cond b rs (x ∷ without j rs))) there ∙ ap (λ ys. cond (p x) (x ∷ ys) ys) (filter-without p j rs r (sym (ap (λ b. cond b (Some x) (at rs j)) there) ∙ e) out)
]

filter-all : (p : Item → Bool) (rs : List Item) → ((k : ℕ) (r : Item) → slice_get rs k ≡ Some r → p r ≡ true) → filter p rs ≡ rs
filter-all p [] h = refl
filter-all p (r ∷ rs) h = ap (λ b. cond b (r ∷ filter p rs) (filter p rs)) (h 0 r refl) ∙ ap (λ ys. r ∷ ys) (filter-all p rs (λ k u e. h (suc k) u e))

shorter : (j : ℕ) (rs : List Item) → IsSome (at rs j) → length (without j rs) < length rs
shorter j [] h = cc
shorter j (r ∷ rs) h = elim (cases_Bool (has_id j r)) [
  | inl here ↦ subst (λ b. length (cond b rs (r ∷ without j rs)) < length (r ∷ rs)) (sym here) (omega arith)
  | inr there ↦ subst (λ b. length (cond b rs (r ∷ without j rs)) < length (r ∷ rs)) (sym there) (let less : length (without j rs) < length rs = shorter j rs (subst (λ b. IsSome (cond b (Some r) (at rs j))) there h) in omega arith)
]

-- what is left while they go
pub record Rest (t u : Tree) (owner : ℕ) : Type 0 where
  pub same : without_bookmarks u owner ≡ without_bookmarks t owner
  pub rises : Rises 0 u.records u.next
  pub there : IsSome (head_name u.records owner)

pub rest-first : (t : Tree) (owner : ℕ) → Rises 0 t.records t.next → IsSome (head_name t.records owner) → Rest t t owner
rest-first t owner h some = record { same = refl; rises = h; there = some }

record Name (o : Option (List ℕ)) : Type 0 where
  name : List ℕ
  is : o ≡ Some name

name-of : (o : Option (List ℕ)) → IsSome o → Name o
name-of None h = cc
name-of (Some n) h = record { name = n; is = refl }

-- where none comes, none is left
pub rest-done : (t u : Tree) (owner : ℕ) → Rest t u owner → NoneComes u.records (is_bookmark_above u.records owner []) → u ≡ without_bookmarks t owner
rest-done t u owner rest none =
    let n = name-of (head_name u.records owner) rest.there in
    let all : filter (λ r. not (is_bookmark_of owner r)) u.records ≡ u.records = filter-all (λ r. not (is_bookmark_of owner r)) u.records (λ k r e. ap (λ b. not b) (no-bookmark u.records owner n.name n.is none k r e)) in
    ap (λ (rs : List Item). record u { records = rs }) (sym all) ∙ rest.same

pub some-there : (t u : Tree) (owner i : ℕ) → Rest t u owner → (h : HasFirst u.records (is_bookmark_above u.records owner []) i) → at u.records i ≡ Some h.item
some-there t u owner i rest h = ap (at u.records) (sym h.id) ∙ at-place 0 u.next h.first.place u.records h.item rest.rises h.first.there

pub fewer-left : (t u : Tree) (owner i : ℕ) → Rest t u owner → HasFirst u.records (is_bookmark_above u.records owner []) i → length (removed u i).records < length u.records
fewer-left t u owner i rest h = shorter i u.records (ap is_some (some-there t u owner i rest h))

no-head : (i : ℕ) (r : Item) → is_bookmark_of i r ≡ true → as_head r ≡ None
no-head i (item.Head d) e = cc
no-head i (item.Snap s) e = refl
no-head i (item.Mark m) e = refl

-- one goes
pub rest-less : (t u : Tree) (owner i : ℕ) → Rest t u owner → HasFirst u.records (is_bookmark_above u.records owner []) i → Rest t (removed u i) owner
rest-less t u owner i rest h =
    let n = name-of (head_name u.records owner) rest.there in
    let there = some-there t u owner i rest h in
    let mark = a-bookmark u.records owner i n.name n.is h in
    let apart : owner ≡ i → ⊥ = λ same. (
    let gone : head_name u.records owner ≡ None = ap (λ (o : Option Item). option_map (λ (d : Head). d.name) (option_and_then as_head o)) (ap (at u.records) same ∙ there) ∙ ap (option_map (λ (d : Head). d.name)) (no-head owner h.item mark) in
    let is = n.is in cc) in
    record {
      same = ap (λ (rs : List Item). record u { records = rs }) (filter-without (λ r. not (is_bookmark_of owner r)) i u.records h.item there (ap (λ b. not b) mark)) ∙ rest.same;
      rises = rises-without 0 u.next i u.records rest.rises;
      there = subst (λ (o : Option Item). IsSome (option_map (λ (d : Head). d.name) (option_and_then as_head o))) (sym (ap (λ (look : Look). look owner) (look-without u.next u.records i rest.rises) ∙ edit-other (at u.records) i None owner apart)) rest.there;
    }
