-- Taking a user reference off keeps a tree well formed.
use Rattle.std.proofs.Common.{◌≡◌, ℕ, List, [], ◌∷◌, filter, map, Bool, true, false, not, ◌&&◌, ◌||◌, cond, Option, Some, None, IsSome, is_some, refl, sym, ap, subst, ◌∙◌, inl, inr, ◌⊎◌, option_and_then, bytes_eq}
use Rattle.std.specs.List.{IsDistinct, AllByRecursion}
use Rattle.std.specs.Option.{option_map_or}
use Rattle.std.specs.Str.{IsUtf8}
use Rattle.std.proofs.lemmas.Bool.{cases_Bool, cond_both, eq-eqb}
use Rattle.std.proofs.lemmas.List.Elements.{All-filter}
use Rattle.std.proofs.lemmas.Map.Keys.{IsDistinct-head, IsDistinct-tail, IsDistinct-cons}
use Rattle.zp_tree.specs.declared.item.Item.{Item}
use Rattle.zp_tree.specs.declared.item.Item.TheVariants as item
use Rattle.zp_tree.specs.declared.item.Snapshot.{Snapshot}
use Rattle.zp_tree.specs.declared.item.Hold.{Hold}
use Rattle.zp_tree.specs.Tree.{Tree, at, has_id, id_of, as_head, as_snapshot, snapshot_named, snapshot_at, put, without, replaced, removed}
use Rattle.zp_tree.specs.Dependents.{is_held, has_clones}
use Rattle.zp_tree.specs.Destroy.{is_released, released}
use Rattle.zp_tree.specs.Holds.{is_tagged}
use Rattle.zp_tree.specs.WellFormed.{Look, head_in, HasClone, IsRecord, IsSnapshot, AreRecords, IsWellFormed}
use Rattle.zp_tree.specs.ReleaseHold.{release_change, without_hold}
use Rattle.zp_tree.proofs.Adding.{whole-cases}
use Rattle.zp_tree.proofs.Changing.{unmoved, same-clone}
use Rattle.zp_tree.proofs.Depending.{well_records}
use Rattle.zp_tree.proofs.Edits.{edit, edit-here, look-put}
use Rattle.zp_tree.proofs.Found.{snapshot-found}
use Rattle.zp_tree.proofs.Rising.{rises-put}
use Rattle.zp_changes.proofs.Replacing.{changed-snapshot-well}
use Rattle.zp_changes.proofs.DestroyLaw.{no-clone, kept-by, removed-well}

-- ---- fewer holds

apart-kept : (P : List ℕ → Type 0) (q : Hold → Bool) (hs : List Hold) → AllByRecursion P (map (λ (h : Hold). h.tag) hs) → AllByRecursion P (map (λ (h : Hold). h.tag) (filter q hs))
apart-kept P q [] a = tt
apart-kept P q (h ∷ hs) a = let rest = apart-kept P q hs a.1 in cond_both (q h) (h ∷ filter q hs) (filter q hs) (λ ys. AllByRecursion P (map (λ (x : Hold). x.tag) ys)) (λ _. (a.0, rest)) (λ _. rest)

tags-kept : (q : Hold → Bool) (hs : List Hold) → IsDistinct bytes_eq (map (λ (h : Hold). h.tag) hs) → IsDistinct bytes_eq (map (λ (h : Hold). h.tag) (filter q hs))
tags-kept q [] d = d
tags-kept q (h ∷ hs) d =
    let tags = map (λ (x : Hold). x.tag) hs in
    let rest = tags-kept q hs (IsDistinct-tail bytes_eq h.tag tags d) in
    cond_both (q h) (h ∷ filter q hs) (filter q hs) (λ ys. IsDistinct bytes_eq (map (λ (x : Hold). x.tag) ys))
    (λ _. IsDistinct-cons bytes_eq h.tag (map (λ (x : Hold). x.tag) (filter q hs)) (apart-kept (λ y. bytes_eq h.tag y ≡ false) q hs (IsDistinct-head bytes_eq h.tag tags d)) rest)
    (λ _. rest)

good-without : (tag : List ℕ) (s : Snapshot) → IsSnapshot s → IsSnapshot (without_hold tag s)
good-without tag s h = record {
  short = h.short;
  settings = h.settings;
  tags = tags-kept (λ x. not (is_tagged tag x)) s.holds h.tags;
  texts = All-filter (λ x. not (is_tagged tag x)) (λ (x : Hold). IsUtf8 x.tag) s.holds h.texts;
}

-- ---- the snapshot in between

records-replaced : (t : Tree) (x : Item) → AreRecords t → IsSome (at t.records (id_of x)) → IsRecord x → AreRecords (replaced t x)
records-replaced t x w some good = record {
  rises = rises-put 0 t.next x t.records w.rises;
  records = λ i r e. elim (whole-cases (at t.records) (id_of x) (Some x) i r (sym (ap (λ (look : Look). look i) (look-put x t.records some)) ∙ e)) [
    | inl q ↦ subst IsRecord (let is : Some x ≡ Some r = q.1 in let it : x ≡ r = cc in it) good
    | inr q ↦ w.records i r q.1
  ];
}

pub records_released : (t : Tree) (name tag : List ℕ) (s : Snapshot) → IsWellFormed t → snapshot_named t name ≡ Some s → AreRecords (replaced t (item.Snap (without_hold tag s)))
records_released t name tag s w f =
    let there = (snapshot-found t name s w f).0 in
    records-replaced t (item.Snap (without_hold tag s)) (well_records t w) (ap is_some there) (good-without tag s (w.agrees.records s.id (item.Snap s) there))

-- what was replaced is out as before
without-put : (x : Item) (rs : List Item) → without (id_of x) (put x rs) ≡ without (id_of x) rs
without-put x [] = refl
without-put x (r ∷ rs) = elim (cases_Bool (has_id (id_of x) r)) [
  | inl here ↦ ap (λ b. without (id_of x) (cond b (x ∷ rs) (r ∷ put x rs))) here ∙ ap (λ b. cond b rs (x ∷ without (id_of x) rs)) (eq-eqb (id_of x) (id_of x) refl) ∙ sym (ap (λ b. cond b rs (r ∷ without (id_of x) rs)) here)
  | inr there ↦ ap (λ b. without (id_of x) (cond b (x ∷ rs) (r ∷ put x rs))) there ∙ ap (λ b. cond b (put x rs) (r ∷ without (id_of x) (put x rs))) there ∙ ap (λ ys. r ∷ ys) (without-put x rs) ∙ sym (ap (λ b. cond b rs (r ∷ without (id_of x) rs)) there)
]

-- ---- the law

module _ (t : Tree) (tag : List ℕ) (s : Snapshot) (w : IsWellFormed t) (there : at t.records s.id ≡ Some (item.Snap s)) where
  abbrev left : Snapshot
  left = without_hold tag s

  abbrev between : Tree
  between = replaced t (item.Snap left)

  look-is : at between.records ≡ edit (at t.records) s.id (Some (item.Snap left))
  look-is = look-put (item.Snap left) t.records (ap is_some there)

  heads : (i : ℕ) → head_in (at between.records) i ≡ head_in (at t.records) i
  heads i = ap (λ (look : Look). head_in look i) look-is ∙ unmoved as_head (at t.records) s.id (item.Snap s) (item.Snap left) there refl i

  found : snapshot_at between s.id ≡ Some left
  found = ap (λ (look : Look). option_and_then as_snapshot (look s.id)) look-is ∙ ap (option_and_then as_snapshot) (edit-here (at t.records) s.id (Some (item.Snap left)))

  goes : is_released between left ≡ true → IsWellFormed (removed between s.id)
  goes e = subst (λ (rs : List Item). IsWellFormed (record t { records = rs })) (sym (without-put (item.Snap left) t.records))
      (removed-well t s.id w (ap (option_and_then as_head) there) (λ i d h o. no-clone between left (clones left.deferred (is_held left) (has_clones between left) e) i d (heads i ∙ h) o))
    where
      clones : (a b c : Bool) → (a && not b && not c) ≡ true → c ≡ false
      clones a b false e = refl
      clones true true true e = cc
      clones true false true e = cc
      clones false b true e = cc

  stays : is_released between left ≡ false → IsWellFormed between
  stays e = changed-snapshot-well t s left w there (good-without tag s) refl
      (λ i u h other so ss. other (w.agrees.shorts i s.id u s h (ap (option_and_then as_snapshot) there) so ss))
      (λ deferred. elim (kept-by between left (rises-put 0 t.next (item.Snap left) t.records w.rises) (kept left.deferred (is_held left) (has_clones between left) e deferred)) [
        | inl held ↦ inl held
        | inr clone ↦ inr (same-clone (at between.records) (at t.records) s.id (λ i. sym (heads i)) clone)
      ])
      refl
    where
      kept : (a b c : Bool) → (a && not b && not c) ≡ false → a ≡ true → (b || c) ≡ true
      kept true true c e f = refl
      kept true false true e f = refl
      kept true false false e f = cc
      kept false b c e f = cc

  pub released-well : IsWellFormed (released between s.id)
  released-well = subst (λ (o : Option Snapshot). IsWellFormed (option_map_or (λ x. cond (is_released between x) (removed between s.id) between) o between)) (sym found) (elim (cases_Bool (is_released between left)) [
    | inl yes_goes ↦ subst (λ b. IsWellFormed (cond b (removed between s.id) between)) (sym yes_goes) (goes yes_goes)
    | inr it_stays ↦ subst (λ b. IsWellFormed (cond b (removed between s.id) between)) (sym it_stays) (stays it_stays)
  ])

pub release-well : (t : Tree) (name tag : List ℕ) → IsWellFormed t → IsWellFormed (release_change t name tag)
release-well t name tag w = go (snapshot_named t name) refl
  where
    go : (o : Option Snapshot) → snapshot_named t name ≡ o → IsWellFormed (option_map_or (λ s. released (replaced t (item.Snap (without_hold tag s))) s.id) o t)
    go None f = w
    go (Some s) f = released-well t tag s w (snapshot-found t name s w f).0
