-- A tree without a head and its bookmarks.
use Rattle.std.proofs.Common.{◌≡◌, ℕ, Bool, false, not, cond, Option, Some, None, IsSome, refl, sym, ap, subst, ◌∙◌, inl, inr, option_map, option_and_then}
use Rattle.std.proofs.lemmas.Bool.{cases_Bool, eq-eqb, true≢false}
use Rattle.zp_tree.specs.declared.item.Item.{Item}
use Rattle.zp_tree.specs.declared.item.Item.TheVariants as item
use Rattle.zp_tree.specs.declared.item.Head.{Head}
use Rattle.zp_tree.specs.declared.item.Bookmark.{Bookmark}
use Rattle.zp_tree.specs.Tree.{Tree, at, as_head, as_snapshot, as_bookmark, head_name, Rises}
use Rattle.zp_tree.specs.Dependents.{is_bookmark_of, without_bookmarks}
use Rattle.zp_tree.specs.Destroy.{without_head}
use Rattle.zp_tree.specs.WellFormed.{head_in, snapshot_in, bookmark_in, AreRecords}
use Rattle.zp_changes.proofs.Fewer.{Fewer, passing, at-filtered, fewer-filtered, fewer-removed, fewer-yet, records_fewer}

-- the records that stay
abbrev pub stays : ℕ → Item → Bool
stays i r = not (is_bookmark_of i r)

pub look-left : (t : Tree) (i j : ℕ) → Rises 0 t.records t.next → at (without_bookmarks t i).records j ≡ passing (stays i) (at t.records j)
look-left t i j h = at-filtered (stays i) 0 t.next t.records j h

-- what is no bookmark stays
part-stays : {A : Type 0} (part : Item → Option A) (i : ℕ) (o : Option Item) → ((r : Item) → stays i r ≡ false → part r ≡ None) → option_and_then part (passing (stays i) o) ≡ option_and_then part o
part-stays part i None h = refl
part-stays part i (Some r) h = elim (cases_Bool (stays i r)) [
  | inl on ↦ ap (λ b. option_and_then part (cond b (Some r) None)) on
  | inr off ↦ ap (λ b. option_and_then part (cond b (Some r) None)) off ∙ sym (h r off)
]

no-head : (i : ℕ) (r : Item) → stays i r ≡ false → as_head r ≡ None
no-head i (item.Head d) e = cc
no-head i (item.Snap s) e = refl
no-head i (item.Mark m) e = refl

no-snapshot : (i : ℕ) (r : Item) → stays i r ≡ false → as_snapshot r ≡ None
no-snapshot i (item.Head d) e = refl
no-snapshot i (item.Snap s) e = cc
no-snapshot i (item.Mark m) e = refl

pub heads-left : (t : Tree) (i j : ℕ) → Rises 0 t.records t.next → head_in (at (without_bookmarks t i).records) j ≡ head_in (at t.records) j
heads-left t i j h = ap (option_and_then as_head) (look-left t i j h) ∙ part-stays as_head i (at t.records j) (no-head i)

pub snapshots-left : (t : Tree) (i j : ℕ) → Rises 0 t.records t.next → snapshot_in (at (without_bookmarks t i).records) j ≡ snapshot_in (at t.records) j
snapshots-left t i j h = ap (option_and_then as_snapshot) (look-left t i j h) ∙ part-stays as_snapshot i (at t.records j) (no-snapshot i)

-- the head has no bookmark any more
pub no-marks : (t : Tree) (i j : ℕ) (m : Bookmark) → Rises 0 t.records t.next → bookmark_in (at (without_bookmarks t i).records) j ≡ Some m → m.owner ≡ i → ⊥
no-marks t i j m h e same = go (at t.records j) (sym (ap (option_and_then as_bookmark) (look-left t i j h)) ∙ e)
  where
    go : (o : Option Item) → option_and_then as_bookmark (passing (stays i) o) ≡ Some m → ⊥
    go None f = let gone : None ≡ Some m = f in cc
    go (Some (item.Head d)) f = let gone : None ≡ Some m = f in cc
    go (Some (item.Snap s)) f = let gone : None ≡ Some m = f in cc
    go (Some (item.Mark n)) f = elim (cases_Bool (stays i (item.Mark n))) [
      | inl on ↦
          let is : Some n ≡ Some m = sym (ap (λ b. option_and_then as_bookmark (cond b (Some (item.Mark n)) None)) on) ∙ f in
          let it : n ≡ m = cc in
          let off : stays i (item.Mark n) ≡ false = ap (λ b. not b) (eq-eqb n.owner i (ap (λ (k : Bookmark). k.owner) it ∙ same)) in
          true≢false (sym on ∙ off)
      | inr off ↦ (let gone : None ≡ Some m = sym (ap (λ b. option_and_then as_bookmark (cond b (Some (item.Mark n)) None)) off) ∙ f in cc)
    ]

some-head : (o : Option Item) → IsSome (option_map (λ (d : Head). d.name) (option_and_then as_head o)) → IsSome (option_and_then as_head o)
some-head None e = cc
some-head (Some (item.Head d)) e = refl
some-head (Some (item.Snap s)) e = cc
some-head (Some (item.Mark m)) e = cc

some-record : {A : Type 0} (part : Item → Option A) (o : Option Item) → IsSome (option_and_then part o) → IsSome o
some-record part None e = cc
some-record part (Some r) e = refl

-- the head itself is still there
pub head_left : (t : Tree) (i : ℕ) → AreRecords t → IsSome (head_name t.records i) → IsSome (at (without_bookmarks t i).records i)
head_left t i w some = some-record as_head (at (without_bookmarks t i).records i) (subst (λ o. IsSome o) (sym (heads-left t i i w.rises)) (some-head (at t.records i) some))

pub fewer-marks : (t : Tree) (i : ℕ) → Rises 0 t.records t.next → Fewer t (without_bookmarks t i)
fewer-marks t i h = fewer-filtered (stays i) t h

pub fewer-head : (t : Tree) (i : ℕ) → Rises 0 t.records t.next → Fewer t (without_head t i)
fewer-head t i h = let f = fewer-marks t i h in fewer-yet t (without_bookmarks t i) (without_head t i) f (fewer-removed (without_bookmarks t i) i f.rises)

pub records_left : (t : Tree) (i : ℕ) → AreRecords t → AreRecords (without_head t i)
records_left t i w = records_fewer t (without_head t i) w (fewer-head t i w.rises)
