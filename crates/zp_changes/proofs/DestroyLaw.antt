-- Destroying keeps a tree well formed.
use Rattle.std.proofs.Common.{◌≡◌, ℕ, List, [], ◌∷◌, length, nat_lt, Bool, true, false, not, ◌&&◌, ◌||◌, cond, find, Option, Some, None, IsSome, refl, sym, ap, subst, ◌∙◌, inl, inr, ◌⊎◌, option_and_then}
use Rattle.std.specs.List.{list_any}
use Rattle.std.specs.Option.{option_map_or}
use Rattle.std.proofs.lemmas.Bool.{cases_Bool, cases_eq, eq-eqb, eqb-true, true≢false}
use Rattle.std.proofs.lemmas.Slice.Eq.{bytes_eq-Decides}
use Rattle.zp_names.specs.NameParts.{form_of, is_pool}
use Rattle.zp_names.specs.declared.form.Form.{Form}
use Rattle.zp_names.specs.declared.form.Form.TheVariants as form
use Rattle.zp_tree.specs.declared.item.Item.{Item}
use Rattle.zp_tree.specs.declared.item.Item.TheVariants as item
use Rattle.zp_tree.specs.declared.item.Head.{Head}
use Rattle.zp_tree.specs.declared.item.Snapshot.{Snapshot}
use Rattle.zp_tree.specs.declared.item.Bookmark.{Bookmark}
use Rattle.zp_tree.specs.declared.item.Hold.{Hold}
use Rattle.zp_tree.specs.Tree.{Tree, at, id_of, has_id, as_head, as_snapshot, as_bookmark, named, is_called, is_text, head_named, snapshot_named, bookmark_named, snapshot_at, Rises, replaced, removed}
use Rattle.zp_tree.specs.NextByName.{is_id}
use Rattle.zp_tree.specs.Dependents.{is_child_of, is_snapshot_of, is_clone_of, has_children, has_snapshots, has_clones, is_held, without_bookmarks}
use Rattle.zp_tree.specs.Rows.{passed, first_row}
use Rattle.zp_tree.specs.Destroy.{destroy_rows_of, destroy_check, destroy_change, destroyed, snapshot_destroyed, head_destroyed, without_head, released, is_released}
use Rattle.zp_tree.specs.WellFormed.{Look, head_in, snapshot_in, HasClone, Agrees, IsWellFormed}
use Rattle.zp_tree.proofs.Clear.{clear}
use Rattle.zp_tree.proofs.Edits.{edit, edit-here, edit-other, look-without}
use Rattle.zp_tree.proofs.Found.{is-head, is-snapshot, head-found, snapshot-found}
use Rattle.zp_tree.proofs.Looks.{at-id, found-at}
use Rattle.zp_changes.proofs.Replacing.{changed-snapshot-well}
use Rattle.zp_changes.proofs.Fewer.{Fewer, fewer-removed, fewer-yet, well-fewer}
use Rattle.zp_changes.proofs.Losing.{IsLess, IsAlone, agrees-heads-stay, agrees-head-gone}
use Rattle.zp_changes.proofs.WithoutHead.{heads-left, snapshots-left, no-marks, fewer-marks, fewer-head}

-- ---- tests over the records

-- what no record passes isn't passed by the one at an id
none-at : (test : Item → Bool) (rs : List Item) (i : ℕ) (r : Item) → list_any test rs ≡ false → at rs i ≡ Some r → test r ≡ false
none-at test [] i r none e = cc
none-at test (x ∷ rs) i r none e = elim (cases_Bool (has_id i x)) [
  | inl here ↦ (let is : Some x ≡ Some r = sym (ap (λ b. cond b (Some x) (at rs i)) here) ∙ e in let it : x ≡ r = cc in ap test (sym it) ∙ left (test x) (list_any test rs) none)
  | inr there ↦ none-at test rs i r (right (test x) (list_any test rs) none) (sym (ap (λ b. cond b (Some x) (at rs i)) there) ∙ e)
]
  where
    left : (a b : Bool) → (a || b) ≡ false → a ≡ false
    left true b h = cc
    left false b h = refl

    right : (a b : Bool) → (a || b) ≡ false → b ≡ false
    right true b h = cc
    right false b h = h

record Passes (test : Item → Bool) (rs : List Item) : Type 0 where
  item : Item
  there : find test rs ≡ Some item
  passes : test item ≡ true

some-passes : (test : Item → Bool) (rs : List Item) → list_any test rs ≡ true → Passes test rs
some-passes test [] h = cc
some-passes test (x ∷ rs) h = elim (cases_Bool (test x)) [
  | inl hit ↦ record { item = x; there = ap (λ b. cond b (Some x) (find test rs)) hit; passes = hit }
  | inr miss ↦ (let p = some-passes test rs (sym (ap (λ b. b || list_any test rs) miss) ∙ h) in record { item = p.item; there = ap (λ b. cond b (Some x) (find test rs)) miss ∙ p.there; passes = p.passes })
]

-- ---- clones

clone-origin : (i : ℕ) (o : Option ℕ) → is_id i o ≡ true → o ≡ Some i
clone-origin i None e = cc
clone-origin i (Some k) e = ap Some (eqb-true k i e)

clone-of : (look : Look) (i : ℕ) (r : Item) → look (id_of r) ≡ Some r → is_clone_of i r ≡ true → HasClone look i
clone-of look i (item.Head d) there e = record { id = d.id; head = d; there = ap (option_and_then as_head) there; origin = clone-origin i d.origin e }
clone-of look i (item.Snap s) there e = cc
clone-of look i (item.Mark m) there e = cc

pub some-clone : (t : Tree) (s : Snapshot) → Rises 0 t.records t.next → has_clones t s ≡ true → HasClone (at t.records) s.id
some-clone t s h e = let p = some-passes (is_clone_of s.id) t.records e in clone-of (at t.records) s.id p.item (found-at (is_clone_of s.id) 0 t.next t.records p.item h p.there) p.passes

pub no-clone : (t : Tree) (s : Snapshot) → has_clones t s ≡ false → (i : ℕ) (d : Head) → head_in (at t.records) i ≡ Some d → d.origin ≡ Some s.id → ⊥
no-clone t s none i d h o =
    let is : is_clone_of s.id (item.Head d) ≡ true = ap (is_id s.id) o ∙ eq-eqb s.id s.id refl in
    true≢false (sym is ∙ none-at (is_clone_of s.id) t.records i (item.Head d) none (is-head (at t.records i) d h))

-- what a snapshot is kept for
pub kept-by : (t : Tree) (s : Snapshot) → Rises 0 t.records t.next → (is_held s || has_clones t s) ≡ true → (¬ (s.holds ≡ [])) ⊎ HasClone (at t.records) s.id
kept-by t s rises e = elim (cases_Bool (is_held s)) [
  | inl held ↦ inl (λ empty. true≢false (sym held ∙ ap (λ (hs : List Hold). nat_lt 0 (length hs)) empty))
  | inr free ↦ inr (some-clone t s rises (sym (ap (λ b. b || has_clones t s) free) ∙ e))
]

-- ---- a record that is no head goes

-- a part that the record hasn't is as it was everywhere
unmoved : {A : Type 0} (part : Item → Option A) (look : Look) (n : ℕ) → option_and_then part (look n) ≡ None → (i : ℕ) → option_and_then part (edit look n None i) ≡ option_and_then part (look i)
unmoved part look n none i = elim (cases_eq i n) [
  | inl same ↦ ap (option_and_then part) (ap (edit look n None) same ∙ edit-here look n None) ∙ sym none ∙ ap (λ k. option_and_then part (look k)) (sym same)
  | inr other ↦ ap (option_and_then part) (edit-other look n None i other)
]

pub removed-well : (t : Tree) (n : ℕ) → IsWellFormed t → head_in (at t.records) n ≡ None → ((i : ℕ) (d : Head) → head_in (at t.records) i ≡ Some d → d.origin ≡ Some n → ⊥) → IsWellFormed (removed t n)
removed-well t n w none alone =
    let f = fewer-removed t n w.rises in
    let look = at t.records in
    well-fewer t (removed t n) w f (subst Agrees (sym (look-without t.next t.records n w.rises)) (agrees-heads-stay look (edit look n None)
    (subst (IsLess look) (look-without t.next t.records n w.rises) f.less)
    w.agrees
    (unmoved as_head look n none)
    (λ i o d h e some. subst (λ q. IsSome (option_and_then as_snapshot q)) (sym (edit-other look n None o (λ same. alone i d (sym (unmoved as_head look n none i) ∙ h) (e ∙ ap Some same)))) some)))

-- a snapshot that something keeps is marked
marked-well : (t : Tree) (s : Snapshot) → IsWellFormed t → at t.records s.id ≡ Some (item.Snap s) → (is_held s || has_clones t s) ≡ true → IsWellFormed (replaced t (item.Snap (record s { deferred = true })))
marked-well t s w there kept = changed-snapshot-well t s (record s { deferred = true }) w there
    (λ h. record { short = h.short; settings = h.settings; tags = h.tags; texts = h.texts })
    refl
    (λ i u h other so ss. other (w.agrees.shorts i s.id u s h (ap (option_and_then as_snapshot) there) so ss))
    (λ _. kept-by t s w.rises kept)
    refl

snapshot-gone : (t : Tree) (name : List ℕ) (defer : Bool) → IsWellFormed t → first_row (destroy_rows_of form.Snap t name defer) ≡ passed → IsWellFormed (destroyed form.Snap t name defer)
snapshot-gone t name defer w e = go (snapshot_named t name) refl
  where
    clones : (a b c : Bool) → (a && (b || c)) ≡ false → (not a && c) ≡ false → c ≡ false
    clones a b false e f = refl
    clones true true true e f = cc
    clones true false true e f = cc
    clones false b true e f = cc

    kept : (a b : Bool) → (a && b) ≡ true → b ≡ true
    kept true b e = e
    kept false b e = cc

    go : (o : Option Snapshot) → snapshot_named t name ≡ o → IsWellFormed (option_map_or (snapshot_destroyed t defer) o t)
    go None f = w
    go (Some s) f =
        let rows = clear (destroy_rows_of form.Snap t name defer) refl e in
        let there = (snapshot-found t name s w f).0 in
        let refused : (not defer && has_clones t s) ≡ false = sym (ap (λ (o : Option Snapshot). not defer && option_map_or (has_clones t) o false) f) ∙ rows.1.1.0 in
        elim (cases_Bool (defer && (is_held s || has_clones t s))) [
          | inl stays ↦ subst (λ b. IsWellFormed (cond b (replaced t (item.Snap (record s { deferred = true }))) (removed t s.id))) (sym stays) (marked-well t s w there (kept defer (is_held s || has_clones t s) stays))
          | inr goes ↦ subst (λ b. IsWellFormed (cond b (replaced t (item.Snap (record s { deferred = true }))) (removed t s.id))) (sym goes)
              (removed-well t s.id w (ap (option_and_then as_head) there) (no-clone t s (clones defer (is_held s) (has_clones t s) goes refused)))
        ]

is-bookmark : (o : Option Item) (m : Bookmark) → option_and_then as_bookmark o ≡ Some m → o ≡ Some (item.Mark m)
is-bookmark None m e = cc
is-bookmark (Some (item.Head d)) m e = cc
is-bookmark (Some (item.Snap s)) m e = cc
is-bookmark (Some (item.Mark n)) m e = let is : n ≡ m = cc in ap (λ (v : Bookmark). Some (item.Mark v)) is

bookmark-gone : (t : Tree) (name : List ℕ) (defer : Bool) → IsWellFormed t → IsWellFormed (destroyed form.Bookmark t name defer)
bookmark-gone t name defer w = go (bookmark_named t name) refl
  where
    go : (o : Option Bookmark) → bookmark_named t name ≡ o → IsWellFormed (option_map_or (λ m. removed t m.id) o t)
    go None f = w
    go (Some m) f =
        let there : at t.records m.id ≡ Some (item.Mark m) = found-at (is_called t.records name) 0 t.next t.records (item.Mark m) w.rises (is-bookmark (named t.records name) m f) in
        removed-well t m.id w (ap (option_and_then as_head) there) (λ i d h o. (
        let some = w.agrees.origins i m.id d h o in
        let none : snapshot_in (at t.records) m.id ≡ None = ap (option_and_then as_snapshot) there in cc))

-- ---- a head goes

-- a head whose name is no pool's, without snapshots and children, in the tree without its bookmarks
alone-left : (t : Tree) (d : Head) → IsWellFormed t → head_in (at t.records) d.id ≡ Some d → is_pool d.name ≡ false → has_snapshots t d ≡ false → has_children t d ≡ false → IsAlone (at (without_bookmarks t d.id).records) d
alone-left t d w there part snapshots children = record {
  there = heads-left t d.id d.id w.rises ∙ there;
  part = part;
  childless = λ i e h is. (
      let child : is_child_of d.name (item.Head e) ≡ true = ap (is_text d.name) is ∙ (bytes_eq-Decides d.name d.name).1 refl in
      true≢false (sym child ∙ none-at (is_child_of d.name) t.records i (item.Head e) children (is-head (at t.records i) e (sym (heads-left t d.id i w.rises) ∙ h))));
  without_snapshots = λ i s h is. (
      let own : is_snapshot_of d.id (item.Snap s) ≡ true = eq-eqb s.owner d.id is in
      true≢false (sym own ∙ none-at (is_snapshot_of d.id) t.records i (item.Snap s) snapshots (is-snapshot (at t.records i) s (sym (snapshots-left t d.id i w.rises) ∙ h))));
  without_marks = λ i m h is. no-marks t d.id i m w.rises h is;
}

-- the tree without the bookmarks agrees as before
agrees-left : (t : Tree) (i : ℕ) → IsWellFormed t → Agrees (at (without_bookmarks t i).records)
agrees-left t i w = agrees-heads-stay (at t.records) (at (without_bookmarks t i).records) (fewer-marks t i w.rises).less w.agrees (λ j. heads-left t i j w.rises)
    (λ j o d h e some. subst (λ q. IsSome q) (sym (snapshots-left t i o w.rises)) some)

module _ (t : Tree) (d : Head) (w : IsWellFormed t) (alone : IsAlone (at (without_bookmarks t d.id).records) d) where
  abbrev look : Look
  look = at (without_bookmarks t d.id).records

  rises-left : Rises 0 (without_bookmarks t d.id).records t.next
  rises-left = (fewer-marks t d.id w.rises).rises

  abbrev next : Look
  next = at (without_head t d.id).records

  next-is : next ≡ edit look d.id None
  next-is = look-without t.next (without_bookmarks t d.id).records d.id rises-left

  fewer : Fewer t (without_head t d.id)
  fewer = fewer-head t d.id w.rises

  less : IsLess look next
  less = (fewer-removed (without_bookmarks t d.id) d.id rises-left).less

  heads : (i : ℕ) → (i ≡ d.id → ⊥) → head_in next i ≡ head_in look i
  heads i other = ap (option_and_then as_head) (ap (λ (l : Look). l i) next-is ∙ edit-other look d.id None i other)

  snapshots : (i : ℕ) → snapshot_in next i ≡ snapshot_in look i
  snapshots i = ap (option_and_then as_snapshot) (ap (λ (l : Look). l i) next-is) ∙ unmoved as_snapshot look d.id (ap (option_and_then as_snapshot) (is-head (look d.id) d alone.there)) i

  -- the origin, if any, stays
  origin-stays : ((i : ℕ) (s : Snapshot) → snapshot_in next i ≡ Some s → s.deferred ≡ true → d.origin ≡ Some i → (¬ (s.holds ≡ [])) ⊎ HasClone next i) → IsWellFormed (without_head t d.id)
  origin-stays kept = well-fewer t (without_head t d.id) w fewer (agrees-head-gone look next d less (agrees-left t d.id w) alone heads
      (λ i o e h is some. subst (λ q. IsSome q) (sym (snapshots o)) some) kept)

  -- the origin goes too
  origin-goes : (s : Snapshot) → next s.id ≡ Some (item.Snap s) → d.origin ≡ Some s.id → has_clones (without_head t d.id) s ≡ false → IsWellFormed (removed (without_head t d.id) s.id)
  origin-goes s there from none =
      let u = without_head t d.id in
      let f = fewer-removed u s.id fewer.rises in
      let last = at (removed u s.id).records in
      let last-is : last ≡ edit next s.id None = look-without u.next u.records s.id fewer.rises in
      let same : (i : ℕ) → head_in last i ≡ head_in next i = λ i. ap (λ (l : Look). head_in l i) last-is ∙ unmoved as_head next s.id (ap (option_and_then as_head) there) i in
      well-fewer t (removed u s.id) w (fewer-yet t u (removed u s.id) fewer f) (agrees-head-gone look last d (λ i r e. less i r (f.less i r e)) (agrees-left t d.id w) alone
      (λ i other. same i ∙ heads i other)
      (λ i o e h is some. subst (λ q. IsSome q) (sym (ap (λ (l : Look). snapshot_in l o) last-is ∙ ap (option_and_then as_snapshot) (edit-other next s.id None o (λ eq. no-clone u s none i e (sym (same i) ∙ h) (is ∙ ap Some eq))) ∙ snapshots o)) some)
      (λ i u2 h e origin. (
      let is : Some s.id ≡ Some i = sym from ∙ origin in
      let it : s.id ≡ i = cc in
      let gone : snapshot_in last i ≡ None = ap (λ (l : Look). snapshot_in l i) last-is ∙ ap (option_and_then as_snapshot) (ap (edit next s.id None) (sym it) ∙ edit-here next s.id None) in cc)))

  kept-for : (s u : Snapshot) (i : ℕ) → s ≡ u → s.id ≡ i → is_released (without_head t d.id) s ≡ false → u.deferred ≡ true → (¬ (u.holds ≡ [])) ⊎ HasClone next i
  kept-for s u i it same stays deferred = elim (cases_Bool (is_held s)) [
    | inl held ↦ inl (λ empty. true≢false (sym held ∙ ap (λ (hs : List Hold). nat_lt 0 (length hs)) (ap (λ (v : Snapshot). v.holds) it ∙ empty)))
    | inr free ↦ inr (subst (HasClone next) same (some-clone (without_head t d.id) s fewer.rises (has s.deferred (is_held s) (has_clones (without_head t d.id) s) stays (ap (λ (v : Snapshot). v.deferred) it ∙ deferred) free)))
  ]
    where
      has : (a b c : Bool) → (a && not b && not c) ≡ false → a ≡ true → b ≡ false → c ≡ true
      has true false true e f h = refl
      has true false false e f h = cc
      has true true c e f h = cc
      has false b c e f h = cc

  gone-well : IsWellFormed (head_destroyed t d)
  gone-well = go d.origin refl
    where
      settled : (o : ℕ) → d.origin ≡ Some o → (q : Option Snapshot) → snapshot_at (without_head t d.id) o ≡ q → IsWellFormed (option_map_or (λ s. cond (is_released (without_head t d.id) s) (removed (without_head t d.id) o) (without_head t d.id)) q (without_head t d.id))
      settled o from None f = origin-stays (λ i s h e origin. (let is : Some o ≡ Some i = sym from ∙ origin in let it : o ≡ i = cc in let none : snapshot_in next i ≡ None = ap (snapshot_in next) (sym it) ∙ f in cc))
      settled o from (Some s) f =
          let there : next o ≡ Some (item.Snap s) = is-snapshot (next o) s f in
          let id : s.id ≡ o = at-id o (without_head t d.id).records (item.Snap s) there in
          elim (cases_Bool (is_released (without_head t d.id) s)) [
            | inl goes ↦ subst (λ b. IsWellFormed (cond b (removed (without_head t d.id) o) (without_head t d.id))) (sym goes)
                (subst (λ k. IsWellFormed (removed (without_head t d.id) k)) id (origin-goes s (ap next id ∙ there) (from ∙ ap Some (sym id)) (clones s.deferred (is_held s) (has_clones (without_head t d.id) s) goes)))
            | inr stays ↦ subst (λ b. IsWellFormed (cond b (removed (without_head t d.id) o) (without_head t d.id))) (sym stays)
                (origin-stays (λ i u h e origin. (
                let is : Some o ≡ Some i = sym from ∙ origin in
                let it : o ≡ i = cc in
                let one : Some s ≡ Some u = sym f ∙ ap (snapshot_in next) it ∙ h in
                let same : s ≡ u = cc in kept-for s u i same (id ∙ it) stays e)))
          ]
        where
          clones : (a b c : Bool) → (a && not b && not c) ≡ true → c ≡ false
          clones a b false e = refl
          clones true true true e = cc
          clones true false true e = cc
          clones false b true e = cc

      go : (o : Option ℕ) → d.origin ≡ o → IsWellFormed (option_map_or (released (without_head t d.id)) o (without_head t d.id))
      go None f = origin-stays (λ i s h e origin. (let none : None ≡ Some i = sym f ∙ origin in cc))
      go (Some o) f = settled o f (snapshot_at (without_head t d.id) o) refl

head-gone : (t : Tree) (name : List ℕ) (defer : Bool) → IsWellFormed t → first_row (destroy_rows_of form.Head t name defer) ≡ passed → IsWellFormed (destroyed form.Head t name defer)
head-gone t name defer w e = go (head_named t name) refl
  where
    go : (o : Option Head) → head_named t name ≡ o → IsWellFormed (option_map_or (head_destroyed t) o t)
    go None f = w
    go (Some d) f =
        let rows = clear (destroy_rows_of form.Head t name defer) refl e in
        let found = head-found t name d w f in
        let snapshots : has_snapshots t d ≡ false = sym (ap (λ (o : Option Head). option_map_or (has_snapshots t) o false) f) ∙ rows.1.1.1.1.0 in
        let children : has_children t d ≡ false = sym (ap (λ (o : Option Head). option_map_or (has_children t) o false) f) ∙ rows.1.1.1.1.1.0 in
        gone-well t d w (alone-left t d w found.0 (ap is_pool found.1 ∙ rows.1.1.0) snapshots children)

pub destroy-well : (t : Tree) (name : List ℕ) (defer : Bool) → IsWellFormed t → destroy_check t name defer ≡ passed → IsWellFormed (destroy_change t name defer)
destroy-well t name defer w e = go (form_of name) refl e
  where
    go : (f : Form) → form_of name ≡ f → first_row (destroy_rows_of f t name defer) ≡ passed → IsWellFormed (destroyed f t name defer)
    go form.Head g h = head-gone t name defer w h
    go form.Snap g h = snapshot-gone t name defer w h
    go form.Bookmark g h = bookmark-gone t name defer w
