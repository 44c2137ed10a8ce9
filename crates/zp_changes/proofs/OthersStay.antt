-- A record that a command's table doesn't name stays.
use Rattle.std.proofs.Common.{◌≡◌, ℕ, List, [], ◌∷◌, ◌++◌, nat_eq, Bool, true, false, cond, not, ◌||◌, ◌&&◌, Option, Some, None, is_some, refl, sym, ap, ◌∙◌, inl, inr, option_map, option_and_then, unwrap_or}
use Rattle.std.specs.Option.{option_map_or}
use Rattle.std.proofs.lemmas.Bool.{cases_eq, eq-eqb, ne_eqb, true≢false}
use Rattle.zp_names.specs.NameMoves.{moved}
use Rattle.zp_names.specs.Names.{head_of, short_of}
use Rattle.zp_names.specs.NameParts.{form_of, snapshot_name}
use Rattle.zp_names.specs.declared.form.Form.{Form}
use Rattle.zp_names.specs.declared.form.Form.TheVariants as form
use Rattle.zp_names.specs.declared.command.Command.{Command}
use Rattle.zp_names.specs.declared.command.Command.TheVariants as command
use Rattle.zp_tree.specs.declared.item.Item.{Item}
use Rattle.zp_tree.specs.declared.item.Item.TheVariants as item
use Rattle.zp_tree.specs.declared.item.Head.{Head}
use Rattle.zp_tree.specs.declared.item.Snapshot.{Snapshot}
use Rattle.zp_tree.specs.declared.item.Bookmark.{Bookmark}
use Rattle.zp_tree.specs.declared.item.PointInTime.{PointInTime}
use Rattle.zp_tree.specs.declared.promotion.Promotion.{Promotion}
use Rattle.zp_tree.specs.Tree.{Tree, at, id_of, as_snapshot, as_bookmark, Rises, is_called, named, head_named, head_at, snapshot_at, snapshot_named, bookmark_named, added, replaced, removed, changed}
use Rattle.zp_tree.specs.WellFormed.{IsWellFormed}
use Rattle.zp_tree.specs.Commands.{change_of}
use Rattle.zp_tree.specs.NamedRecords.{takes_part, goes_with, goes, names_record, is_renamed}
use Rattle.zp_tree.specs.NextByName.{is_id}
use Rattle.zp_tree.specs.Dependents.{is_bookmark_of, is_held, has_clones, without_bookmarks}
use Rattle.zp_tree.specs.Destroy.{without_head, is_released, released, snapshot_destroyed, head_destroyed, destroyed}
use Rattle.zp_tree.specs.PlaceHold.{with_hold}
use Rattle.zp_tree.specs.ReleaseHold.{without_hold}
use Rattle.zp_tree.specs.Rename.{renamed, rename_change}
use Rattle.zp_tree.specs.TakeSnapshot.{new_snapshot}
use Rattle.zp_tree.specs.MakeClone.{with_clone, new_clone}
use Rattle.zp_tree.specs.MakeBookmark.{point_named, with_bookmark, new_bookmark}
use Rattle.zp_tree.specs.Rollback.{rolled_back, rollback_source}
use Rattle.zp_tree.specs.Promote.{promotion_of, promoted}
use Rattle.zp_tree.specs.PromoteKeeps.{promoted-keeps}
use Rattle.zp_tree.proofs.Looks.{at-id, found-at, find-passes}
use Rattle.zp_tree.proofs.Edits.{edit-other, look-put, look-without}
use Rattle.zp_tree.proofs.Rising.{rises-put}
use Rattle.zp_tree.proofs.Found.{is-head, is-snapshot, head-found, snapshot-found}
use Rattle.zp_tree.proofs.Marking.{is-bookmark}
use Rattle.zp_changes.specs.Renaming.{renamed-keeps}
use Rattle.zp_changes.proofs.Fewer.{passing}
use Rattle.zp_changes.proofs.WithoutHead.{stays, look-left, fewer-marks, fewer-head}
use Rattle.zp_changes.proofs.Changed.{after, at-changed}
use Rattle.zp_props.specs.declared.setting.Setting.{Setting}
use Rattle.zp_props.specs.Settings.{settings_with, settings_without}
use Rattle.zp_tree.specs.Settable.{settings_of_item}
use Rattle.zp_tree.specs.SetProperty.{setting_on, item_with, tree_with}
use Rattle.zp_tree.specs.InheritProperty.{item_without}
use Rattle.zp_changes.proofs.SettingsLaw.{named-there, else-put}

-- ---- a record more

at-front : (rs : List Item) (x : Item) (i : ℕ) (r : Item) → at rs i ≡ Some r → at (rs ++ x ∷ []) i ≡ Some r
at-front [] x i r e = cc
at-front (y ∷ rs) x i r e = go (nat_eq (id_of y) i) (at-front rs x i r) e
  where
    go : (b : Bool) → (at rs i ≡ Some r → at (rs ++ x ∷ []) i ≡ Some r) → cond b (Some y) (at rs i) ≡ Some r → cond b (Some y) (at (rs ++ x ∷ []) i) ≡ Some r
    go true f e = e
    go false f e = f e

taken-stays : (t : Tree) (short : List ℕ) (txg : ℕ) (o : Option Head) (i : ℕ) (r : Item) → at t.records i ≡ Some r → at (option_map_or (λ d. added t (new_snapshot t.next short txg d)) o t).records i ≡ Some r
taken-stays t short txg None i r e = e
taken-stays t short txg (Some d) i r e = at-front t.records (new_snapshot t.next short txg d) i r e

cloned-stays : (t : Tree) (name : List ℕ) (txg : ℕ) (o : Option Snapshot) (i : ℕ) (r : Item) → at t.records i ≡ Some r → at (option_map_or (with_clone t name txg) o t).records i ≡ Some r
cloned-stays t name txg None i r e = e
cloned-stays t name txg (Some s) i r e = go (head_at t s.owner)
  where
    go : (o : Option Head) → at (option_map_or (λ d. added t (new_clone t.next name txg s d)) o t).records i ≡ Some r
    go None = e
    go (Some d) = at-front t.records (new_clone t.next name txg s d) i r e

marked-stays : (t : Tree) (source name : List ℕ) (o : Option Head) (i : ℕ) (r : Item) → at t.records i ≡ Some r → at (option_map_or (with_bookmark t source name) o t).records i ≡ Some r
marked-stays t source name None i r e = e
marked-stays t source name (Some d) i r e = go (point_named t source)
  where
    go : (o : Option PointInTime) → at (option_map_or (λ p. added t (new_bookmark t.next d.id (short_of name) p)) o t).records i ≡ Some r
    go None = e
    go (Some p) = at-front t.records (new_bookmark t.next d.id (short_of name) p) i r e

-- ---- a record in the place of another

replaced-stays : (t : Tree) (x q r : Item) (i : ℕ) → at t.records (id_of x) ≡ Some q → at t.records i ≡ Some r → (r ≡ q → ⊥) → at (replaced t x).records i ≡ Some r
replaced-stays t x q r i here there other = elim (cases_eq i (id_of x)) [
  | inl same ↦ let both : Some r ≡ Some q = sym there ∙ ap (at t.records) same ∙ here in absurd (other (let is : r ≡ q = cc in is))
  | inr apart ↦ ap (λ (look : ℕ → Option Item). look i) (look-put x t.records (ap is_some here)) ∙ edit-other (at t.records) (id_of x) (Some x) i apart ∙ there
]

-- a head that another takes the place of is called so
head-stays : (t : Tree) (name : List ℕ) (change : Head → Head) (o : Option Head) (i : ℕ) (r : Item) → IsWellFormed t → ((d : Head) → (change d).id ≡ d.id) → head_named t name ≡ o → at t.records i ≡ Some r → is_called t.records name r ≡ false →
    at (option_map_or (λ d. replaced t (item.Head (change d))) o t).records i ≡ Some r
head-stays t name change None i r w keeps f there other = there
head-stays t name change (Some d) i r w keeps f there other =
    replaced-stays t (item.Head (change d)) (item.Head d) r i
    (ap (at t.records) (keeps d) ∙ is-head (at t.records d.id) d (head-found t name d w f).0)
    there
    (λ is. true≢false (sym (find-passes (is_called t.records name) t.records (item.Head d) (is-head (named t.records name) d f)) ∙ sym (ap (is_called t.records name) is) ∙ other))

snapshot-stays : (t : Tree) (name : List ℕ) (change : Snapshot → Snapshot) (o : Option Snapshot) (i : ℕ) (r : Item) → IsWellFormed t → ((s : Snapshot) → (change s).id ≡ s.id) → snapshot_named t name ≡ o → at t.records i ≡ Some r → is_called t.records name r ≡ false →
    at (option_map_or (λ s. replaced t (item.Snap (change s))) o t).records i ≡ Some r
snapshot-stays t name change None i r w keeps f there other = there
snapshot-stays t name change (Some s) i r w keeps f there other =
    let found = snapshot-found t name s w f in
    replaced-stays t (item.Snap (change s)) (item.Snap s) r i (ap (at t.records) (keeps s) ∙ found.0) there (λ is. true≢false (sym found.1 ∙ sym (ap (is_called t.records name) is) ∙ other))

rolled-stays : (t : Tree) (name : List ℕ) (o : Option Head) (i : ℕ) (r : Item) → IsWellFormed t → head_named t name ≡ o → at t.records i ≡ Some r → is_called t.records name r ≡ false → at (option_map_or (rolled_back t) o t).records i ≡ Some r
rolled-stays t name None i r w f there other = there
rolled-stays t name (Some d) i r w f there other = go (rollback_source t d)
  where
    go : (o : Option Snapshot) → at (option_map_or (λ (s : Snapshot). replaced t (item.Head (record d { stamp = s.stamp }))) o t).records i ≡ Some r
    go None = there
    go (Some s) = head-stays t name (λ (e : Head). record e { stamp = s.stamp }) (Some d) i r w (λ e. refl) f there other

-- ---- a record less

-- the record of a name is another than one without it
other-id : (t : Tree) (name : List ℕ) (q r : Item) (i : ℕ) → IsWellFormed t → named t.records name ≡ Some q → at t.records i ≡ Some r → is_called t.records name r ≡ false → i ≡ id_of q → ⊥
other-id t name q r i w f there other same =
    let here : at t.records (id_of q) ≡ Some q = found-at (is_called t.records name) 0 t.next t.records q w.rises f in
    let both : Some r ≡ Some q = sym there ∙ ap (at t.records) same ∙ here in
    let is : r ≡ q = cc in
    true≢false (sym (find-passes (is_called t.records name) t.records q f) ∙ sym (ap (is_called t.records name) is) ∙ other)

removed-stays : (t : Tree) (j i : ℕ) (r : Item) → Rises 0 t.records t.next → at t.records i ≡ Some r → (i ≡ j → ⊥) → at (removed t j).records i ≡ Some r
removed-stays t j i r rises there apart = ap (λ (look : ℕ → Option Item). look i) (look-without t.next t.records j rises) ∙ edit-other (at t.records) j None i apart ∙ there

pub left-stays : (t : Tree) (owner i : ℕ) (r : Item) → Rises 0 t.records t.next → at t.records i ≡ Some r → is_bookmark_of owner r ≡ false → (i ≡ owner → ⊥) → at (without_head t owner).records i ≡ Some r
left-stays t owner i r rises there other apart =
    removed-stays (without_bookmarks t owner) owner i r (fewer-marks t owner rises).rises
    (look-left t owner i rises ∙ ap (passing (stays owner)) there ∙ ap (λ b. cond (not b) (Some r) None) other) apart

pub released-stays : (u : Tree) (o i : ℕ) (r : Item) → Rises 0 u.records u.next → at u.records i ≡ Some r → (nat_eq o (id_of r) && option_map_or (λ (s : Snapshot). s.deferred) (as_snapshot r) false) ≡ false → at (released u o).records i ≡ Some r
released-stays u o i r rises there other = go (snapshot_at u o) refl
  where
    kept : (s : Snapshot) → snapshot_at u o ≡ Some s → i ≡ o → is_released u s ≡ false
    kept s f same =
        let both : Some r ≡ Some (item.Snap s) = sym there ∙ ap (at u.records) same ∙ is-snapshot (at u.records o) s f in
        let is : r ≡ item.Snap s = cc in
        let id : o ≡ id_of r = sym same ∙ sym (at-id i u.records r there) in
        let late : s.deferred ≡ false = sym (ap (λ b. b && s.deferred) (eq-eqb o (id_of r) id)) ∙ sym (ap (λ (v : Item). nat_eq o (id_of r) && option_map_or (λ (s : Snapshot). s.deferred) (as_snapshot v) false) is) ∙ other in
        ap (λ b. (b && not (is_held s)) && not (has_clones u s)) late

    go : (p : Option Snapshot) → snapshot_at u o ≡ p → at (option_map_or (λ s. cond (is_released u s) (removed u o) u) p u).records i ≡ Some r
    go None f = there
    go (Some s) f = elim (cases_eq i o) [
      | inl same ↦ ap (λ b. at (cond b (removed u o) u).records i) (kept s f same) ∙ there
      | inr apart ↦ either (is_released u s) (removed-stays u o i r rises there apart)
    ]
      where
        either : (b : Bool) → at (removed u o).records i ≡ Some r → at (cond b (removed u o) u).records i ≡ Some r
        either true e = e
        either false e = there

or-parts : (b c : Bool) → (b || c) ≡ false → (b ≡ false) × (c ≡ false)
or-parts true c e = cc
or-parts false c e = (refl, e)

pub destroyed-stays : (f : Form) (t : Tree) (name : List ℕ) (defer : Bool) (i : ℕ) (r : Item) → IsWellFormed t → at t.records i ≡ Some r → goes f t name r ≡ false → at (destroyed f t name defer).records i ≡ Some r
destroyed-stays form.Snap t name defer i r w there other = go (snapshot_named t name) refl
  where
    go : (o : Option Snapshot) → snapshot_named t name ≡ o → at (option_map_or (snapshot_destroyed t defer) o t).records i ≡ Some r
    go None f = there
    go (Some s) f = either (defer && (is_held s || has_clones t s))
        (snapshot-stays t name (λ (v : Snapshot). record v { deferred = true }) (Some s) i r w (λ v. refl) f there other)
        (removed-stays t s.id i r w.rises there (other-id t name (item.Snap s) r i w (is-snapshot (named t.records name) s f) there other))
      where
        either : (b : Bool) → at (replaced t (item.Snap (record s { deferred = true }))).records i ≡ Some r → at (removed t s.id).records i ≡ Some r →
            at (cond b (replaced t (item.Snap (record s { deferred = true }))) (removed t s.id)).records i ≡ Some r
        either true e g = e
        either false e g = g
destroyed-stays form.Bookmark t name defer i r w there other = go (bookmark_named t name) refl
  where
    go : (o : Option Bookmark) → bookmark_named t name ≡ o → at (option_map_or (λ (m : Bookmark). removed t m.id) o t).records i ≡ Some r
    go None f = there
    go (Some m) f = removed-stays t m.id i r w.rises there (other-id t name (item.Mark m) r i w (is-bookmark (named t.records name) m f) there other)
destroyed-stays form.Head t name defer i r w there other = go (head_named t name) refl (or-parts (is_called t.records name r) (option_map_or (λ d. goes_with d r) (head_named t name) false) other).1
  where
    gone : (d : Head) → head_named t name ≡ Some d → is_bookmark_of d.id r ≡ false → at (without_head t d.id).records i ≡ Some r
    gone d f mark = left-stays t d.id i r w.rises there mark (other-id t name (item.Head d) r i w (is-head (named t.records name) d f) there (or-parts (is_called t.records name r) (option_map_or (λ d. goes_with d r) (head_named t name) false) other).0)

    origin : (d : Head) → at (without_head t d.id).records i ≡ Some r → (o : Option ℕ) → (is_id (id_of r) o && option_map_or (λ (s : Snapshot). s.deferred) (as_snapshot r) false) ≡ false → at (option_map_or (released (without_head t d.id)) o (without_head t d.id)).records i ≡ Some r
    origin d e None k = e
    origin d e (Some o) k = released-stays (without_head t d.id) o i r (fewer-head t d.id w.rises).rises e k

    go : (o : Option Head) → head_named t name ≡ o → option_map_or (λ d. goes_with d r) o false ≡ false → at (option_map_or (head_destroyed t) o t).records i ≡ Some r
    go None f k = there
    go (Some d) f k = let two = or-parts (is_bookmark_of d.id r) (is_id (id_of r) d.origin && option_map_or (λ (s : Snapshot). s.deferred) (as_snapshot r) false) k in origin d (gone d f two.0) d.origin two.1

-- ---- a user reference less

untagged-stays : (t : Tree) (name tag : List ℕ) (o : Option Snapshot) (i : ℕ) (r : Item) → IsWellFormed t → snapshot_named t name ≡ o → at t.records i ≡ Some r → is_called t.records name r ≡ false →
    at (option_map_or (λ s. released (replaced t (item.Snap (without_hold tag s))) s.id) o t).records i ≡ Some r
untagged-stays t name tag None i r w f there other = there
untagged-stays t name tag (Some s) i r w f there other =
    let apart : i ≡ s.id → ⊥ = other-id t name (item.Snap s) r i w (is-snapshot (named t.records name) s f) there other in
    let id : id_of r ≡ i = at-id i t.records r there in
    released-stays (replaced t (item.Snap (without_hold tag s))) s.id i r (rises-put 0 t.next (item.Snap (without_hold tag s)) t.records w.rises)
    (snapshot-stays t name (without_hold tag) (Some s) i r w (λ v. refl) f there other)
    (ap (λ b. b && option_map_or (λ (v : Snapshot). v.deferred) (as_snapshot r) false) (ne_eqb s.id (id_of r) (λ same. apart (sym (same ∙ id)))))

-- ---- a promotion

promoted-none : (m : Promotion) (r : Item) → takes_part m r ≡ false → promoted m r ≡ None
promoted-none m (item.Head d) e = both (nat_eq d.id m.clone) (nat_eq d.id m.owner) e
  where
    both : (b c : Bool) → (b || c) ≡ false → cond b (Some (item.Head (record d { origin = m.owner_origin }))) (cond c (Some (item.Head (record d { origin = Some m.origin }))) None) ≡ None
    both true c f = cc
    both false true f = cc
    both false false f = refl
promoted-none m (item.Snap s) e = ap (λ b. cond b (Some (item.Snap (record s { owner = m.clone }))) None) e
promoted-none m (item.Mark b) e = refl

promoted-stays : (t : Tree) (o : Option Promotion) (i : ℕ) (r : Item) → at t.records i ≡ Some r → option_map_or (λ (m : Promotion). takes_part m r) o false ≡ false →
    at (option_map_or (λ (m : Promotion). record t { records = changed (promoted m) t.records }) o t).records i ≡ Some r
promoted-stays t None i r there other = there
promoted-stays t (Some m) i r there other =
    at-changed (promoted m) (promoted-keeps m) t.records i ∙ ap (option_map (after (promoted m))) there ∙ ap (λ (o : Option Item). Some (unwrap_or o r)) (promoted-none m r other)

-- ---- a rename

renamed-none : (name to : List ℕ) (r : Item) → is_renamed name r ≡ false → renamed name to r ≡ None
renamed-none name to (item.Head d) e = ap (λ b. cond b (Some (item.Head (record d { name = moved name to d.name }))) None) e
renamed-none name to (item.Snap s) e = refl
renamed-none name to (item.Mark b) e = refl

renamed-stays : (t : Tree) (name to : List ℕ) (i : ℕ) (r : Item) → at t.records i ≡ Some r → is_renamed name r ≡ false → at (rename_change t name to).records i ≡ Some r
renamed-stays t name to i r there other =
    at-changed (renamed name to) (renamed-keeps name to) t.records i ∙ ap (option_map (after (renamed name to))) there ∙ ap (λ (o : Option Item). Some (unwrap_or o r)) (renamed-none name to r other)

-- ---- settings

set-stays : (t : Tree) (name property value : List ℕ) (o : Option Item) (i : ℕ) (r : Item) → IsWellFormed t → named t.records name ≡ o → at t.records i ≡ Some r → is_called t.records name r ≡ false → at (option_map_or (tree_with t property value) o t).records i ≡ Some r
set-stays t name property value None i r w f there other = there
set-stays t name property value (Some q) i r w f there other = go (setting_on q property value)
  where
    go : (s : Option Setting) → at (option_map_or (replaced t) (option_map (λ s. item_with s q) s) t).records i ≡ Some r
    go None = there
    go (Some s) = else-put t q (settings_with s (settings_of_item q)) i (named-there t name q w f) (other-id t name q r i w f there other) ∙ there

inherited-stays : (t : Tree) (name property : List ℕ) (o : Option Item) (i : ℕ) (r : Item) → IsWellFormed t → named t.records name ≡ o → at t.records i ≡ Some r → is_called t.records name r ≡ false → at (option_map_or (λ q. replaced t (item_without property q)) o t).records i ≡ Some r
inherited-stays t name property None i r w f there other = there
inherited-stays t name property (Some q) i r w f there other = else-put t q (settings_without property (settings_of_item q)) i (named-there t name q w f) (other-id t name q r i w f there other) ∙ there

-- ---- the law, a line for each command

pub others-stay : (t : Tree) (c : Command) (txg now i : ℕ) (r : Item) → IsWellFormed t → at t.records i ≡ Some r → names_record t c r ≡ false → at (change_of t c txg now).records i ≡ Some r
others-stay t (command.Create name) txg now i r w there other = at-front t.records _ i r there
others-stay t (command.CreateVolume name size) txg now i r w there other = at-front t.records _ i r there
others-stay t (command.Snapshot name) txg now i r w there other = taken-stays t (short_of name) txg (head_named t (head_of name)) i r there
others-stay t (command.Clone source name) txg now i r w there other = cloned-stays t name txg (snapshot_named t source) i r there
others-stay t (command.Bookmark source name) txg now i r w there other = marked-stays t source name (head_named t (head_of name)) i r there
others-stay t (command.Mount name) txg now i r w there other = head-stays t name (λ (d : Head). record d { mounted = true }) (head_named t name) i r w (λ d. refl) refl there other
others-stay t (command.Unmount name) txg now i r w there other = head-stays t name (λ (d : Head). record d { mounted = false }) (head_named t name) i r w (λ d. refl) refl there other
others-stay t (command.Stamp name value) txg now i r w there other = head-stays t name (λ (d : Head). record d { stamp = value }) (head_named t name) i r w (λ d. refl) refl there other
others-stay t (command.Rollback name) txg now i r w there other = rolled-stays t name (head_named t name) i r w refl there other
others-stay t (command.RenameSnapshot name old new) txg now i r w there other = snapshot-stays t (snapshot_name name old) (λ (s : Snapshot). record s { short = new }) (snapshot_named t (snapshot_name name old)) i r w (λ s. refl) refl there other
others-stay t (command.Destroy name defer) txg now i r w there other = destroyed-stays (form_of name) t name defer i r w there other
others-stay t (command.Promote name) txg now i r w there other = promoted-stays t (promotion_of t name) i r there other
others-stay t (command.Rename name to) txg now i r w there other = renamed-stays t name to i r there other
others-stay t (command.Set name property value) txg now i r w there other = set-stays t name property value (named t.records name) i r w refl there other
others-stay t (command.Inherit name property) txg now i r w there other = inherited-stays t name property (named t.records name) i r w refl there other
others-stay t (command.Hold name tag) txg now i r w there other = snapshot-stays t name (with_hold tag now) (snapshot_named t name) i r w (λ s. refl) refl there other
others-stay t (command.Release name tag) txg now i r w there other = untagged-stays t name tag (snapshot_named t name) i r w refl there other
