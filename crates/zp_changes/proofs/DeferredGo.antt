-- A deferred snapshot is gone after a command exactly where that took the last of its holds and clones.
use Rattle.std.proofs.Common.{◌≡◌, ℕ, ◌==◌, List, [], ◌∷◌, length, nat_lt, Bool, true, false, not, ◌&&◌, ◌||◌, cond, Option, Some, None, is_none, is_some, find, refl, sym, ap, ◌∙◌, arith, inl, inr, ◌⊎◌, option_map, option_and_then}
use Rattle.std.specs.List.{list_any}
use Rattle.std.specs.Option.{option_map_or}
use Rattle.std.proofs.lemmas.Bool.{cases_Bool, cases_eq, eqb-true, eq-eqb, ne_eqb, true≢false}
use Rattle.std.proofs.lemmas.Bool.Decides.{nat_tests}
use Rattle.zp_names.specs.Names.{is_mark, is_head}
use Rattle.zp_names.specs.NameParts.{form_by, form_of, snapshot_name}
use Rattle.zp_names.specs.declared.form.Form.{Form}
use Rattle.zp_names.specs.declared.form.Form.TheVariants as form
use Rattle.zp_names.specs.declared.command.Command.{Command}
use Rattle.zp_names.specs.declared.command.Command.TheVariants as command
use Rattle.zp_tree.specs.declared.item.Item.{Item}
use Rattle.zp_tree.specs.declared.item.Item.TheVariants as item
use Rattle.zp_tree.specs.declared.item.Head.{Head}
use Rattle.zp_tree.specs.declared.item.Snapshot.{Snapshot}
use Rattle.zp_tree.specs.declared.item.Hold.{Hold}
use Rattle.zp_tree.specs.declared.promotion.Promotion.{Promotion}
use Rattle.zp_tree.specs.Tree.{Tree, at, has_id, id_of, as_head, as_snapshot, as_bookmark, Rises, is_called, named, head_named, snapshot_named, bookmark_named, snapshot_at, put, replaced, removed, changed}
use Rattle.zp_tree.specs.WellFormed.{Look, head_in, HasClone, IsHead, IsWellFormed}
use Rattle.zp_tree.specs.Rows.{passed, first_row}
use Rattle.zp_tree.specs.Commands.{check_of, change_of}
use Rattle.zp_tree.specs.NextByName.{is_id}
use Rattle.zp_tree.specs.Dependents.{is_clone_of, is_held, has_clones}
use Rattle.zp_tree.specs.Destroy.{destroy_rows_of, without_head, is_released, released, snapshot_destroyed, head_destroyed, destroyed}
use Rattle.zp_tree.specs.PlaceHold.{with_hold}
use Rattle.zp_tree.specs.ReleaseHold.{release_change, without_hold}
use Rattle.zp_tree.specs.Rename.{renamed}
use Rattle.zp_tree.specs.Promote.{promotion_of, promoted}
use Rattle.zp_tree.specs.PromoteKeeps.{promoted-keeps}
use Rattle.zp_tree.specs.Rollback.{rolled_back, rollback_source}
use Rattle.zp_tree.specs.SetProperty.{item_set, tree_with}
use Rattle.zp_tree.specs.InheritProperty.{item_without}
use Rattle.zp_tree.proofs.Clear.{clear, not-false}
use Rattle.zp_tree.proofs.Edits.{edit-here, look-put, look-without}
use Rattle.zp_tree.proofs.Rising.{rises-put}
use Rattle.zp_tree.proofs.Found.{is-head, head-found}
use Rattle.zp_tree.proofs.FullNames.{finds-named}
use Rattle.zp_changes.specs.Renaming.{renamed-keeps}
use Rattle.zp_changes.specs.Deferral.{is_last_clone, takes_the_last}
use Rattle.zp_changes.proofs.Changed.{after, at-changed}
use Rattle.zp_changes.proofs.DestroyLaw.{no-clone}
use Rattle.zp_changes.proofs.WithoutHead.{fewer-head}
use Rattle.zp_changes.proofs.OthersStay.{left-stays, released-stays, destroyed-stays, others-stay}

-- ---- what is there stays there, whatever becomes of it

put-there : (x : Item) (rs : List Item) (i : ℕ) → is_none (at (put x rs) i) ≡ is_none (at rs i)
put-there x [] i = refl
put-there x (r ∷ rs) i = elim (cases_Bool (has_id (id_of x) r)) [
  | inl here ↦ ap (λ b. is_none (at (cond b (x ∷ rs) (r ∷ put x rs)) i)) here ∙ ap (λ n. is_none (cond (n == i) (Some x) (at rs i))) (sym (eqb-true (id_of r) (id_of x) here)) ∙ first (has_id i r) (at rs i)
  | inr there ↦ ap (λ b. is_none (at (cond b (x ∷ rs) (r ∷ put x rs)) i)) there ∙ later (has_id i r) (at (put x rs) i) (at rs i) (put-there x rs i)
]
  where
    first : (b : Bool) (o : Option Item) → is_none (cond b (Some x) o) ≡ is_none (cond b (Some r) o)
    first true o = refl
    first false o = refl

    later : (b : Bool) (o p : Option Item) → is_none o ≡ is_none p → is_none (cond b (Some r) o) ≡ is_none (cond b (Some r) p)
    later true o p e = refl
    later false o p e = e

option-there : {A : Type 0} (t : Tree) (f : A → Item) (o : Option A) (i : ℕ) → is_none (at (option_map_or (λ a. replaced t (f a)) o t).records i) ≡ is_none (at t.records i)
option-there t f None i = refl
option-there t f (Some a) i = put-there (f a) t.records i

rolled-there : (t : Tree) (o : Option Head) (i : ℕ) → is_none (at (option_map_or (rolled_back t) o t).records i) ≡ is_none (at t.records i)
rolled-there t None i = refl
rolled-there t (Some d) i = option-there t (λ (s : Snapshot). item.Head (record d { stamp = s.stamp })) (rollback_source t d) i

set-there : (t : Tree) (property value : List ℕ) (o : Option Item) (i : ℕ) → is_none (at (option_map_or (tree_with t property value) o t).records i) ≡ is_none (at t.records i)
set-there t property value None i = refl
set-there t property value (Some q) i = go (item_set q property value)
  where
    go : (o : Option Item) → is_none (at (option_map_or (replaced t) o t).records i) ≡ is_none (at t.records i)
    go None = refl
    go (Some x) = put-there x t.records i

promoted-there : (t : Tree) (o : Option Promotion) (i : ℕ) (r : Item) → at t.records i ≡ Some r → is_none (at (option_map_or (λ (m : Promotion). record t { records = changed (promoted m) t.records }) o t).records i) ≡ false
promoted-there t None i r there = ap is_none there
promoted-there t (Some m) i r there = ap is_none (at-changed (promoted m) (promoted-keeps m) t.records i ∙ ap (option_map (after (promoted m))) there)

-- ---- a snapshot that is kept for its holds and clones

-- it goes exactly where it is released
released-gone : (u : Tree) (v : Snapshot) → Rises 0 u.records u.next → at u.records v.id ≡ Some (item.Snap v) → is_none (at (released u v.id).records v.id) ≡ is_released u v
released-gone u v rises there =
    ap (λ (o : Option Snapshot). is_none (at (option_map_or (λ x. cond (is_released u x) (removed u v.id) u) o u).records v.id)) (ap (option_and_then as_snapshot) there) ∙ either (is_released u v)
  where
    either : (b : Bool) → is_none (at (cond b (removed u v.id) u).records v.id) ≡ b
    either true = ap is_none (ap (λ (look : Look). look v.id) (look-without u.next u.records v.id rises) ∙ edit-here (at u.records) v.id None)
    either false = ap is_none there

and-false : (b : Bool) → (b && false) ≡ false
and-false true = refl
and-false false = refl

-- what has the name is what is found under it
called-named : (t : Tree) (name : List ℕ) (s : Snapshot) → IsWellFormed t → at t.records s.id ≡ Some (item.Snap s) → is_called t.records name (item.Snap s) ≡ true → named t.records name ≡ Some (item.Snap s)
called-named t name s w there called = sym (finds-named t name s.id w (item.Snap s, there, called)) ∙ there

-- ---- a hold goes

any-put : (test : Item → Bool) (x r : Item) (rs : List Item) → at rs (id_of x) ≡ Some r → test x ≡ test r → list_any test (put x rs) ≡ list_any test rs
any-put test x r [] e h = cc
any-put test x r (y ∷ ys) e h = elim (cases_Bool (has_id (id_of x) y)) [
  | inl here ↦
      let is : Some y ≡ Some r = sym (ap (λ b. cond b (Some y) (at ys (id_of x))) here) ∙ e in
      let it : y ≡ r = cc in
      ap (λ b. list_any test (cond b (x ∷ ys) (y ∷ put x ys))) here ∙ ap (λ b. b || list_any test ys) (h ∙ sym (ap test it))
  | inr other ↦ ap (λ b. list_any test (cond b (x ∷ ys) (y ∷ put x ys))) other ∙ ap (λ b. test y || b) (any-put test x r ys (sym (ap (λ b. cond b (Some y) (at ys (id_of x))) other) ∙ e) h)
]

module _ (t : Tree) (name : List ℕ) (s : Snapshot) (w : IsWellFormed t) (there : at t.records s.id ≡ Some (item.Snap s)) (deferred : s.deferred ≡ true) where
  untagged-gone : (tag : List ℕ) → snapshot_named t name ≡ Some s → is_none (at (release_change t name tag).records s.id) ≡ (not (is_held (without_hold tag s)) && not (has_clones t s))
  untagged-gone tag f =
      let left = without_hold tag s in
      let u = replaced t (item.Snap left) in
      let here : at u.records s.id ≡ Some (item.Snap left) = ap (λ (look : Look). look s.id) (look-put (item.Snap left) t.records (ap is_some there)) ∙ edit-here (at t.records) s.id (Some (item.Snap left)) in
      ap (λ (o : Option Snapshot). is_none (at (option_map_or (λ (v : Snapshot). released (replaced t (item.Snap (without_hold tag v))) v.id) o t).records s.id)) f
      ∙ released-gone u left (rises-put 0 t.next (item.Snap left) t.records w.rises) here
      ∙ ap (λ b. b && not (is_held left) && not (has_clones u left)) deferred
      ∙ ap (λ b. not (is_held left) && not b) (any-put (is_clone_of s.id) (item.Snap left) (item.Snap s) t.records there refl)

  release-goes : (tag : List ℕ) → is_none (at (release_change t name tag).records s.id) ≡ takes_the_last t (command.Release name tag) s
  release-goes tag = elim (cases_Bool (is_called t.records name (item.Snap s))) [
    | inl called ↦ untagged-gone tag (ap (option_and_then as_snapshot) (called-named t name s w there called)) ∙ sym (ap (λ b. b && not (is_held (without_hold tag s)) && not (has_clones t s)) called)
    | inr other ↦ ap is_none (others-stay t (command.Release name tag) 0 0 s.id (item.Snap s) w there other) ∙ sym (ap (λ b. b && not (is_held (without_hold tag s)) && not (has_clones t s)) other)
  ]

  -- ---- a head goes

  of-origin : (d : Head) → head_in (at t.records) d.id ≡ Some d → (o : Option ℕ) → is_none (at (option_map_or (released (without_head t d.id)) o (without_head t d.id)).records s.id) ≡ (not (is_held s) && (is_id s.id o && not (has_clones (without_head t d.id) s)))
  of-origin d head o =
      let apart : s.id ≡ d.id → ⊥ = (λ same. let both : Some (item.Snap s) ≡ Some (item.Head d) = sym there ∙ ap (at t.records) same ∙ is-head (at t.records d.id) d head in cc) in
      go o (left-stays t d.id s.id (item.Snap s) w.rises there refl apart) (fewer-head t d.id w.rises).rises
    where
      v : Tree
      v = without_head t d.id

      go : (o : Option ℕ) → at v.records s.id ≡ Some (item.Snap s) → Rises 0 v.records v.next → is_none (at (option_map_or (released v) o v).records s.id) ≡ (not (is_held s) && (is_id s.id o && not (has_clones v s)))
      go None left rises = ap is_none left ∙ sym (and-false (not (is_held s)))
      go (Some o) left rises = elim (cases_eq o s.id) [
        | inl same ↦
            ap (λ k. is_none (at (released v k).records s.id)) same ∙ released-gone v s rises left ∙ ap (λ b. b && not (is_held s) && not (has_clones v s)) deferred
            ∙ sym (ap (λ b. not (is_held s) && (b && not (has_clones v s))) (eq-eqb o s.id same))
        | inr other ↦
            ap is_none (released-stays v o s.id (item.Snap s) rises left (ap (λ b. b && s.deferred) (ne_eqb o s.id other)))
            ∙ sym (ap (λ b. not (is_held s) && (b && not (has_clones v s))) (ne_eqb o s.id other) ∙ and-false (not (is_held s)))
      ]

  head-goes : (defer : Bool) → first_row (destroy_rows_of form.Head t name defer) ≡ passed → is_none (at (destroyed form.Head t name defer).records s.id) ≡ takes_the_last t (command.Destroy name defer) s
  head-goes defer e = go (head_named t name) refl
    where
      go : (o : Option Head) → head_named t name ≡ o → is_none (at (option_map_or (head_destroyed t) o t).records s.id) ≡ (not (is_held s) && option_map_or (is_last_clone t s) o false)
      go None f = ap is_none there ∙ sym (and-false (not (is_held s)))
      go (Some d) f = of-origin d (head-found t name d w f).0 d.origin

  -- ---- what is no head goes

  no-head : is_head name ≡ false → head_named t name ≡ None
  no-head marked = go (head_named t name) refl
    where
      go : (o : Option Head) → head_named t name ≡ o → o ≡ None
      go None f = refl
      go (Some d) f =
          let found = head-found t name d w f in
          let good : IsHead d = w.agrees.records d.id (item.Head d) (is-head (at t.records d.id) d found.0) in
          absurd (true≢false (sym (sym (ap is_head found.1) ∙ good.form) ∙ marked))

  not-head : (form_of name ≡ form.Head → ⊥) → is_head name ≡ false
  not-head other = go (find is_mark name) refl other
    where
      go : (o : Option ℕ) → find is_mark name ≡ o → (form_by o ≡ form.Head → ⊥) → is_head name ≡ false
      go None f k = absurd (k refl)
      go (Some b) f k = ap is_none f

  takes-none : (defer : Bool) → (form_of name ≡ form.Head → ⊥) → false ≡ takes_the_last t (command.Destroy name defer) s
  takes-none defer other = sym (ap (λ (o : Option Head). not (is_held s) && option_map_or (is_last_clone t s) o false) (no-head (not-head other)) ∙ and-false (not (is_held s)))

  -- a hold or a clone keeps it
  kept : (is_held s || has_clones t s) ≡ true
  kept = elim (w.agrees.deferred s.id s (ap (option_and_then as_snapshot) there) deferred) [
    | inl held ↦ ap (λ b. b || has_clones t s) (some-held s.holds held)
    | inr clone ↦ elim (cases_Bool (has_clones t s)) [
      | inl some ↦ ap (λ b. is_held s || b) some ∙ or-true (is_held s)
      | inr none ↦ absurd (no-clone t s none clone.id clone.head clone.there clone.origin)
    ]
  ]
    where
      some-held : (holds : List Hold) → ¬ (holds ≡ []) → nat_lt 0 (length holds) ≡ true
      some-held [] h = absurd (h refl)
      some-held (x ∷ xs) h = grind (arith, nat_tests)

      or-true : (b : Bool) → (b || true) ≡ true
      or-true true = refl
      or-true false = refl

  marked-stays : (defer : Bool) → (defer ≡ false → is_held s ≡ false) → (defer ≡ false → has_clones t s ≡ false) → is_none (at (snapshot_destroyed t defer s).records s.id) ≡ false
  marked-stays true held clones = ap (λ b. is_none (at (cond b (replaced t (item.Snap (record s { deferred = true }))) (removed t s.id)).records s.id)) kept ∙ put-there (item.Snap (record s { deferred = true })) t.records s.id ∙ ap is_none there
  marked-stays false held clones =
      let no : (false || false) ≡ true = sym (ap (λ b. b || has_clones t s) (held refl) ∙ ap (λ b. false || b) (clones refl)) ∙ kept in cc

  snapshot-stays : (defer : Bool) → first_row (destroy_rows_of form.Snap t name defer) ≡ passed → is_none (at (destroyed form.Snap t name defer).records s.id) ≡ false
  snapshot-stays defer e = elim (cases_Bool (is_called t.records name (item.Snap s))) [
    | inl called ↦
        let rows = clear (destroy_rows_of form.Snap t name defer) refl e in
        let f : snapshot_named t name ≡ Some s = ap (option_and_then as_snapshot) (called-named t name s w there called) in
        ap (λ (o : Option Snapshot). is_none (at (option_map_or (snapshot_destroyed t defer) o t).records s.id)) f
        ∙ marked-stays defer
        (λ plain. sym (ap (λ b. not b && option_map_or is_held (snapshot_named t name) false) plain ∙ ap (λ (o : Option Snapshot). option_map_or is_held o false) f) ∙ rows.1.0)
        (λ plain. sym (ap (λ b. not b && option_map_or (has_clones t) (snapshot_named t name) false) plain ∙ ap (λ (o : Option Snapshot). option_map_or (has_clones t) o false) f) ∙ rows.1.1.0)
    | inr other ↦ ap is_none (destroyed-stays form.Snap t name defer s.id (item.Snap s) w there other)
  ]

  bookmark-stays : (defer : Bool) → first_row (destroy_rows_of form.Bookmark t name defer) ≡ passed → is_none (at (destroyed form.Bookmark t name defer).records s.id) ≡ false
  bookmark-stays defer e = elim (cases_Bool (is_called t.records name (item.Snap s))) [
    | inl called ↦
        let rows = clear (destroy_rows_of form.Bookmark t name defer) refl e in
        let gone : bookmark_named t name ≡ None = ap (option_and_then as_bookmark) (called-named t name s w there called) in
        absurd (true≢false (sym (ap (λ o. not (is_some o)) gone) ∙ rows.1.0))
    | inr other ↦ ap is_none (destroyed-stays form.Bookmark t name defer s.id (item.Snap s) w there other)
  ]

  destroy-goes : (defer : Bool) (f : Form) → form_of name ≡ f → first_row (destroy_rows_of f t name defer) ≡ passed → is_none (at (destroyed f t name defer).records s.id) ≡ takes_the_last t (command.Destroy name defer) s
  destroy-goes defer form.Head f e = head-goes defer e
  destroy-goes defer form.Snap f e = snapshot-stays defer e ∙ takes-none defer (λ h. let no : form.Snap ≡ form.Head = sym f ∙ h in cc)
  destroy-goes defer form.Bookmark f e = bookmark-stays defer e ∙ takes-none defer (λ h. let no : form.Bookmark ≡ form.Head = sym f ∙ h in cc)

-- ---- the law, a line for each command

pub deferred-go : (t : Tree) (c : Command) (txg now : ℕ) (s : Snapshot) → IsWellFormed t → check_of t c ≡ passed → at t.records s.id ≡ Some (item.Snap s) → s.deferred ≡ true → is_none (at (change_of t c txg now).records s.id) ≡ takes_the_last t c s
deferred-go t (command.Create name) txg now s w e there d = ap is_none (others-stay t (command.Create name) txg now s.id (item.Snap s) w there refl)
deferred-go t (command.CreateVolume name size) txg now s w e there d = ap is_none (others-stay t (command.CreateVolume name size) txg now s.id (item.Snap s) w there refl)
deferred-go t (command.Snapshot name) txg now s w e there d = ap is_none (others-stay t (command.Snapshot name) txg now s.id (item.Snap s) w there refl)
deferred-go t (command.Clone source name) txg now s w e there d = ap is_none (others-stay t (command.Clone source name) txg now s.id (item.Snap s) w there refl)
deferred-go t (command.Bookmark source name) txg now s w e there d = ap is_none (others-stay t (command.Bookmark source name) txg now s.id (item.Snap s) w there refl)
deferred-go t (command.Mount name) txg now s w e there d = option-there t (λ (h : Head). item.Head (record h { mounted = true })) (head_named t name) s.id ∙ ap is_none there
deferred-go t (command.Unmount name) txg now s w e there d = option-there t (λ (h : Head). item.Head (record h { mounted = false })) (head_named t name) s.id ∙ ap is_none there
deferred-go t (command.Stamp name value) txg now s w e there d = option-there t (λ (h : Head). item.Head (record h { stamp = value })) (head_named t name) s.id ∙ ap is_none there
deferred-go t (command.Rollback name) txg now s w e there d = rolled-there t (head_named t name) s.id ∙ ap is_none there
deferred-go t (command.RenameSnapshot name old new) txg now s w e there d = option-there t (λ (u : Snapshot). item.Snap (record u { short = new })) (snapshot_named t (snapshot_name name old)) s.id ∙ ap is_none there
deferred-go t (command.Destroy name defer) txg now s w e there d = destroy-goes t name s w there d defer (form_of name) refl e
deferred-go t (command.Promote name) txg now s w e there d = promoted-there t (promotion_of t name) s.id (item.Snap s) there
deferred-go t (command.Rename name to) txg now s w e there d = ap is_none (at-changed (renamed name to) (renamed-keeps name to) t.records s.id ∙ ap (option_map (after (renamed name to))) there)
deferred-go t (command.Set name property value) txg now s w e there d = set-there t property value (named t.records name) s.id ∙ ap is_none there
deferred-go t (command.Inherit name property) txg now s w e there d = option-there t (item_without property) (named t.records name) s.id ∙ ap is_none there
deferred-go t (command.Hold name tag) txg now s w e there d = option-there t (λ (u : Snapshot). item.Snap (with_hold tag now u)) (snapshot_named t name) s.id ∙ ap is_none there
deferred-go t (command.Release name tag) txg now s w e there d = release-goes t name s w there d tag
