-- After a rename the rename back passes its check, where no name was too long before.
use Rattle.std.proofs.Common.{◌≡◌, ℕ, ◌+◌, List, [], ◌∷◌, ◌++◌, length, Bool, true, false, not, ◌&&◌, ◌||◌, bytes_eq, nat_lt, Option, Some, None, is_some, refl, sym, ap, subst, ◌∙◌, arith, inl, inr, option_map, option_and_then, append-nil, length-append}
use Rattle.std.specs.Option.{option_map_or}
use Rattle.std.specs.List.{list_any}
use Rattle.std.proofs.lemmas.Bool.{cases_Bool, and_from, both_ways, or_left, or_right}
use Rattle.std.proofs.lemmas.Slice.Eq.{bytes_eq-Decides}
use Rattle.zp_names.specs.Names.{is_head, is_valid_name, parts_of}
use Rattle.zp_names.specs.NameParts.{parent_of, is_pool, is_below}
use Rattle.zp_names.specs.NameMoves.{is_at_or_below, moved, name_after, outgrows}
use Rattle.zp_names.proofs.Moving.{beyond, below_cut, moved_at, parent_cut, is_head-back}
use Rattle.zp_tree.specs.declared.item.Item.{Item}
use Rattle.zp_tree.specs.declared.item.Item.TheVariants as item
use Rattle.zp_tree.specs.declared.item.Head.{Head}
use Rattle.zp_tree.specs.Tree.{Tree, at, id_of, as_head, Rises, full_name, is_called, named, exists, head_named, parent_in, changed}
use Rattle.zp_tree.specs.Items.{is_volume, is_volume_kind}
use Rattle.zp_tree.specs.Rows.{passed}
use Rattle.zp_tree.specs.WellFormed.{head_in, HasParent, IsWellFormed}
use Rattle.zp_tree.specs.Rename.{would_outgrow, rename_rows, rename_check, renamed, rename_change}
use Rattle.zp_tree.proofs.Edits.{at-here}
use Rattle.zp_tree.proofs.Looks.{at-later, found-at, find-passes}
use Rattle.zp_tree.proofs.Found.{head-found}
use Rattle.zp_tree.proofs.FullNames.{owned, called}
use Rattle.zp_changes.specs.Renaming.{renamed-keeps}
use Rattle.zp_changes.specs.RenameLaws.{NamesFit}
use Rattle.zp_changes.proofs.Changed.{after, at-changed}
use Rattle.zp_changes.proofs.Promoted.{from-map}
use Rattle.zp_changes.proofs.PromoteBack.{clears, head-named}
use Rattle.zp_changes.proofs.Renamed.{new_head, after-head, heads-after, head-now}
use Rattle.zp_changes.proofs.RenameFacts.{Passed, passed-rename, below-by-parent, no-pool, after-moved, after-still}
use Rattle.zp_changes.proofs.RenameBack.{moved-back, under-new, outside-new}
use Rattle.zp_changes.proofs.RenameLaw.{rename-well}

-- ---- names

self-under : (n : List ℕ) → is_at_or_below n n ≡ true
self-under n = or_left (bytes_eq n n) (is_below n n) ((bytes_eq-Decides n n).1 refl)

-- the dataset itself gets the new name
self-after : (name to : List ℕ) → name_after name to name ≡ to
self-after name to = after-moved name to name (self-under name) ∙ moved_at name to name [] (sym (append-nil name)) ∙ append-nil to

-- no name is below itself
no-self : (n : List ℕ) → is_below n n ≡ true → ⊥
no-self n e = let cut = below_cut n n e in let size = ap length cut.1 in omega (arith, length-append n (47 ∷ cut.0))

-- a name with a parent is no pool's
parent-no-pool : (n p : List ℕ) → parent_of n ≡ Some p → is_pool n ≡ false
parent-no-pool n p e = elim (cases_Bool (is_pool n)) [
  | inl pool ↦ let cut = parent_cut n p e in absurd (no-pool p cut.0 (sym (ap is_pool cut.1) ∙ pool))
  | inr other ↦ other
]

-- ---- what has a name without a mark is a head

record IsHeadOf (t : Tree) (name : List ℕ) : Type 0 where
  id : ℕ
  head : Head
  there : head_in (at t.records) id ≡ Some head
  is : head.name ≡ name

unmarked : (a s name : List ℕ) → is_head name ≡ true → a ++ 64 ∷ s ≡ name → ⊥
unmarked a s name h e = let back : is_head (64 ∷ s) ≡ true = is_head-back a (64 ∷ s) (ap is_head e ∙ h) in cc

unmarked-too : (a s name : List ℕ) → is_head name ≡ true → a ++ 35 ∷ s ≡ name → ⊥
unmarked-too a s name h e = let back : is_head (35 ∷ s) ≡ true = is_head-back a (35 ∷ s) (ap is_head e ∙ h) in cc

there-head : (t : Tree) (name : List ℕ) → IsWellFormed t → is_head name ≡ true → exists t name ≡ true → IsHeadOf t name
there-head t name w form e = go (named t.records name) refl e
  where
    by-kind : (r : Item) → at t.records (id_of r) ≡ Some r → full_name t.records r ≡ Some name → IsHeadOf t name
    by-kind (item.Head d) h f = record { id = d.id; head = d; there = ap (option_and_then as_head) h; is = cc }
    by-kind (item.Snap s) h f = let o = owned t s.owner name s.short 64 w f in absurd (unmarked o.head.name s.short name form o.is)
    by-kind (item.Mark m) h f = let o = owned t m.owner name m.short 35 w f in absurd (unmarked-too o.head.name m.short name form o.is)

    go : (o : Option Item) → named t.records name ≡ o → is_some o ≡ true → IsHeadOf t name
    go None f s = cc
    go (Some r) f s = by-kind r (found-at (is_called t.records name) 0 t.next t.records r w.rises f) (called name (full_name t.records r) (find-passes (is_called t.records name) t.records r f))

-- ---- no name grows too long on the way back

-- a test of the changed list, where it says of each record what another says of the old one
any-changed : (f : Item → Option Item) (p p' : Item → Bool) (low n : ℕ) (rs : List Item) → Rises low rs n → ((i : ℕ) (r : Item) → at rs i ≡ Some r → p' (after f r) ≡ p r) → list_any p' (changed f rs) ≡ list_any p rs
any-changed f p p' low n [] rises same = refl
any-changed f p p' low n (r ∷ rs) rises same =
    ap (λ b. b || list_any p' (changed f rs)) (same (id_of r) r (at-here r rs (id_of r) refl))
    ∙ ap (λ b. p r || b) (any-changed f p p' (id_of r + 1) n rs rises.1 (λ i u e. same i u (at-later r n rs i u rises.1 e)))

-- too long or too deep
abbrev is_big : List ℕ → ℕ → Bool
is_big n more = nat_lt 255 (length n + more) || nat_lt 50 (length (parts_of n))

grown-back : (t : Tree) (name to : List ℕ) (i : ℕ) (d : Head) (more : ℕ) → IsWellFormed t → Passed t name to → head_in (at t.records) i ≡ Some d → outgrows to name (name_after name to d.name) more ≡ outgrows name name d.name more
grown-back t name to i d more w q h = elim (cases_Bool (is_at_or_below d.name name)) [
  | inl under ↦
      ap (λ n. outgrows to name n more) (after-moved name to d.name under)
      ∙ ap (λ b. b && is_big (moved to name (moved name to d.name)) more) (under-new name to d.name q.name_form q.to_form under)
      ∙ ap (λ n. is_big n more) (moved-back name to d.name under)
      ∙ sym (ap (λ b. b && is_big (moved name name d.name) more) under ∙ ap (λ n. is_big n more) (moved-same d.name under))
  | inr beside ↦
      ap (λ n. outgrows to name n more) (after-still name to d.name beside)
      ∙ ap (λ b. b && is_big (moved to name d.name) more) (outside-new t to i d w q.free h)
      ∙ sym (ap (λ b. b && is_big (moved name name d.name) more) beside)
]
  where
    moved-same : (x : List ℕ) → is_at_or_below x name ≡ true → moved name name x ≡ x
    moved-same x under = let b = beyond x name under in moved_at name name x b.rest b.is ∙ sym b.is

-- ---- the law

pub rename-back-passes : (t : Tree) (name to : List ℕ) → IsWellFormed t → is_valid_name to ≡ true → rename_check t name to ≡ passed → NamesFit t name → rename_check (rename_change t name to) to name ≡ passed
rename-back-passes t name to w valid e fit = clears (rename_rows now to name) (form, (there, (no_pool, (free, (outside, (has_parent, (no_volume, (fits, tt))))))))
  where
    now : Tree
    now = rename_change t name to

    w-now : IsWellFormed now
    w-now = rename-well t name to w valid e

    q : Passed t name to
    q = passed-rename t name to w e

    same : (i : ℕ) → at now.records i ≡ option_map (after (renamed name to)) (at t.records i)
    same i = at-changed (renamed name to) (renamed-keeps name to) t.records i

    d : IsHeadOf t name
    d = go (head_named t name) refl q.there
      where
        go : (o : Option Head) → head_named t name ≡ o → is_some o ≡ true → IsHeadOf t name
        go None f s = cc
        go (Some h) f s = let found = head-found t name h w f in record { id = h.id; head = h; there = found.0; is = found.1 }

    form : not (is_head to && is_head name) ≡ false
    form = ap not (and_from (is_head to) (is_head name) q.to_form q.name_form)

    there : not (is_some (head_named now to)) ≡ false
    there =
        let named-to : (new_head name to d.head).name ≡ to = ap (name_after name to) d.is ∙ self-after name to in
        let found = head-named now d.id (new_head name to d.head) w-now (head-now (at t.records) (at now.records) name to same d.id d.head d.there) in
        ap (λ n. not (is_some (head_named now n))) (sym named-to) ∙ ap (λ (o : Option Head). not (is_some o)) found

    no_pool : is_pool to ≡ false
    no_pool = parent-no-pool to q.parent.parent q.parent.is

    free : exists now name ≡ false
    free = elim (cases_Bool (exists now name)) [
      | inl taken ↦ absurd (not-taken (there-head now name w-now q.name_form taken))
      | inr gone ↦ gone
    ]
      where
        not-taken : IsHeadOf now name → ⊥
        not-taken x =
            let old = from-map (new_head name to) (head_in (at t.records) x.id) x.head (sym (ap (option_and_then as_head) (same x.id) ∙ heads-after name to (at t.records x.id)) ∙ x.there) in
            let called-so : name_after name to old.value.name ≡ name = ap (λ (v : Head). v.name) old.is ∙ x.is in
            elim (cases_Bool (is_at_or_below old.value.name name)) [
              | inl under ↦ both_ways (is_at_or_below d.head.name to) (outside-new t to d.id d.head w q.free d.there)
                  (ap (λ n. is_at_or_below n to) (d.is ∙ sym called-so ∙ after-moved name to old.value.name under) ∙ under-new name to old.value.name q.name_form q.to_form under)
              | inr beside ↦ both_ways (is_at_or_below old.value.name name) beside
                  (ap (λ n. is_at_or_below n name) (sym (after-still name to old.value.name beside) ∙ called-so) ∙ self-under name)
            ]

    outside : is_below name to ≡ false
    outside = elim (cases_Bool (is_below name to)) [
      | inl below ↦ absurd (both_ways (is_at_or_below d.head.name to) (outside-new t to d.id d.head w q.free d.there) (ap (λ n. is_at_or_below n to) d.is ∙ or_right (bytes_eq name to) (is_below name to) below))
      | inr other ↦ other
    ]

    parent : HasParent (at t.records) name
    parent = elim (w.agrees.parents d.id d.head d.there) [
      | inl root ↦
          let alike : Some d.head ≡ Some w.agrees.pool.head = sym d.there ∙ ap (head_in (at t.records)) root ∙ w.agrees.pool.there in
          let is : d.head ≡ w.agrees.pool.head = cc in
          absurd (both_ways (is_pool name) q.no_pool (ap is_pool (sym d.is) ∙ ap (λ (v : Head). is_pool v.name) is ∙ w.agrees.pool.part))
      | inr p ↦ subst (HasParent (at t.records)) d.is p
    ]

    -- the parent keeps its name
    parent-now : parent_in now name ≡ Some (new_head name to parent.filesystem.head)
    parent-now =
        let f = parent.filesystem in
        let beside = beside-name (is_at_or_below parent.parent name) refl in
        let still : (new_head name to f.head).name ≡ parent.parent = ap (name_after name to) f.named ∙ after-still name to parent.parent beside in
        ap (option_and_then (head_named now)) parent.is ∙ ap (head_named now) (sym still)
        ∙ head-named now f.id (new_head name to f.head) w-now (head-now (at t.records) (at now.records) name to same f.id f.head f.there)
      where
        beside-name : (b : Bool) → is_at_or_below parent.parent name ≡ b → is_at_or_below parent.parent name ≡ false
        beside-name false e = e
        beside-name true e = absurd (no-self name (below-by-parent name parent.parent name q.name_form parent.is e))

    has_parent : not (is_some (parent_in now name)) ≡ false
    has_parent = ap (λ (o : Option Head). not (is_some o)) parent-now

    no_volume : option_map_or is_volume (parent_in now name) false ≡ false
    no_volume = ap (λ (o : Option Head). option_map_or is_volume o false) parent-now ∙ ap is_volume_kind parent.filesystem.kind

    heads : (i : ℕ) → head_in (at now.records) i ≡ option_map (new_head name to) (head_in (at t.records) i)
    heads i = ap (option_and_then as_head) (same i) ∙ heads-after name to (at t.records i)

    owned-grown : (owner more : ℕ) (o : Option Head) → head_in (at t.records) owner ≡ o →
        option_map_or (λ n. outgrows to name n more) (option_map (λ (v : Head). v.name) (head_in (at now.records) owner)) false ≡ option_map_or (λ n. outgrows name name n more) (option_map (λ (v : Head). v.name) o) false
    owned-grown owner more None h = ap (λ (o : Option Head). option_map_or (λ n. outgrows to name n more) (option_map (λ (v : Head). v.name) o) false) (heads owner ∙ ap (option_map (new_head name to)) h)
    owned-grown owner more (Some v) h =
        ap (λ (o : Option Head). option_map_or (λ n. outgrows to name n more) (option_map (λ (v : Head). v.name) o) false) (heads owner ∙ ap (option_map (new_head name to)) h)
        ∙ grown-back t name to owner v more w q h

    grown : (i : ℕ) (r : Item) → at t.records i ≡ Some r → would_outgrow now.records to name (after (renamed name to) r) ≡ would_outgrow t.records name name r
    grown i (item.Head v) h = ap (would_outgrow now.records to name) (after-head name to v) ∙ grown-back t name to i v 0 w q (ap (option_and_then as_head) h)
    grown i (item.Snap s) h = owned-grown s.owner (length s.short + 1) (head_in (at t.records) s.owner) refl
    grown i (item.Mark m) h = owned-grown m.owner (length m.short + 1) (head_in (at t.records) m.owner) refl

    fits : list_any (would_outgrow now.records to name) now.records ≡ false
    fits = any-changed (renamed name to) (would_outgrow t.records name name) (would_outgrow now.records to name) 0 t.next t.records w.rises grown ∙ fit
