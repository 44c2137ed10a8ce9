-- What a rename whose check passes rests on.
use Rattle.std.proofs.Common.{◌≡◌, ℕ, zero, suc, ◌+◌, ◌<◌, List, [], ◌∷◌, ◌++◌, length, Bool, true, false, not, cond, ◌&&◌, ◌||◌, bytes_eq, Some, is_some, refl, sym, ap, subst, ◌∙◌, arith, inl, inr, append_assoc, append-nil}
use Rattle.std.specs.List.{list_any}
use Rattle.std.specs.Prelude.{slice_get}
use Rattle.std.proofs.lemmas.Bool.{cases_Bool, and_parts, both_ways, and_from, or_right, cases_eq, eq-eqb, ne_eqb}
use Rattle.std.proofs.lemmas.List.{append_cancel_left}
use Rattle.std.proofs.lemmas.List.Folds.{list_any-append}
use Rattle.zp_names.specs.Names.{is_head, is_valid_name, is_separator}
use Rattle.zp_names.specs.NameParts.{parent_of, is_pool, is_below}
use Rattle.zp_names.specs.NameMoves.{is_at_or_below, moved, name_after, outgrows}
use Rattle.zp_names.proofs.Moving.{Beyond, beyond, is_beyond, below_from, moved_at, parent_cut, moved_parent}
use Rattle.zp_names.proofs.MovedNames.{moved_valid}
use Rattle.zp_tree.specs.declared.item.Item.{Item}
use Rattle.zp_tree.specs.declared.item.Item.TheVariants as item
use Rattle.zp_tree.specs.declared.item.Head.{Head}
use Rattle.zp_tree.specs.Tree.{Tree, at, id_of, exists, head_named, parent_in, changed}
use Rattle.zp_tree.specs.Rows.{passed}
use Rattle.zp_tree.specs.WellFormed.{Look, head_in, HasParent, IsHead, IsWellFormed}
use Rattle.zp_tree.specs.Rename.{would_outgrow, rename_rows, rename_check, renamed}
use Rattle.zp_tree.proofs.Clear.{clear, not-false}
use Rattle.zp_tree.proofs.Found.{is-head, free-name, parent-there}
use Rattle.zp_changes.specs.Renaming.{FitsRename, renamed-keeps}
use Rattle.zp_changes.proofs.Changed.{at-changed}
use Rattle.zp_changes.proofs.Renamed.{IsRename, new_head, head-now}

-- ---- names

-- where the parent of a name is at or below another, the name is below it
pub below-by-parent : (name p n : List ℕ) → is_head name ≡ true → parent_of name ≡ Some p → is_at_or_below p n ≡ true → is_below name n ≡ true
below-by-parent name p n head e under =
    let cut = parent_cut name p e in
    let b = beyond p n under in
    elim b.start [
      | inl none ↦ below_from name n cut.0 head (cut.1 ∙ ap (λ q. q ++ 47 ∷ cut.0) (b.is ∙ ap (λ r. n ++ r) none ∙ append-nil n))
      | inr some ↦ below_from name n (some.0 ++ 47 ∷ cut.0) head
          (cut.1 ∙ ap (λ q. q ++ 47 ∷ cut.0) (b.is ∙ ap (λ r. n ++ r) some.1) ∙ append_assoc n (47 ∷ some.0) (47 ∷ cut.0))
    ]

-- a name below another is no pool's
pub no-pool : (n more : List ℕ) → is_pool (n ++ 47 ∷ more) ≡ true → ⊥
no-pool n more e =
    let some : list_any is_separator (n ++ 47 ∷ more) ≡ true = list_any-append is_separator n (47 ∷ more) ∙ or_right (list_any is_separator n) true refl in
    both_ways (not (list_any is_separator (n ++ 47 ∷ more))) (ap not some) e

-- ---- what the rows say

pub record Passed (t : Tree) (name to : List ℕ) : Type 0 where
  pub name_form : is_head name ≡ true
  pub to_form : is_head to ≡ true
  pub there : is_some (head_named t name) ≡ true
  pub no_pool : is_pool name ≡ false
  pub free : exists t to ≡ false
  pub outside : is_below to name ≡ false
  pub parent : HasParent (at t.records) to
  pub fits : list_any (would_outgrow t.records name to) t.records ≡ false

pub passed-rename : (t : Tree) (name to : List ℕ) → IsWellFormed t → rename_check t name to ≡ passed → Passed t name to
passed-rename t name to w e =
    let rows = clear (rename_rows t name to) refl e in
    let forms = and_parts (is_head name) (is_head to) (not-false (is_head name && is_head to) rows.0) in record {
      name_form = forms.0;
      to_form = forms.1;
      there = not-false (is_some (head_named t name)) rows.1.0;
      no_pool = rows.1.1.0;
      free = rows.1.1.1.0;
      outside = rows.1.1.1.1.0;
      parent = parent-there t to w (not-false (is_some (parent_in t to)) rows.1.1.1.1.1.0) rows.1.1.1.1.1.1.0;
      fits = rows.1.1.1.1.1.1.1.0;
    }

-- ---- nothing is at or below a name that is free

none-below : (t : Tree) (to more : List ℕ) (fuel i : ℕ) (d : Head) → IsWellFormed t → exists t to ≡ false → length more < fuel → head_in (at t.records) i ≡ Some d → d.name ≡ to ++ 47 ∷ more → ⊥
none-below t to more zero i d w free lt h e = absurd (omega arith)
none-below t to more (suc fuel) i d w free lt h e = elim (w.agrees.parents i d h) [
  | inl root ↦
      let same : Some d ≡ Some w.agrees.pool.head = sym h ∙ ap (head_in (at t.records)) root ∙ w.agrees.pool.there in
      let is : d ≡ w.agrees.pool.head = cc in
      no-pool to more (sym (ap is_pool e) ∙ ap (λ (v : Head). is_pool v.name) is ∙ w.agrees.pool.part)
  | inr p ↦
      let m = moved_parent to to more in
      let f = p.filesystem in
      let good : IsHead d = w.agrees.records i (item.Head d) (is-head (at t.records i) d h) in
      let both : Some p.parent ≡ Some (to ++ m.rest) = sym p.is ∙ ap parent_of e ∙ m.before (sym (ap is_head e) ∙ good.form) in
      let is : p.parent ≡ to ++ m.rest = cc in
      elim m.start [
        | inl none ↦ free-name t to f.id f.head free f.there (f.named ∙ is ∙ ap (λ r. to ++ r) none ∙ append-nil to)
        | inr some ↦
            let size = ap length some.1 in
            none-below t to some.0 fuel f.id f.head w free (omega (arith, m.shorter)) f.there (f.named ∙ is ∙ ap (λ r. to ++ r) some.1)
      ]
]

pub none-at-or-below : (t : Tree) (to : List ℕ) (i : ℕ) (d : Head) → IsWellFormed t → exists t to ≡ false → head_in (at t.records) i ≡ Some d → is_at_or_below d.name to ≡ true → ⊥
none-at-or-below t to i d w free h e =
    let b = beyond d.name to e in
    elim b.start [
      | inl none ↦ free-name t to i d free h (b.is ∙ ap (λ r. to ++ r) none ∙ append-nil to)
      | inr some ↦ none-below t to some.0 (length some.0 + 1) i d w free (omega arith) h (b.is ∙ ap (λ r. to ++ r) some.1)
    ]

-- ---- names after the rename

pub after-moved : (name to x : List ℕ) → is_at_or_below x name ≡ true → name_after name to x ≡ moved name to x
after-moved name to x e = ap (λ b. cond b (moved name to x) x) e

pub after-still : (name to x : List ℕ) → is_at_or_below x name ≡ false → name_after name to x ≡ x
after-still name to x e = ap (λ b. cond b (moved name to x) x) e

-- a moved name is at or below the new one
pub moved-under : (name to x : List ℕ) → is_head (moved name to x) ≡ true → is_at_or_below x name ≡ true → is_at_or_below (moved name to x) to ≡ true
moved-under name to x head e =
    let b = beyond x name e in
    is_beyond (moved name to x) to head (record { rest = b.rest; is = moved_at name to x b.rest b.is; start = b.start })

-- the names of two datasets that are moved differ as before
moved-apart : (name to x y : List ℕ) → is_at_or_below x name ≡ true → is_at_or_below y name ≡ true → moved name to x ≡ moved name to y → x ≡ y
moved-apart name to x y ex ey same =
    let b = beyond x name ex in
    let c = beyond y name ey in
    let rests : b.rest ≡ c.rest = append_cancel_left to b.rest c.rest (sym (moved_at name to x b.rest b.is) ∙ same ∙ moved_at name to y c.rest c.is) in
    b.is ∙ ap (λ r. name ++ r) rests ∙ sym c.is

-- ---- records by their ids

neither : (b c : Bool) → (b || c) ≡ false → (b ≡ false) × (c ≡ false)
neither true c h = cc
neither false c h = (refl, h)

-- where none passes, the one at an id doesn't
none-at : (p : Item → Bool) (rs : List Item) (i : ℕ) (r : Item) → list_any p rs ≡ false → at rs i ≡ Some r → p r ≡ false
none-at p [] i r none e = cc
none-at p (x ∷ rs) i r none e = elim (cases_eq (id_of x) i) [
  | inl same ↦ let is : Some x ≡ Some r = sym (ap (λ b. cond b (Some x) (at rs i)) (eq-eqb (id_of x) i same)) ∙ e in let it : x ≡ r = cc in ap p (sym it) ∙ (neither (p x) (list_any p rs) none).0
  | inr other ↦ none-at p rs i r (neither (p x) (list_any p rs) none).1 (sym (ap (λ b. cond b (Some x) (at rs i)) (ne_eqb (id_of x) i other)) ∙ e)
]

-- nor does the one at a place
none-there : (p : Item → Bool) (rs : List Item) (place : ℕ) (r : Item) → list_any p rs ≡ false → slice_get rs place ≡ Some r → p r ≡ false
none-there p [] place r none e = cc
none-there p (x ∷ rs) zero r none e = let is : x ≡ r = cc in ap p (sym is) ∙ (neither (p x) (list_any p rs) none).0
none-there p (x ∷ rs) (suc n) r none e = none-there p rs n r (neither (p x) (list_any p rs) none).1 e

fits-at : (t : Tree) (name to : List ℕ) (i : ℕ) (d : Head) → Passed t name to → head_in (at t.records) i ≡ Some d → outgrows name to d.name 0 ≡ false
fits-at t name to i d q h = none-at (would_outgrow t.records name to) t.records i (item.Head d) q.fits (is-head (at t.records i) d h)

-- ---- all of it

pub is-rename : (t : Tree) (name to : List ℕ) → IsWellFormed t → is_valid_name to ≡ true → Passed t name to → IsRename (at t.records) (at (changed (renamed name to) t.records)) name to
is-rename t name to w valid q = record {
  valid = λ i d h. (and_parts (is_valid_name (name_after name to d.name)) (is_head (name_after name to d.name)) (good-name i d h (is_at_or_below d.name name) refl)).0;
  form = λ i d h. (and_parts (is_valid_name (name_after name to d.name)) (is_head (name_after name to d.name)) (good-name i d h (is_at_or_below d.name name) refl)).1;
  root = λ d pool. after-still name to d.name (root-still d pool (is_at_or_below d.name name) refl);
  apart = λ i j d e hd he same. apart i j d e hd he (is_at_or_below d.name name) (is_at_or_below e.name name) refl refl same;
  parents = λ i d h p. elim (cases_Bool (is_at_or_below d.name name)) [ inl under ↦ moved-parents i d h p under | inr beside ↦ still-parents i d h p beside ];
}
  where
    look : Look
    look = at t.records

    new : Look
    new = at (changed (renamed name to) t.records)

    head-of : (i : ℕ) (d : Head) → head_in look i ≡ Some d → IsHead d
    head-of i d h = w.agrees.records i (item.Head d) (is-head (look i) d h)

    moved-good : (i : ℕ) (d : Head) → head_in look i ≡ Some d → is_at_or_below d.name name ≡ true → (is_valid_name (moved name to d.name) && is_head (moved name to d.name)) ≡ true
    moved-good i d h e = moved_valid name to d.name q.name_form q.to_form valid (head-of i d h).name e (fits-at t name to i d q h)

    good-name : (i : ℕ) (d : Head) → head_in look i ≡ Some d → (b : Bool) → is_at_or_below d.name name ≡ b → (is_valid_name (name_after name to d.name) && is_head (name_after name to d.name)) ≡ true
    good-name i d h true e = ap (λ n. is_valid_name n && is_head n) (after-moved name to d.name e) ∙ moved-good i d h e
    good-name i d h false e = ap (λ n. is_valid_name n && is_head n) (after-still name to d.name e) ∙ and_from (is_valid_name d.name) (is_head d.name) (head-of i d h).name (head-of i d h).form

    root-still : (d : Head) → is_pool d.name ≡ true → (b : Bool) → is_at_or_below d.name name ≡ b → is_at_or_below d.name name ≡ false
    root-still d pool false e = e
    root-still d pool true e =
        let b = beyond d.name name e in
        elim b.start [
          | inl none ↦ absurd (both_ways (is_pool name) q.no_pool (sym (ap is_pool (b.is ∙ ap (λ r. name ++ r) none ∙ append-nil name)) ∙ pool))
          | inr some ↦ absurd (no-pool name some.0 (sym (ap is_pool (b.is ∙ ap (λ r. name ++ r) some.1)) ∙ pool))
        ]

    -- what moves doesn't get the name of what stays
    taken : (i j : ℕ) (d e : Head) → head_in look i ≡ Some d → head_in look j ≡ Some e → is_at_or_below d.name name ≡ true → moved name to d.name ≡ e.name → ⊥
    taken i j d e hd he under same = none-at-or-below t to j e w q.free he
        (sym (ap (λ n. is_at_or_below n to) same) ∙ moved-under name to d.name (and_parts (is_valid_name (moved name to d.name)) (is_head (moved name to d.name)) (moved-good i d hd under)).1 under)

    apart : (i j : ℕ) (d e : Head) → head_in look i ≡ Some d → head_in look j ≡ Some e → (b c : Bool) → is_at_or_below d.name name ≡ b → is_at_or_below e.name name ≡ c → name_after name to d.name ≡ name_after name to e.name → d.name ≡ e.name
    apart i j d e hd he true true ud ue same = moved-apart name to d.name e.name ud ue (sym (after-moved name to d.name ud) ∙ same ∙ after-moved name to e.name ue)
    apart i j d e hd he true false ud ue same = absurd (taken i j d e hd he ud (sym (after-moved name to d.name ud) ∙ same ∙ after-still name to e.name ue))
    apart i j d e hd he false true ud ue same = absurd (taken j i e d he hd ue (sym (after-moved name to e.name ue) ∙ sym same ∙ after-still name to d.name ud))
    apart i j d e hd he false false ud ue same = sym (after-still name to d.name ud) ∙ same ∙ after-still name to e.name ue

    there : (i : ℕ) (d : Head) → head_in look i ≡ Some d → head_in new i ≡ Some (new_head name to d)
    there i d h = head-now look new name to (λ i. at-changed (renamed name to) (renamed-keeps name to) t.records i) i d h

    -- a parent that stays is the parent of the same name
    parent-still : (x : List ℕ) → is_head x ≡ true → (p : HasParent look x) → (is_at_or_below p.parent name ≡ true → ⊥) → HasParent new x
    parent-still x head p beside =
        let f = p.filesystem in
        let same : name_after name to f.head.name ≡ p.parent = ap (name_after name to) f.named ∙ after-still name to p.parent (not-under (is_at_or_below p.parent name) beside) in
        record { parent = p.parent; is = p.is; filesystem = record { id = f.id; head = new_head name to f.head; there = there f.id f.head f.there; named = same; kind = f.kind } }
      where
        not-under : (b : Bool) → (b ≡ true → ⊥) → b ≡ false
        not-under true never = absurd (never refl)
        not-under false never = refl

    still-parents : (i : ℕ) (d : Head) → head_in look i ≡ Some d → HasParent look d.name → is_at_or_below d.name name ≡ false → HasParent new (name_after name to d.name)
    still-parents i d h p beside = subst (HasParent new) (sym (after-still name to d.name beside))
        (parent-still d.name (head-of i d h).form p (λ under. both_ways (is_at_or_below d.name name) beside (or_right (bytes_eq d.name name) (is_below d.name name) (below-by-parent d.name p.parent name (head-of i d h).form p.is under))))

    moved-parents : (i : ℕ) (d : Head) → head_in look i ≡ Some d → HasParent look d.name → is_at_or_below d.name name ≡ true → HasParent new (name_after name to d.name)
    moved-parents i d h p under = subst (HasParent new) (sym (after-moved name to d.name under)) (by-rest (beyond d.name name under))
      where
        by-rest : Beyond d.name name → HasParent new (moved name to d.name)
        by-rest b = elim b.start [
          | inl none ↦ subst (HasParent new) (sym (moved_at name to d.name b.rest b.is ∙ ap (λ r. to ++ r) none ∙ append-nil to))
              (parent-still to q.to_form q.parent (λ under. both_ways (is_below to name) q.outside (below-by-parent to q.parent.parent name q.to_form q.parent.is under)))
          | inr some ↦ by-more some.0 (b.is ∙ ap (λ r. name ++ r) some.1) (moved_at name to d.name b.rest b.is ∙ ap (λ r. to ++ r) some.1)
        ]
          where
            by-more : (more : List ℕ) → d.name ≡ name ++ 47 ∷ more → moved name to d.name ≡ to ++ 47 ∷ more → HasParent new (moved name to d.name)
            by-more more is now =
                let m = moved_parent name to more in
                let f = p.filesystem in
                let before : Some p.parent ≡ Some (name ++ m.rest) = sym p.is ∙ ap parent_of is ∙ m.before (sym (ap is_head is) ∙ (head-of i d h).form) in
                let named : p.parent ≡ name ++ m.rest = cc in
                let head : f.head.name ≡ name ++ m.rest = f.named ∙ named in
                let there_under = is_beyond f.head.name name (head-of f.id f.head f.there).form (record { rest = m.rest; is = head; start = m.start }) in
                let form = (and_parts (is_valid_name (moved name to d.name)) (is_head (moved name to d.name)) (moved-good i d h under)).1 in
                record {
                  parent = to ++ m.rest;
                  is = ap parent_of now ∙ m.after (sym (ap is_head now) ∙ form);
                  filesystem = record { id = f.id; head = new_head name to f.head; there = there f.id f.head f.there; named = after-moved name to f.head.name there_under ∙ moved_at name to f.head.name m.rest head; kind = f.kind };
                }

-- what the change relies on, of each record
pub each-fits : (t : Tree) (name to : List ℕ) → Passed t name to → (place : ℕ) (r : Item) → slice_get t.records place ≡ Some r → FitsRename name to r
each-fits t name to q place (item.Head d) e = (q.name_form, q.to_form, none-there (would_outgrow t.records name to) t.records place (item.Head d) q.fits e)
each-fits t name to q place (item.Snap s) e = tt
each-fits t name to q place (item.Mark m) e = tt
