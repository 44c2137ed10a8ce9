-- A rename there and back.
use Rattle.std.proofs.Common.{◌≡◌, ℕ, List, map, Bool, true, false, Some, refl, sym, ap, ◌∙◌, inl, inr, option_and_then}
use Rattle.std.proofs.lemmas.Bool.{cases_Bool}
use Rattle.zp_names.specs.Names.{is_head}
use Rattle.zp_names.specs.NameMoves.{is_at_or_below, moved, name_after}
use Rattle.zp_names.proofs.Moving.{beyond, moved_at}
use Rattle.zp_names.proofs.MovedNames.{measured}
use Rattle.zp_tree.specs.declared.item.Item.{Item}
use Rattle.zp_tree.specs.declared.item.Item.TheVariants as item
use Rattle.zp_tree.specs.declared.item.Head.{Head}
use Rattle.zp_tree.specs.Tree.{Tree, at, id_of, as_head, exists}
use Rattle.zp_tree.specs.Rows.{passed}
use Rattle.zp_tree.specs.WellFormed.{head_in, IsWellFormed}
use Rattle.zp_tree.specs.Rename.{rename_check, renamed, rename_change}
use Rattle.zp_changes.specs.Renaming.{renamed-keeps}
use Rattle.zp_changes.proofs.Changed.{after, ids-changed}
use Rattle.zp_changes.proofs.Renamed.{new_head, after-head}
use Rattle.zp_changes.proofs.PromoteBack.{undone}
use Rattle.zp_changes.proofs.RenameFacts.{Passed, passed-rename, none-at-or-below, after-moved, after-still, moved-under}

-- a name that moved moves back
pub moved-back : (name to x : List ℕ) → is_at_or_below x name ≡ true → moved to name (moved name to x) ≡ x
moved-back name to x under = let b = beyond x name under in moved_at to name (moved name to x) b.rest (moved_at name to x b.rest b.is) ∙ sym b.is

pub under-new : (name to x : List ℕ) → is_head name ≡ true → is_head to ≡ true → is_at_or_below x name ≡ true → is_at_or_below (moved name to x) to ≡ true
under-new name to x name_form to_form under = moved-under name to x (measured name to x name_form to_form under).head under

-- what is there before a rename isn't at or below the new name
pub outside-new : (t : Tree) (to : List ℕ) (i : ℕ) (d : Head) → IsWellFormed t → exists t to ≡ false → head_in (at t.records) i ≡ Some d → is_at_or_below d.name to ≡ false
outside-new t to i d w free h = go (is_at_or_below d.name to) refl
  where
    go : (b : Bool) → is_at_or_below d.name to ≡ b → is_at_or_below d.name to ≡ false
    go false e = e
    go true e = absurd (none-at-or-below t to i d w free h e)

-- the name of a head after both renames
pub name-back : (t : Tree) (name to : List ℕ) (i : ℕ) (d : Head) → IsWellFormed t → Passed t name to → head_in (at t.records) i ≡ Some d → name_after to name (name_after name to d.name) ≡ d.name
name-back t name to i d w q h = elim (cases_Bool (is_at_or_below d.name name)) [
  | inl under ↦ ap (name_after to name) (after-moved name to d.name under) ∙ after-moved to name (moved name to d.name) (under-new name to d.name q.name_form q.to_form under) ∙ moved-back name to d.name under
  | inr beside ↦ ap (name_after to name) (after-still name to d.name beside) ∙ after-still to name d.name (outside-new t to i d w q.free h)
]

record-back : (t : Tree) (name to : List ℕ) → IsWellFormed t → Passed t name to → (i : ℕ) (r : Item) → at t.records i ≡ Some r → after (renamed to name) (after (renamed name to) r) ≡ r
record-back t name to w q i (item.Head d) h =
    ap (after (renamed to name)) (after-head name to d) ∙ after-head to name (new_head name to d)
    ∙ ap (λ n. item.Head (record d { name = n })) (name-back t name to i d w q (ap (option_and_then as_head) h))
record-back t name to w q i (item.Snap s) h = refl
record-back t name to w q i (item.Mark m) h = refl

pub renamed_back : (t : Tree) (name to : List ℕ) → IsWellFormed t → rename_check t name to ≡ passed → rename_change (rename_change t name to) to name ≡ t
renamed_back t name to w e =
    ap (λ rs. let u : Tree = record t { records = rs } in u) (undone (renamed name to) (renamed to name) 0 t.next t.records w.rises (record-back t name to w (passed-rename t name to w e)))

pub renamed_ids : (t : Tree) (name to : List ℕ) → map id_of (rename_change t name to).records ≡ map id_of t.records
renamed_ids t name to = ids-changed (renamed name to) (renamed-keeps name to) t.records
