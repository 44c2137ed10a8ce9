-- Making a bookmark from a snapshot, or from a bookmark: zfs-bookmark(8). It marks the point in time at which the snapshot
-- was taken, and stays when the snapshot goes.
use Rattle.std.specs.Prelude.{ℕ, ◌||◌, Bool, true, false, not, is_some, List, [], ◌∷◌, Option, Some, None, option_and_then, bytes_eq}
use Rattle.std.specs.Option.{option_map_or}
use Rattle.zp_names.specs.Names.{is_head, head_of, short_of}
use Rattle.zp_names.specs.NameParts.{form_of}
use Rattle.zp_names.specs.declared.form.Form.{Form}
use Rattle.zp_names.specs.declared.form.Form.TheVariants as form
use Rattle.zp_names.specs.ErrorNumbers.{eexist, einval, enoent, enospc}
use Rattle.zp_names.specs.declared.verdict.Verdict.{Verdict}
use Rattle.zp_tree.specs.declared.item.Item.{Item}
use Rattle.zp_tree.specs.declared.item.Item.TheVariants as item
use Rattle.zp_tree.specs.declared.item.Head.{Head}
use Rattle.zp_tree.specs.declared.item.PointInTime.{PointInTime}
use Rattle.zp_tree.specs.Tree.{Tree, named, exists, head_named, is_full, added}
use Rattle.zp_tree.specs.Rows.{refuse, first_row}

abbrev pub is_bookmark_form : Form → Bool
is_bookmark_form form.Head = false
is_bookmark_form form.Snap = false
is_bookmark_form form.Bookmark = true

-- the name of a bookmark
abbrev pub is_bookmark_name : List ℕ → Bool
is_bookmark_name name = is_bookmark_form (form_of name)

-- the snapshot, with the group in which it was born; of a bookmark, those of the snapshot that it was made from
abbrev pub point_of : Item → Option PointInTime
point_of (item.Head d) = None
point_of (item.Snap s) = Some (record { source = s.id; createtxg = s.createtxg })
point_of (item.Mark m) = Some (record { source = m.source; createtxg = m.createtxg })

-- that of the snapshot or the bookmark of this name
abbrev pub point_named : Tree → List ℕ → Option PointInTime
point_named t name = option_and_then point_of (named t.records name)

abbrev pub bookmark_rows : Tree → List ℕ → List ℕ → List (Bool × Verdict)
bookmark_rows t source name =
    (is_head source || not (is_bookmark_name name), refuse einval)
    ∷ (not (bytes_eq (head_of source) (head_of name)), refuse einval)
    ∷ (not (is_some (head_named t (head_of name))), refuse enoent)
    ∷ (not (is_some (point_named t source)), refuse enoent)
    ∷ (exists t name, refuse eexist)
    ∷ (is_full t, refuse enospc)
    ∷ []

abbrev pub bookmark_check : Tree → List ℕ → List ℕ → Verdict
bookmark_check t source name = first_row (bookmark_rows t source name)

-- a bookmark of a head, of this point in time
abbrev pub new_bookmark : ℕ → ℕ → List ℕ → PointInTime → Item
new_bookmark id owner short p = item.Mark (record { id = id; owner = owner; short = short; source = p.source; createtxg = p.createtxg })

-- the tree with a bookmark of this head
abbrev pub with_bookmark : Tree → List ℕ → List ℕ → Head → Tree
with_bookmark t source name d = option_map_or (λ p. added t (new_bookmark t.next d.id (short_of name) p)) (point_named t source) t

abbrev pub bookmark_change : Tree → List ℕ → List ℕ → Tree
bookmark_change t source name = option_map_or (with_bookmark t source name) (head_named t (head_of name)) t
