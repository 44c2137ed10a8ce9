-- Placing a user reference on a snapshot: zfs-hold(8).
use Rattle.std.specs.Prelude.{ℕ, Bool, false, not, is_some, List, [], ◌∷◌, ◌++◌}
use Rattle.std.specs.Option.{option_map_or}
use Rattle.zp_names.specs.NameParts.{is_snapshot_name}
use Rattle.zp_names.specs.ErrorNumbers.{eexist, einval, enoent}
use Rattle.zp_names.specs.declared.verdict.Verdict.{Verdict}
use Rattle.zp_tree.specs.declared.item.Item.TheVariants as item
use Rattle.zp_tree.specs.declared.item.Snapshot.{Snapshot}
use Rattle.zp_tree.specs.declared.item.Hold.{Hold}
use Rattle.zp_tree.specs.Tree.{Tree, snapshot_named, replaced}
use Rattle.zp_tree.specs.Holds.{is_tag, has_tag}
use Rattle.zp_tree.specs.Rows.{refuse, first_row}

abbrev pub hold_rows : Tree → List ℕ → List ℕ → List (Bool × Verdict)
hold_rows t name tag =
    (not (is_snapshot_name name), refuse einval)
    ∷ (not (is_tag tag), refuse einval)
    ∷ (not (is_some (snapshot_named t name)), refuse enoent)
    ∷ (option_map_or (has_tag tag) (snapshot_named t name) false, refuse eexist)
    ∷ []

abbrev pub hold_check : Tree → List ℕ → List ℕ → Verdict
hold_check t name tag = first_row (hold_rows t name tag)

-- the snapshot with one reference more, which goes last
abbrev pub with_hold : List ℕ → ℕ → Snapshot → Snapshot
with_hold tag now s = record s { holds = s.holds ++ record { tag = tag; at = now } ∷ [] }

abbrev pub hold_change : Tree → List ℕ → List ℕ → ℕ → Tree
hold_change t name tag now = option_map_or (λ s. replaced t (item.Snap (with_hold tag now s))) (snapshot_named t name) t
