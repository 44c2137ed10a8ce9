-- Taking a user reference off a snapshot: zfs-release(8).
use Rattle.std.specs.Prelude.{ℕ, Bool, false, not, is_some, List, [], ◌∷◌}
use Rattle.std.specs.Option.{option_map_or}
use Rattle.zp_names.specs.NameParts.{is_snapshot_name}
use Rattle.zp_names.specs.ErrorNumbers.{einval, enoent, esrch}
use Rattle.zp_names.specs.declared.verdict.Verdict.{Verdict}
use Rattle.zp_tree.specs.declared.item.Item.TheVariants as item
use Rattle.zp_tree.specs.declared.item.Snapshot.{Snapshot}
use Rattle.zp_tree.specs.Tree.{Tree, snapshot_named, replaced}
use Rattle.zp_tree.specs.Holds.{has_tag, holds_without}
use Rattle.zp_tree.specs.Destroy.{released}
use Rattle.zp_tree.specs.Rows.{refuse, first_row}

abbrev pub release_rows : Tree → List ℕ → List ℕ → List (Bool × Verdict)
release_rows t name tag =
    (not (is_snapshot_name name), refuse einval)
    ∷ (not (is_some (snapshot_named t name)), refuse enoent)
    ∷ (option_map_or (λ s. not (has_tag tag s)) (snapshot_named t name) false, refuse esrch)
    ∷ []

abbrev pub release_check : Tree → List ℕ → List ℕ → Verdict
release_check t name tag = first_row (release_rows t name tag)

-- the snapshot without the reference of this tag
abbrev pub without_hold : List ℕ → Snapshot → Snapshot
without_hold tag s = record s { holds = holds_without tag s.holds }

-- the reference goes, and then the snapshot where it was kept for its references and clones alone
abbrev pub release_change : Tree → List ℕ → List ℕ → Tree
release_change t name tag = option_map_or (λ s. released (replaced t (item.Snap (without_hold tag s))) s.id) (snapshot_named t name) t
