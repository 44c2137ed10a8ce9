-- Renaming a snapshot of a dataset: zfs-rename(8).
use Rattle.std.specs.Prelude.{ℕ, ◌&&◌, Bool, not, is_some, List, [], ◌∷◌}
use Rattle.std.specs.Option.{option_map_or}
use Rattle.zp_names.specs.Names.{is_head, is_valid_name, is_valid_short}
use Rattle.zp_names.specs.NameParts.{snapshot_name}
use Rattle.zp_names.specs.ErrorNumbers.{eexist, einval, enoent}
use Rattle.zp_names.specs.declared.verdict.Verdict.{Verdict}
use Rattle.zp_tree.specs.declared.item.Item.TheVariants as item
use Rattle.zp_tree.specs.Tree.{Tree, exists, head_named, snapshot_named, replaced}
use Rattle.zp_tree.specs.Rows.{refuse, first_row}

-- a short name that is valid, also behind this head's name
abbrev pub is_short_in : List ℕ → List ℕ → Bool
is_short_in head short = is_valid_short short && is_valid_name (snapshot_name head short)

abbrev pub rename_snapshot_rows : Tree → List ℕ → List ℕ → List ℕ → List (Bool × Verdict)
rename_snapshot_rows t name old new =
    (not (is_head name && is_short_in name old && is_short_in name new), refuse einval)
    ∷ (not (is_some (head_named t name)), refuse enoent)
    ∷ (not (is_some (snapshot_named t (snapshot_name name old))), refuse enoent)
    ∷ (exists t (snapshot_name name new), refuse eexist)
    ∷ []

abbrev pub rename_snapshot_check : Tree → List ℕ → List ℕ → List ℕ → Verdict
rename_snapshot_check t name old new = first_row (rename_snapshot_rows t name old new)

abbrev pub rename_snapshot_change : Tree → List ℕ → List ℕ → List ℕ → Tree
rename_snapshot_change t name old new = option_map_or (λ s. replaced t (item.Snap (record s { short = new }))) (snapshot_named t (snapshot_name name old)) t
