-- Mounting a file system: zfs-mount(8). Only the flag is set.
use Rattle.std.specs.Prelude.{ℕ, Bool, true, false, not, is_some, List, [], ◌∷◌}
use Rattle.std.specs.Option.{option_map_or}
use Rattle.zp_names.specs.Names.{is_head}
use Rattle.zp_names.specs.ErrorNumbers.{ebusy, einval, enoent}
use Rattle.zp_names.specs.declared.verdict.Verdict.{Verdict}
use Rattle.zp_tree.specs.declared.item.Item.TheVariants as item
use Rattle.zp_tree.specs.Tree.{Tree, head_named, replaced}
use Rattle.zp_tree.specs.Items.{is_volume, is_mounted}
use Rattle.zp_tree.specs.Rows.{refuse, first_row}

abbrev pub mount_rows : Tree → List ℕ → List (Bool × Verdict)
mount_rows t name =
    (not (is_head name), refuse einval)
    ∷ (not (is_some (head_named t name)), refuse enoent)
    ∷ (option_map_or is_volume (head_named t name) false, refuse einval)
    ∷ (option_map_or is_mounted (head_named t name) false, refuse ebusy)
    ∷ []

abbrev pub mount_check : Tree → List ℕ → Verdict
mount_check t name = first_row (mount_rows t name)

abbrev pub mount_change : Tree → List ℕ → Tree
mount_change t name = option_map_or (λ d. replaced t (item.Head (record d { mounted = true }))) (head_named t name) t
