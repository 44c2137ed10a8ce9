-- Unmounting a file system: zfs-unmount(8). Only the flag is taken away.
use Rattle.std.specs.Prelude.{ℕ, Bool, false, not, is_some, List, [], ◌∷◌}
use Rattle.std.specs.Option.{option_map_or}
use Rattle.zp_names.specs.Names.{is_head}
use Rattle.zp_names.specs.ErrorNumbers.{einval, enoent}
use Rattle.zp_names.specs.declared.verdict.Verdict.{Verdict}
use Rattle.zp_tree.specs.declared.item.Item.TheVariants as item
use Rattle.zp_tree.specs.Tree.{Tree, head_named, replaced}
use Rattle.zp_tree.specs.Items.{is_mounted}
use Rattle.zp_tree.specs.Rows.{refuse, first_row}

abbrev pub unmount_rows : Tree → List ℕ → List (Bool × Verdict)
unmount_rows t name =
    (not (is_head name), refuse einval)
    ∷ (not (is_some (head_named t name)), refuse enoent)
    ∷ (option_map_or (λ d. not (is_mounted d)) (head_named t name) false, refuse einval)
    ∷ []

abbrev pub unmount_check : Tree → List ℕ → Verdict
unmount_check t name = first_row (unmount_rows t name)

abbrev pub unmount_change : Tree → List ℕ → Tree
unmount_change t name = option_map_or (λ d. replaced t (item.Head (record d { mounted = false }))) (head_named t name) t
