-- Making a clone from a snapshot: zfs-clone(8).
use Rattle.std.specs.Prelude.{ℕ, ◌&&◌, Bool, false, not, is_some, List, [], ◌∷◌, Some, if◌then◌else◌}
use Rattle.std.specs.Option.{option_map_or}
use Rattle.zp_names.specs.Names.{is_head}
use Rattle.zp_names.specs.NameParts.{is_snapshot_name}
use Rattle.zp_names.specs.ErrorNumbers.{eexist, einval, enoent, enospc}
use Rattle.zp_names.specs.declared.verdict.Verdict.{Verdict}
use Rattle.zp_props.specs.declared.setting.Setting.{Setting}
use Rattle.zp_props.specs.Settings.{setting_named, volsize}
use Rattle.zp_tree.specs.declared.item.Item.{Item}
use Rattle.zp_tree.specs.declared.item.Item.TheVariants as item
use Rattle.zp_tree.specs.declared.item.Head.{Head}
use Rattle.zp_tree.specs.declared.item.Snapshot.{Snapshot}
use Rattle.zp_tree.specs.Tree.{Tree, exists, snapshot_named, head_at, parent_in, is_full, added}
use Rattle.zp_tree.specs.Items.{is_volume}
use Rattle.zp_tree.specs.Rows.{refuse, first_row}

abbrev pub clone_rows : Tree → List ℕ → List ℕ → List (Bool × Verdict)
clone_rows t source name =
    (not (is_snapshot_name source && is_head name), refuse einval)
    ∷ (exists t name, refuse eexist)
    ∷ (not (is_some (parent_in t name)), refuse enoent)
    ∷ (option_map_or is_volume (parent_in t name) false, refuse einval)
    ∷ (not (is_some (snapshot_named t source)), refuse enoent)
    ∷ (is_full t, refuse enospc)
    ∷ []

abbrev pub clone_check : Tree → List ℕ → List ℕ → Verdict
clone_check t source name = first_row (clone_rows t source name)

-- the settings of a clone: a volume has the size of the one that it comes from
abbrev pub clone_settings : Head → List Setting
clone_settings d = if is_volume d then option_map_or (λ s. s ∷ []) (setting_named volsize d.settings) [] else []

-- a head of the kind of the snapshot's owner, with the snapshot as origin, and its stamp
abbrev pub new_clone : ℕ → List ℕ → ℕ → Snapshot → Head → Item
new_clone id name txg s d = item.Head (record { id = id; name = name; kind = d.kind; origin = Some s.id; settings = clone_settings d; stamp = s.stamp; mounted = false; createtxg = txg })

-- the tree with a clone of this snapshot
abbrev pub with_clone : Tree → List ℕ → ℕ → Snapshot → Tree
with_clone t name txg s = option_map_or (λ d. added t (new_clone t.next name txg s d)) (head_at t s.owner) t

abbrev pub clone_change : Tree → List ℕ → List ℕ → ℕ → Tree
clone_change t source name txg = option_map_or (with_clone t name txg) (snapshot_named t source) t
