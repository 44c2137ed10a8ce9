-- Creating a volume: zfs-create(8), `-V`. Its size is a whole number of blocks of 512 bytes: zfsprops(7), volsize.
use Rattle.std.specs.Prelude.{ℕ, ◌%◌, ◌==◌, Bool, false, not, List, [], ◌∷◌, None}
use Rattle.zp_names.specs.ErrorNumbers.{einval}
use Rattle.zp_names.specs.declared.verdict.Verdict.{Verdict}
use Rattle.zp_props.specs.declared.setting.Setting.{Setting}
use Rattle.zp_props.specs.declared.setting.PropValue.TheVariants.{Number}
use Rattle.zp_props.specs.Settings.{volsize}
use Rattle.zp_props.specs.ReadSetting.{setting_of}
use Rattle.zp_tree.specs.declared.item.Item.{Item}
use Rattle.zp_tree.specs.declared.item.Item.TheVariants as item
use Rattle.zp_tree.specs.declared.item.HeadKind.TheVariants.{Volume}
use Rattle.zp_tree.specs.Tree.{Tree, added}
use Rattle.zp_tree.specs.Rows.{refuse, first_row}
use Rattle.zp_tree.specs.Create.{create_rows}

-- the size first, then as for a file system
abbrev pub create_volume_rows : Tree → List ℕ → ℕ → List (Bool × Verdict)
create_volume_rows t name size = (not (size % 512 == 0), refuse einval) ∷ create_rows t name

abbrev pub create_volume_check : Tree → List ℕ → ℕ → Verdict
create_volume_check t name size = first_row (create_volume_rows t name size)

-- its size alone
abbrev pub volume_settings : ℕ → List Setting
volume_settings size = setting_of volsize (Number size) ∷ []

-- a head of kind volume without origin, with its size, stamp 0, not mounted
abbrev pub new_volume : ℕ → List ℕ → ℕ → ℕ → Item
new_volume id name size txg = item.Head (record { id = id; name = name; kind = Volume; origin = None; settings = volume_settings size; stamp = 0; mounted = false; createtxg = txg })

abbrev pub create_volume_change : Tree → List ℕ → ℕ → ℕ → Tree
create_volume_change t name size txg = added t (new_volume t.next name size txg)
