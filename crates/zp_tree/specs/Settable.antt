-- The datasets whose properties can be set: heads and snapshots.
use Rattle.std.specs.Prelude.{ℕ, ◌||◌, Bool, List, [], Option, Some, None, option_and_then}
use Rattle.std.specs.Option.{option_map_or}
use Rattle.zp_names.specs.Names.{is_head}
use Rattle.zp_names.specs.NameParts.{is_snapshot_name}
use Rattle.zp_props.specs.declared.setting.Setting.{Setting}
use Rattle.zp_props.specs.declared.kind.Kind3.{Kind3}
use Rattle.zp_props.specs.declared.kind.Kind3.TheVariants as kind
use Rattle.zp_tree.specs.declared.item.Item.{Item}
use Rattle.zp_tree.specs.declared.item.Item.TheVariants as item
use Rattle.zp_tree.specs.Tree.{Tree, named}
use Rattle.zp_tree.specs.Inherited.{kind_of_head}

abbrev pub kind_of_item : Item → Option Kind3
kind_of_item (item.Head d) = Some (kind_of_head d.kind)
kind_of_item (item.Snap s) = Some kind.Snapshot
kind_of_item (item.Mark m) = None

abbrev pub settings_of_item : Item → List Setting
settings_of_item (item.Head d) = d.settings
settings_of_item (item.Snap s) = s.settings
settings_of_item (item.Mark m) = []

abbrev pub with_settings : List Setting → Item → Item
with_settings settings (item.Head d) = item.Head (record d { settings = settings })
with_settings settings (item.Snap s) = item.Snap (record s { settings = settings })
with_settings settings (item.Mark m) = item.Mark m

-- a name of such a dataset
abbrev pub is_settable_name : List ℕ → Bool
is_settable_name name = is_head name || is_snapshot_name name

-- the kind of the dataset of this name
abbrev pub kind_named : Tree → List ℕ → Option Kind3
kind_named t name = option_and_then kind_of_item (named t.records name)

abbrev pub settings_named : Tree → List ℕ → List Setting
settings_named t name = option_map_or settings_of_item (named t.records name) []
