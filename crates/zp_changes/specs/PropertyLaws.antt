-- What setting a property and taking a setting away come to, in the words of zfs-set(8) and zfs-inherit(8).
use Rattle.std.specs.Prelude.{ℕ, ◌≡◌, true, false, List, [], Option, Some, None, option_and_then}
use Rattle.std.specs.Option.{option_map_or, option_or}
use Rattle.zp_names.specs.NameParts.{parent_of}
use Rattle.zp_props.specs.declared.setting.Setting.{Setting}
use Rattle.zp_props.specs.Settings.{settings_without}
use Rattle.zp_props.specs.Properties.{is_inherited}
use Rattle.zp_tree.specs.declared.item.Item.{Item}
use Rattle.zp_tree.specs.declared.item.Item.TheVariants as item
use Rattle.zp_tree.specs.declared.item.Head.{Head}
use Rattle.zp_tree.specs.declared.item.Snapshot.{Snapshot}
use Rattle.zp_tree.specs.Tree.{Tree, at, id_of, named, head_at}
use Rattle.zp_tree.specs.WellFormed.{IsWellFormed}
use Rattle.zp_tree.specs.Rows.{passed}
use Rattle.zp_tree.specs.Inherited.{Told, set_on, effective, effective_on_head, nearest_setter, value_set_on, default_told}
use Rattle.zp_tree.specs.Settable.{settings_of_item}
use Rattle.zp_tree.specs.SetProperty.{set_check, set_change, setting_on}
use Rattle.zp_tree.specs.InheritProperty.{inherit_check, inherit_change}

-- the dataset of the name has the value that the text is, with itself as the source
abbrev pub SetTakesEffect : Type 0
SetTakesEffect = (t : Tree) (name property value : List ℕ) (r : Item) (s : Setting) → IsWellFormed t → set_check t name property value ≡ passed → named t.records name ≡ Some r → setting_on r property value ≡ Some s →
    effective (set_change t name property value) (id_of r) property ≡ Some (set_on s.value (id_of r))

abbrev pub settings_at : Tree → ℕ → List Setting
settings_at t i = option_map_or settings_of_item (at t.records i) []

-- every other dataset is as it was, and so are the dataset's other settings, in their order
pub record KeepsOthers (old new : Tree) (id : ℕ) (property : List ℕ) : Type 0 where
  pub datasets : (i : ℕ) → (i ≡ id → ⊥) → at new.records i ≡ at old.records i
  pub settings : settings_without property (settings_at new id) ≡ settings_without property (settings_at old id)

abbrev pub SetKeepsOthers : Type 0
SetKeepsOthers = (t : Tree) (name property value : List ℕ) (r : Item) → IsWellFormed t → named t.records name ≡ Some r → KeepsOthers t (set_change t name property value) (id_of r) property

abbrev pub InheritKeepsOthers : Type 0
InheritKeepsOthers = (t : Tree) (name property : List ℕ) (r : Item) → IsWellFormed t → named t.records name ≡ Some r → KeepsOthers t (inherit_change t name property) (id_of r) property

-- what a head has without a setting of its own, where its parent has this name: the value that is nearest above, else
-- the default
abbrev pub value_above : Tree → List ℕ → List ℕ → Option Told
value_above t property parent = option_or (option_and_then (value_set_on property) (nearest_setter t.records property parent)) (default_told property)

-- after the setting is taken away: the value from above, of a property that is inherited; else, and of the pool, the
-- default; of a snapshot the value that its head has
pub record LeavesWhatIsAbove (t : Tree) (name property : List ℕ) : Type 0 where
  pub inherited : (d : Head) (parent : List ℕ) → named t.records name ≡ Some (item.Head d) → is_inherited property ≡ true → parent_of d.name ≡ Some parent → effective (inherit_change t name property) d.id property ≡ value_above t property parent
  pub pool : (d : Head) → named t.records name ≡ Some (item.Head d) → parent_of d.name ≡ None → effective (inherit_change t name property) d.id property ≡ default_told property
  pub alone : (d : Head) → named t.records name ≡ Some (item.Head d) → is_inherited property ≡ false → effective (inherit_change t name property) d.id property ≡ default_told property
  pub snapshots : (s : Snapshot) → named t.records name ≡ Some (item.Snap s) → effective (inherit_change t name property) s.id property ≡ option_and_then (effective_on_head t.records property) (head_at t s.owner)

abbrev pub InheritLeavesWhatIsAbove : Type 0
InheritLeavesWhatIsAbove = (t : Tree) (name property : List ℕ) → IsWellFormed t → inherit_check t name property ≡ passed → LeavesWhatIsAbove t name property
