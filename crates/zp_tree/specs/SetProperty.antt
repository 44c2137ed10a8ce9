-- Setting a property of a dataset: zfs-set(8).
use Rattle.std.specs.Prelude.{ℕ, ◌&&◌, Bool, false, not, nat_le, is_some, is_err, List, [], ◌∷◌, Option, option_map, option_and_then, Result, Ok, Err, sum_by}
use Rattle.std.specs.Option.{option_map_or}
use Rattle.std.specs.Result.{result_ok}
use Rattle.zp_names.specs.ErrorNumbers.{e2big, einval, enoent, enospc}
use Rattle.zp_names.specs.declared.verdict.Verdict.{Verdict}
use Rattle.zp_props.specs.declared.setting.Setting.{Setting}
use Rattle.zp_props.specs.declared.bad_setting.BadSetting.{BadSetting}
use Rattle.zp_props.specs.Settings.{is_user_name, has_setting, settings_with}
use Rattle.zp_props.specs.ReadSetting.{setting_or_refusal, is_too_long}
use Rattle.zp_tree.specs.declared.item.Item.{Item}
use Rattle.zp_tree.specs.Tree.{Tree, named, replaced}
use Rattle.zp_tree.specs.WellFormed.{user_settings, most_user_settings}
use Rattle.zp_tree.specs.Settable.{kind_of_item, settings_of_item, with_settings, is_settable_name, kind_named, settings_named}
use Rattle.zp_tree.specs.Rows.{refuse, first_row}

-- a user property that the dataset hasn't set, where all datasets together have as many as there may be
abbrev pub is_one_too_many : Tree → List Setting → List ℕ → Bool
is_one_too_many t settings property = is_user_name property && not (has_setting property settings) && nat_le most_user_settings (sum_by user_settings t.records)

abbrev pub set_rows : Tree → List ℕ → List ℕ → List ℕ → List (Bool × Verdict)
set_rows t name property value =
    (not (is_settable_name name), refuse einval)
    ∷ (not (is_some (kind_named t name)), refuse enoent)
    ∷ (option_map_or (λ k. is_too_long (setting_or_refusal k property value)) (kind_named t name) false, refuse e2big)
    ∷ (option_map_or (λ k. is_err (setting_or_refusal k property value)) (kind_named t name) false, refuse einval)
    ∷ (is_one_too_many t (settings_named t name) property, refuse enospc)
    ∷ []

abbrev pub set_check : Tree → List ℕ → List ℕ → List ℕ → Verdict
set_check t name property value = first_row (set_rows t name property value)

-- the setting that the text makes on this record
abbrev pub setting_on : Item → List ℕ → List ℕ → Option Setting
setting_on r property value = option_and_then (λ k. result_ok (setting_or_refusal k property value)) (kind_of_item r)

-- the record with this setting: in the place of the one of its name, else last
abbrev pub item_with : Setting → Item → Item
item_with s r = with_settings (settings_with s (settings_of_item r)) r

-- the record with the setting that the text makes on it
abbrev pub item_set : Item → List ℕ → List ℕ → Option Item
item_set r property value = option_map (λ s. item_with s r) (setting_on r property value)

abbrev pub tree_with : Tree → List ℕ → List ℕ → Item → Tree
tree_with t property value r = option_map_or (replaced t) (item_set r property value) t

abbrev pub set_change : Tree → List ℕ → List ℕ → List ℕ → Tree
set_change t name property value = option_map_or (tree_with t property value) (named t.records name) t
