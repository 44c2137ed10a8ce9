-- Taking a setting away, so that the dataset has the value from above or the default: zfs-inherit(8).
use Rattle.std.specs.Prelude.{ℕ, ◌&&◌, Bool, false, not, is_some, List, [], ◌∷◌, bytes_eq, if◌then◌else◌}
use Rattle.std.specs.Option.{option_map_or}
use Rattle.zp_names.specs.ErrorNumbers.{einval, enoent}
use Rattle.zp_names.specs.declared.verdict.Verdict.{Verdict}
use Rattle.zp_props.specs.declared.kind.Kind3.{Kind3}
use Rattle.zp_props.specs.Settings.{is_user_name, settings_without, volsize}
use Rattle.zp_props.specs.UserProperties.{is_valid_user_name}
use Rattle.zp_props.specs.Properties.{can_have_named}
use Rattle.zp_tree.specs.declared.item.Item.{Item}
use Rattle.zp_tree.specs.Tree.{Tree, named, replaced}
use Rattle.zp_tree.specs.Settable.{settings_of_item, with_settings, is_settable_name, kind_named}
use Rattle.zp_tree.specs.Rows.{refuse, first_row}

-- a property whose setting can be taken away: each that the dataset can have set, but a volume keeps its size
abbrev pub can_be_taken_away : List ℕ → Kind3 → Bool
can_be_taken_away property kind = if is_user_name property then is_valid_user_name property else can_have_named kind property && not (bytes_eq property volsize)

abbrev pub inherit_rows : Tree → List ℕ → List ℕ → List (Bool × Verdict)
inherit_rows t name property =
    (not (is_settable_name name), refuse einval)
    ∷ (not (is_some (kind_named t name)), refuse enoent)
    ∷ (option_map_or (λ k. not (can_be_taken_away property k)) (kind_named t name) false, refuse einval)
    ∷ []

abbrev pub inherit_check : Tree → List ℕ → List ℕ → Verdict
inherit_check t name property = first_row (inherit_rows t name property)

abbrev pub item_without : List ℕ → Item → Item
item_without property r = with_settings (settings_without property (settings_of_item r)) r

abbrev pub inherit_change : Tree → List ℕ → List ℕ → Tree
inherit_change t name property = option_map_or (λ r. replaced t (item_without property r)) (named t.records name) t
