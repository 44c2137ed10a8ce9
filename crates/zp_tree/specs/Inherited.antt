-- The value of a property that a dataset has, set on it or come from above: zfsprops(7), "inherited" and "default".
use Rattle.std.specs.Prelude.{ℕ, ◌&&◌, Bool, false, nat_lt, if◌then◌else◌, List, [], ◌∷◌, length, bytes_eq, codes, Option, Some, None, is_some, option_map, option_and_then}
use Rattle.std.specs.List.{filter_map}
use Rattle.std.specs.Option.{option_or}
use Rattle.zp_names.specs.NameMoves.{is_at_or_below}
use Rattle.zp_props.specs.declared.setting.Setting.{Setting}
use Rattle.zp_props.specs.declared.setting.PropValue.{PropValue}
use Rattle.zp_props.specs.declared.setting.PropValue.TheVariants.{Number, Text}
use Rattle.zp_props.specs.declared.kind.Kind3.{Kind3}
use Rattle.zp_props.specs.declared.kind.Kind3.TheVariants as kind
use Rattle.zp_props.specs.Settings.{setting_named, has_setting}
use Rattle.zp_props.specs.Properties.{can_have_named, is_inherited, default_named}
use Rattle.zp_tree.specs.declared.item.Item.{Item}
use Rattle.zp_tree.specs.declared.item.Item.TheVariants as item
use Rattle.zp_tree.specs.declared.item.HeadKind.{HeadKind}
use Rattle.zp_tree.specs.declared.item.HeadKind.TheVariants.{Filesystem, Volume}
use Rattle.zp_tree.specs.declared.item.Head.{Head}
use Rattle.zp_tree.specs.declared.item.Snapshot.{Snapshot}
use Rattle.zp_tree.specs.declared.effective.Effective.{Effective}
use Rattle.zp_tree.specs.declared.effective.Effective.TheVariants as declared
use Rattle.zp_tree.specs.Tree.{Tree, at, as_head}

-- a value and where it comes from
pub data Told : Type 0 where
  -- set on the dataset with this id
  set_on : PropValue → ℕ → Told
  -- the default of the property
  by_default : Told

-- what an answer of a look-up tells
abbrev pub told_by : Effective → Told
told_by (declared.Set value id) = set_on value.now id
told_by declared.ByDefault = by_default

abbrev pub kind_of_head : HeadKind → Kind3
kind_of_head Filesystem = kind.Filesystem
kind_of_head Volume = kind.Volume

-- the head has the property set, and is of a kind that can have it
abbrev pub holds_property : List ℕ → Head → Bool
holds_property p d = can_have_named (kind_of_head d.kind) p && has_setting p d.settings

-- the record as a head that has the property set and has this name or stands above it
abbrev pub setter_over : List ℕ → List ℕ → Item → Option Head
setter_over p name (item.Head d) = if is_at_or_below name d.name && holds_property p d then Some d else None
setter_over p name (item.Snap s) = None
setter_over p name (item.Mark m) = None

-- the head, or another where that has a longer name
abbrev pub longer_named : Head → Option Head → Head
longer_named d None = d
longer_named d (Some e) = if nat_lt (length d.name) (length e.name) then e else d

-- the head with the longest name
abbrev pub longest : List Head → Option Head
longest [] = None
longest (d ∷ ds) = Some (longer_named d (longest ds))

-- of the heads that have the property set, the one with the longest name among this name and those above it
abbrev pub nearest_setter : List Item → List ℕ → List ℕ → Option Head
nearest_setter rs p name = longest (filter_map (setter_over p name) rs)

-- the head that a head has the property from: one from it up, or the head alone where the property isn't inherited
abbrev pub setter_for : List Item → List ℕ → Head → Option Head
setter_for rs p d = if is_inherited p then nearest_setter rs p d.name else (if holds_property p d then Some d else None)

-- the value that is set, on the dataset with this id
abbrev pub own_value : List ℕ → ℕ → List Setting → Option Told
own_value p id settings = option_map (λ (s : Setting). set_on s.value id) (setting_named p settings)

abbrev pub value_set_on : List ℕ → Head → Option Told
value_set_on p d = own_value p d.id d.settings

abbrev pub default_told : List ℕ → Option Told
default_told p = if is_some (default_named p) then Some by_default else None

-- the value that a head has; none of a property that its kind can't have, and of a user property that is set nowhere
abbrev pub effective_on_head : List Item → List ℕ → Head → Option Told
effective_on_head rs p d =
    if can_have_named (kind_of_head d.kind) p then option_or (option_and_then (value_set_on p) (setter_for rs p d)) (default_told p) else None

-- the value that a snapshot has: its own, else that of its head
abbrev pub effective_on_snapshot : List Item → List ℕ → Snapshot → Option Told
effective_on_snapshot rs p s =
    if can_have_named kind.Snapshot p then option_or (own_value p s.id s.settings) (option_and_then (effective_on_head rs p) (option_and_then as_head (at rs s.owner))) else None

abbrev pub effective_on : List Item → List ℕ → Item → Option Told
effective_on rs p (item.Head d) = effective_on_head rs p d
effective_on rs p (item.Snap s) = effective_on_snapshot rs p s
effective_on rs p (item.Mark m) = None

-- the value that the dataset with this id has
abbrev pub effective : Tree → ℕ → List ℕ → Option Told
effective t i p = option_and_then (effective_on t.records p) (at t.records i)

abbrev pub is_on : Option Told → Bool
is_on None = false
is_on (Some by_default) = false
is_on (Some (set_on (Number n) id)) = false
is_on (Some (set_on (Text w) id)) = bytes_eq w (codes "on")

-- zfsprops(7), readonly: by default it is off
abbrev pub is_readonly : Tree → Head → Bool
is_readonly t d = is_on (effective t d.id (codes "readonly"))
