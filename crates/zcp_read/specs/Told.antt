-- The value of a property and where it comes from: `zfs.get_prop` of zfs-program(8); zfsprops(7), "Native Properties".
use Rattle.std.specs.Prelude.{ℕ, ◌&&◌, Bool, true, false, not, if◌then◌else◌, List, codes, length, Option, Some, None, option_map, option_and_then}
use Rattle.std.specs.Option.{option_map_or}
use Rattle.zp_props.specs.declared.kind.Kind3.{Kind3}
use Rattle.zp_props.specs.declared.kind.Kind3.TheVariants as kind
use Rattle.zp_props.specs.declared.prop.Prop.{Prop}
use Rattle.zp_props.specs.declared.prop.Prop.TheVariants as prop
use Rattle.zp_props.specs.declared.setting.PropValue.{PropValue}
use Rattle.zp_props.specs.declared.setting.PropValue.TheVariants.{Number, Text}
use Rattle.zp_props.specs.Lines.{includes}
use Rattle.zp_props.specs.Properties.{native, prop_named, can_have_named, default_named}
use Rattle.zp_props.specs.Settings.{is_user_name}
use Rattle.zp_props.specs.UserProperties.{is_valid_user_name}
use Rattle.zp_calls.specs.declared.reply.Reply.{Reply}
use Rattle.zp_calls.specs.declared.reply.Reply.TheVariants as reply
use Rattle.zp_tree.specs.declared.item.Item.{Item}
use Rattle.zp_tree.specs.declared.item.Item.TheVariants as item
use Rattle.zp_tree.specs.declared.item.Head.{Head}
use Rattle.zp_tree.specs.declared.item.Snapshot.{Snapshot}
use Rattle.zp_tree.specs.Tree.{Tree, at, id_of, as_head, as_snapshot, full_name}
use Rattle.zp_tree.specs.Inherited.{Told, set_on, by_default, effective}

-- ---- which properties are told

abbrev pub is_clones : Prop → Bool
is_clones prop.Clones = true
is_clones _ = false

-- a native property that a dataset of this kind has; `clones` is more than one value, and only programs are told it
abbrev pub is_told_natively : Kind3 → Prop → Bool
is_told_natively k p = includes (native p).kinds k && not (is_clones p)

-- a property that a dataset of this kind is told: a user property of a valid name, or a native one that it has
abbrev pub is_told : List ℕ → Kind3 → Bool
is_told name k = if is_user_name name then is_valid_user_name name else option_map_or (is_told_natively k) (prop_named name) false

-- ---- properties that are only told

-- zfsprops(7), type
abbrev pub type_text : Kind3 → List ℕ
type_text kind.Filesystem = codes "filesystem"
type_text kind.Volume = codes "volume"
type_text kind.Snapshot = codes "snapshot"

abbrev pub createtxg_of : Item → ℕ
createtxg_of (item.Head d) = d.createtxg
createtxg_of (item.Snap s) = s.createtxg
createtxg_of (item.Mark m) = m.createtxg

abbrev pub stamp_of : Item → ℕ
stamp_of (item.Head d) = d.stamp
stamp_of (item.Snap s) = s.stamp
stamp_of (item.Mark m) = 0

-- the full name of the record with this id
abbrev pub full_name_at : List Item → ℕ → Option (List ℕ)
full_name_at rs i = option_and_then (full_name rs) (at rs i)

-- the name of the snapshot that a head was cloned from
abbrev pub origin_name : List Item → Item → Option (List ℕ)
origin_name rs r = option_and_then (full_name_at rs) (option_and_then (λ (d : Head). d.origin) (as_head r))

abbrev pub count_of_holds : Item → ℕ
count_of_holds r = option_map_or (λ (s : Snapshot). length s.holds) (as_snapshot r) 0

abbrev pub is_deferred : Item → Bool
is_deferred r = option_map_or (λ (s : Snapshot). s.deferred) (as_snapshot r) false

abbrev pub on_or_off : Bool → List ℕ
on_or_off b = if b then codes "on" else codes "off"

-- the value of a property that is only told; none of the `origin` of what is no clone
abbrev pub value_told : List Item → Kind3 → Item → Prop → Option PropValue
value_told rs k r prop.DatasetType = Some (Text (type_text k))
value_told rs k r prop.Guid = Some (Number (id_of r))
value_told rs k r prop.Createtxg = Some (Number (createtxg_of r))
value_told rs k r prop.Stamp = Some (Number (stamp_of r))
value_told rs k r prop.Origin = option_map Text (origin_name rs r)
value_told rs k r prop.Userrefs = Some (Number (count_of_holds r))
value_told rs k r prop.DeferDestroy = Some (Text (on_or_off (is_deferred r)))
value_told rs k r _ = None

-- ---- what is told of a property

-- a property that is only told has no source
abbrev pub only_told : Option PropValue → Reply
only_told v = reply.Prop v None

-- what is set has the dataset that has it set as source, and else it is the default
abbrev pub with_source : List Item → List ℕ → Told → Reply
with_source rs name (set_on v i) = reply.Prop (Some v) (full_name_at rs i)
with_source rs name by_default = reply.Prop (default_named name) (Some (codes "default"))

-- of a property that can be set; none of a user property that is set nowhere
abbrev pub settable_told : Tree → List ℕ → Item → Option Reply
settable_told t name r = option_map (with_source t.records name) (effective t (id_of r) name)

-- the value of a property that a dataset of this kind is told, with its source
abbrev pub property_told : Tree → List ℕ → Item → Kind3 → Option Reply
property_told t name r k =
    if can_have_named k name then settable_told t name r
    else option_map (λ p. only_told (value_told t.records k r p)) (prop_named name)
