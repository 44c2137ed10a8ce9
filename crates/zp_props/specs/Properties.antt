-- The native properties: zfsprops(7), "Native Properties". Which of them there are here is this project's own choice.
use Rattle.std.specs.Prelude.{ℕ, ◌&&◌, Bool, true, false, List, [], ◌∷◌, codes, Option, Some, None, find, option_and_then, bytes_eq, if◌then◌else◌}
use Rattle.std.specs.Option.{option_map_or}
use Rattle.zp_props.specs.declared.setting.PropValue.{PropValue}
use Rattle.zp_props.specs.declared.setting.PropValue.TheVariants.{Number, Text}
use Rattle.zp_props.specs.declared.kind.Kind3.{Kind3}
use Rattle.zp_props.specs.declared.kind.Kinds.{Kinds}
use Rattle.zp_props.specs.declared.kind.Kinds.TheVariants.{Every, Heads, Filesystems, Volumes, Snapshots}
use Rattle.zp_props.specs.declared.line.Rule.TheVariants.{Any, PowerOfTwo, MultipleOf}
use Rattle.zp_props.specs.declared.prop.Prop.{Prop}
use Rattle.zp_props.specs.declared.prop.Prop.TheVariants as prop
use Rattle.zp_props.specs.Settings.{is_user_name}
use Rattle.zp_props.specs.Lines.{Allowed, read_only, words, numbers, Native, includes}

-- a property that is only told
abbrev pub told_line : List ℕ → Kinds → Native
told_line name kinds = record { name = name; kinds = kinds; allowed = read_only; default = None; inherited = false }

-- a property that can be set: its name, kinds, values and default, and whether it is inherited
abbrev pub set_line : List ℕ → Kinds → Allowed → Option PropValue → Bool → Native
set_line name kinds allowed default inherited = record { name = name; kinds = kinds; allowed = allowed; default = default; inherited = inherited }

abbrev pub on_off : Allowed
on_off = words (codes "on" ∷ codes "off" ∷ [])

-- the table
abbrev pub native : Prop → Native
native prop.DatasetType = told_line (codes "type") Every
native prop.Guid = told_line (codes "guid") Every
native prop.Createtxg = told_line (codes "createtxg") Every
native prop.Stamp = told_line (codes "stamp") Every
native prop.Origin = told_line (codes "origin") Heads
native prop.Userrefs = told_line (codes "userrefs") Snapshots
native prop.DeferDestroy = told_line (codes "defer_destroy") Snapshots
native prop.Clones = told_line (codes "clones") Snapshots
native prop.Readonly = set_line (codes "readonly") Heads on_off (Some (Text (codes "off"))) true
native prop.Atime = set_line (codes "atime") Filesystems on_off (Some (Text (codes "on"))) true
native prop.Exec = set_line (codes "exec") Filesystems on_off (Some (Text (codes "on"))) true
native prop.Setuid = set_line (codes "setuid") Filesystems on_off (Some (Text (codes "on"))) true
native prop.Devices = set_line (codes "devices") Filesystems on_off (Some (Text (codes "on"))) true
native prop.Snapdir = set_line (codes "snapdir") Filesystems (words (codes "hidden" ∷ codes "visible" ∷ [])) (Some (Text (codes "hidden"))) true
native prop.Sync = set_line (codes "sync") Heads (words (codes "standard" ∷ codes "always" ∷ codes "disabled" ∷ [])) (Some (Text (codes "standard"))) true
native prop.Primarycache = set_line (codes "primarycache") Heads (words (codes "all" ∷ codes "none" ∷ codes "metadata" ∷ [])) (Some (Text (codes "all"))) true
native prop.Copies = set_line (codes "copies") Heads (numbers 1 3 Any) (Some (Number 1)) true
native prop.Recordsize = set_line (codes "recordsize") Filesystems (numbers 512 1048576 PowerOfTwo) (Some (Number 131072)) true
native prop.Canmount = set_line (codes "canmount") Filesystems (words (codes "on" ∷ codes "off" ∷ codes "noauto" ∷ [])) (Some (Text (codes "on"))) false
native prop.Volsize = set_line (codes "volsize") Volumes (numbers 512 9223372036854775296 (MultipleOf 512)) None false

-- the native properties in the order of the table
abbrev pub natives : List Prop
natives =
    prop.DatasetType ∷ prop.Guid ∷ prop.Createtxg ∷ prop.Stamp ∷ prop.Origin ∷ prop.Userrefs ∷ prop.DeferDestroy ∷ prop.Clones
    ∷ prop.Readonly ∷ prop.Atime ∷ prop.Exec ∷ prop.Setuid ∷ prop.Devices ∷ prop.Snapdir ∷ prop.Sync ∷ prop.Primarycache
    ∷ prop.Copies ∷ prop.Recordsize ∷ prop.Canmount ∷ prop.Volsize ∷ []

-- the native property of this name
abbrev pub prop_named : List ℕ → Option Prop
prop_named name = find (λ p. bytes_eq (native p).name name) natives

abbrev pub is_settable : Allowed → Bool
is_settable read_only = false
is_settable (words ws) = true
is_settable (numbers low high rule) = true

-- a property that a dataset of this kind can have set
abbrev pub can_have : Kind3 → Native → Bool
can_have kind l = is_settable l.allowed && includes l.kinds kind

-- the same by the property's name: each dataset can have user properties
abbrev pub can_have_named : Kind3 → List ℕ → Bool
can_have_named kind name = if is_user_name name then true else option_map_or (λ p. can_have kind (native p)) (prop_named name) false

-- whether heads below take over what is set: always of user properties
abbrev pub is_inherited : List ℕ → Bool
is_inherited name = if is_user_name name then true else option_map_or (λ p. (native p).inherited) (prop_named name) false

-- what holds where nothing is set; a user property has no default
abbrev pub default_named : List ℕ → Option PropValue
default_named name = if is_user_name name then None else option_and_then (λ p. (native p).default) (prop_named name)
