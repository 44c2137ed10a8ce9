-- A line of the table of native properties: zfsprops(7), "Native Properties"; zfs_prop.c of OpenZFS has such a table.
use Rattle.std.specs.Prelude.{ℕ, ◌==◌, ◌%◌, Bool, true, false, List, map, Option, Some, None}
use Rattle.std.specs.Borrow.{Bor}
use Rattle.std.specs.Int.{is_power_of_two}
use Rattle.zp_props.specs.declared.setting.PropValue.{PropValue}
use Rattle.zp_props.specs.declared.setting.PropValue.TheVariants.{Number, Text}
use Rattle.zp_props.specs.declared.kind.Kind3.{Kind3}
use Rattle.zp_props.specs.declared.kind.Kind3.TheVariants as kind
use Rattle.zp_props.specs.declared.kind.Kinds.{Kinds}
use Rattle.zp_props.specs.declared.kind.Kinds.TheVariants as kinds
use Rattle.zp_props.specs.declared.line.Rule.{Rule}
use Rattle.zp_props.specs.declared.line.Rule.TheVariants as rule
use Rattle.zp_props.specs.declared.line.Values.{Values}
use Rattle.zp_props.specs.declared.line.Values.TheVariants as values
use Rattle.zp_props.specs.declared.line.Preset.{Preset}
use Rattle.zp_props.specs.declared.line.Preset.TheVariants as preset
use Rattle.zp_props.specs.declared.line.Line.{Line}

-- whether the kinds include this one
abbrev pub includes : Kinds → Kind3 → Bool
includes kinds.Every k = true
includes kinds.Heads kind.Filesystem = true
includes kinds.Heads kind.Volume = true
includes kinds.Heads kind.Snapshot = false
includes kinds.Filesystems kind.Filesystem = true
includes kinds.Filesystems kind.Volume = false
includes kinds.Filesystems kind.Snapshot = false
includes kinds.Volumes kind.Filesystem = false
includes kinds.Volumes kind.Volume = true
includes kinds.Volumes kind.Snapshot = false
includes kinds.Snapshots kind.Filesystem = false
includes kinds.Snapshots kind.Volume = false
includes kinds.Snapshots kind.Snapshot = true

abbrev pub keeps_rule : Rule → ℕ → Bool
keeps_rule rule.Any n = true
keeps_rule rule.PowerOfTwo n = is_power_of_two n
keeps_rule (rule.MultipleOf k) n = n % k == 0

-- what a native property can be set to
pub data Allowed : Type 0 where
  -- nothing: it is only told
  read_only : Allowed
  -- one of these words
  words : List (List ℕ) → Allowed
  -- a whole number from the first to the second that keeps the rule
  numbers : ℕ → ℕ → Rule → Allowed

-- what the table says of a native property
pub record Native : Type 0 where
  pub name : List ℕ
  pub kinds : Kinds
  pub allowed : Allowed
  pub default : Option PropValue
  pub inherited : Bool

-- what the lines of the code's table say
abbrev pub words_of : List (Bor (List ℕ)) → Allowed
words_of ws = words (map (λ w. w.now) ws)

abbrev pub allowed_by : Values → Allowed
allowed_by values.ReadOnly = read_only
allowed_by (values.Words ws) = words_of ws.now
allowed_by (values.Numbers low high rule) = numbers low high rule

abbrev pub preset_value : Preset → Option PropValue
preset_value preset.Nothing = None
preset_value (preset.Word w) = Some (Text w.now)
preset_value (preset.Whole n) = Some (Number n)

abbrev pub said_by : Line → Native
said_by l = record { name = l.name.now; kinds = l.kinds; allowed = allowed_by l.values; default = preset_value l.preset; inherited = l.inherited }
