-- What a text sets a property to: zfs-set(8), zfsprops(7).
use Rattle.std.specs.Prelude.{ℕ, ◌==◌, ◌&&◌, Bool, true, false, not, nat_lt, nat_le, List, length, Option, Some, None, Result, Ok, Err, ◌≡◌, bytes_eq, if◌then◌else◌, option_and_then}
use Rattle.std.specs.Option.{option_map_or}
use Rattle.std.specs.Char.{is_ascii_digit}
use Rattle.std.specs.List.{list_any, list_all}
use Rattle.std.specs.Str.{is_utf8}
use Rattle.std.specs.Str.Parse.{digits_value}
use Rattle.zp_props.specs.declared.setting.Setting.{Setting}
use Rattle.zp_props.specs.declared.setting.PropValue.{PropValue}
use Rattle.zp_props.specs.declared.setting.PropValue.TheVariants.{Number, Text}
use Rattle.zp_props.specs.declared.kind.Kind3.{Kind3}
use Rattle.zp_props.specs.declared.line.Rule.{Rule}
use Rattle.zp_props.specs.declared.bad_setting.BadSetting.{BadSetting}
use Rattle.zp_props.specs.declared.bad_setting.BadSetting.TheVariants as bad
use Rattle.zp_props.specs.Settings.{is_user_name}
use Rattle.zp_props.specs.UserProperties.{is_valid_user_name, longest_user_value}
use Rattle.zp_props.specs.Lines.{Allowed, read_only, words, numbers, Native, includes, keeps_rule}
use Rattle.zp_props.specs.Properties.{native, prop_named, is_settable}

-- the number that a text of decimal digits writes; a sign is no digit
abbrev pub decimal_in : List ℕ → Option ℕ
decimal_in text = if not (length text == 0) && list_all is_ascii_digit text then Some (digits_value 10 text) else None

-- the number, where it may be set
abbrev pub if_within : ℕ → ℕ → Rule → ℕ → Option PropValue
if_within low high rule n = if nat_le low n && nat_le n high && keeps_rule rule n then Some (Number n) else None

-- the value that a text is
abbrev pub value_in : Allowed → List ℕ → Option PropValue
value_in read_only text = None
value_in (words ws) text = if list_any (λ w. bytes_eq w text) ws then Some (Text text) else None
value_in (numbers low high rule) text = option_and_then (if_within low high rule) (decimal_in text)

abbrev pub setting_of : List ℕ → PropValue → Setting
setting_of name value = record { name = name; value = value }

-- of a native property, or why there is none
abbrev pub native_setting : Kind3 → Native → List ℕ → Result Setting BadSetting
native_setting kind l text =
    if not (is_settable l.allowed) then Err bad.ReadOnly
    else (if not (includes l.kinds kind) then Err bad.NotForKind
    else option_map_or (λ value. Ok (setting_of l.name value)) (value_in l.allowed text) (Err bad.BadValue))

-- of a user property
abbrev pub user_setting : List ℕ → List ℕ → Result Setting BadSetting
user_setting name text =
    if not (is_valid_user_name name) then Err bad.BadUserName
    else (if not (is_utf8 text) then Err bad.BadValue
    else (if nat_lt longest_user_value (length text) then Err (bad.TooLong (length text))
    else Ok (setting_of name (Text text))))

-- the setting that a name and a text make on a dataset of this kind, or the first reason why they make none
abbrev pub setting_or_refusal : Kind3 → List ℕ → List ℕ → Result Setting BadSetting
setting_or_refusal kind name text =
    if is_user_name name then user_setting name text
    else option_map_or (λ p. native_setting kind (native p) text) (prop_named name) (Err bad.Unknown)

abbrev pub is_too_long : Result Setting BadSetting → Bool
is_too_long (Ok s) = false
is_too_long (Err bad.BadUserName) = false
is_too_long (Err bad.Unknown) = false
is_too_long (Err bad.ReadOnly) = false
is_too_long (Err bad.NotForKind) = false
is_too_long (Err bad.BadValue) = false
is_too_long (Err (bad.TooLong n)) = true
is_too_long (Err bad.NoMemory) = false

-- the refusal is the one that is due, or memory was wanting, of which nothing is said
abbrev pub IsDue : BadSetting → Result Setting BadSetting → Type 0
IsDue bad.NoMemory due = Unit {0}
IsDue e due = due ≡ Err e
