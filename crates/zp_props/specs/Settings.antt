-- The settings of a dataset: zfsprops(7), "Native Properties" and "User Properties".
use Rattle.std.specs.Prelude.{ℕ, ◌==◌, Bool, not, List, [], ◌∷◌, ◌++◌, map, filter, count_by, find, is_some, All, bytes_eq, codes, Option, if◌then◌else◌}
use Rattle.std.specs.List.{IsDistinct, list_any}
use Rattle.std.specs.Str.{IsUtf8}
use Rattle.zp_props.specs.declared.setting.Setting.{Setting}
use Rattle.zp_props.specs.declared.setting.PropValue.{PropValue}
use Rattle.zp_props.specs.declared.setting.PropValue.TheVariants.{Number, Text}

-- a user property's name has a colon
abbrev pub is_user_name : List ℕ → Bool
is_user_name name = list_any (λ b. b == 58) name

-- how many of the settings are of user properties
abbrev pub user_count : List Setting → ℕ
user_count settings = count_by (λ s. is_user_name s.name) settings

-- the setting of this name
abbrev pub setting_named : List ℕ → List Setting → Option Setting
setting_named name settings = find (λ s. bytes_eq s.name name) settings

abbrev pub has_setting : List ℕ → List Setting → Bool
has_setting name settings = is_some (setting_named name settings)

-- the new setting, where it has the name of the old one, else the old one
abbrev pub set_in_place : Setting → Setting → Setting
set_in_place new old = if bytes_eq old.name new.name then new else old

-- the settings with this one: in the place of the one of its name, else last
abbrev pub settings_with : Setting → List Setting → List Setting
settings_with new settings = if has_setting new.name settings then map (set_in_place new) settings else map (set_in_place new) settings ++ new ∷ []

-- the settings without the one of this name
abbrev pub settings_without : List ℕ → List Setting → List Setting
settings_without name settings = filter (λ s. not (bytes_eq s.name name)) settings

-- the size of a volume
abbrev pub volsize : List ℕ
volsize = codes "volsize"

-- a text value is UTF-8
abbrev pub IsValue : PropValue → Type 0
IsValue (Number n) = Unit {0}
IsValue (Text t) = IsUtf8 t

-- the settings of one record: their names differ, and their names and text values are UTF-8
pub record AreSettings (settings : List Setting) : Type 0 where
  pub distinct : IsDistinct bytes_eq (map (λ s. s.name) settings)
  pub names : All (λ s. IsUtf8 s.name) settings
  pub values : All (λ s. IsValue s.value) settings
