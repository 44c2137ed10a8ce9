-- User properties: zfsprops(7), "User Properties".
use Rattle.std.specs.Prelude.{ℕ, ◌==◌, ◌&&◌, ◌||◌, Bool, false, not, nat_le, List, [], ◌∷◌, length}
use Rattle.std.specs.Char.{is_ascii_lowercase, is_ascii_digit}
use Rattle.std.specs.List.{list_all}
use Rattle.zp_props.specs.Settings.{is_user_name}

-- a lowercase letter, a digit, `:`, `-`, `.` or `_`
abbrev pub is_user_name_byte : ℕ → Bool
is_user_name_byte b = is_ascii_lowercase b || is_ascii_digit b || b == 58 || b == 45 || b == 46 || b == 95

abbrev pub begins_with_dash : List ℕ → Bool
begins_with_dash [] = false
begins_with_dash (b ∷ bs) = b == 45

-- the name of a user property: with a colon, of such bytes, without a leading dash, at most 256 bytes
abbrev pub is_valid_user_name : List ℕ → Bool
is_valid_user_name name = is_user_name name && list_all is_user_name_byte name && not (begins_with_dash name) && nat_le (length name) 256

-- how many bytes the value of a user property has at most; OpenZFS allows more, this limit is this project's own
abbrev pub longest_user_value : ℕ
longest_user_value = 1024
