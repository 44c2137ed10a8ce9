-- Which texts are names of datasets, snapshots and bookmarks: the component naming rules of zfs(8) and
-- zfs_namecheck.c of OpenZFS. That a part may also be `.` or `..` is this project's own choice.
use Rattle.std.specs.Prelude.{ℕ, ◌==◌, ◌&&◌, ◌||◌, Bool, false, nat_le, List, [], ◌∷◌, length, find, Option, Some, None, is_none, if◌then◌else◌}
use Rattle.std.specs.Char.{is_ascii_alphabetic, is_ascii_alphanumeric}
use Rattle.std.specs.List.{before_first, after_first, list_all, slice_split}

-- `/`
abbrev pub is_slash : ℕ → Bool
is_slash b = b == 47

-- `@` or `#`
abbrev pub is_mark : ℕ → Bool
is_mark b = b == 64 || b == 35

-- what ends a part: a slash or a mark
abbrev pub is_separator : ℕ → Bool
is_separator b = is_slash b || is_mark b

-- a byte of a part or of a short name: a letter, a digit, `_`, `-`, `:`, `.` or a space
abbrev pub is_name_byte : ℕ → Bool
is_name_byte b = is_ascii_alphanumeric b || b == 95 || b == 45 || b == 58 || b == 46 || b == 32

-- one or more such bytes
abbrev pub is_part : List ℕ → Bool
is_part [] = false
is_part (b ∷ bs) = list_all is_name_byte (b ∷ bs)

-- a short name is written as a part is
unfoldable pub is_valid_short : List ℕ → Bool
is_valid_short s = is_part s

-- what stands before the mark: the dataset's name
abbrev pub head_of : List ℕ → List ℕ
head_of t = before_first is_mark t

-- what stands after the mark
abbrev pub short_of : List ℕ → List ℕ
short_of t = after_first is_mark t

-- a name without a mark is that of a dataset
abbrev pub is_head : List ℕ → Bool
is_head t = is_none (find is_mark t)

-- the parts of the dataset's name, which slashes join
abbrev pub parts_of : List ℕ → List (List ℕ)
parts_of t = slice_split is_slash (head_of t)

-- a text begins with a letter
abbrev pub begins_with_letter : List ℕ → Bool
begins_with_letter [] = false
begins_with_letter (b ∷ bs) = is_ascii_alphabetic b

-- parts that slashes join, then at most one mark with a short name
abbrev pub is_joined : List ℕ → Bool
is_joined t = list_all is_part (parts_of t) && (is_head t || is_valid_short (short_of t))

-- a name: joined parts of which the first begins with a letter, at most 255 bytes and 50 parts
unfoldable pub is_valid_name : List ℕ → Bool
is_valid_name t = begins_with_letter t && is_joined t && nat_le (length t) 255 && nat_le (length (parts_of t)) 50

-- the text as a name, where it is one
abbrev pub as_name : List ℕ → Option (List ℕ)
as_name t = if is_valid_name t then Some t else None

-- a valid name of a dataset
abbrev pub is_valid_head : List ℕ → Bool
is_valid_head t = is_valid_name t && is_head t
