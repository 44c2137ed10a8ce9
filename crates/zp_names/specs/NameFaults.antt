-- The first fault of a text that is no name.
use Rattle.std.specs.Prelude.{ℕ, ◌+◌, ◌-◌, ◌==◌, ◌&&◌, ◌||◌, ◌≡◌, Bool, not, nat_lt, if◌then◌else◌, List, length, take, slice_index, slice_get, Option, Some, None}
use Rattle.std.specs.Char.{is_ascii_alphabetic}
use Rattle.std.specs.List.{list_any, filter_map, range_with_len}
use Rattle.std.specs.Option.{option_or}
use Rattle.zp_names.specs.declared.bad_name.BadName.{BadName}
use Rattle.zp_names.specs.declared.bad_name.BadName.TheVariants as bad
use Rattle.zp_names.specs.Names.{is_slash, is_mark, is_separator, is_name_byte, parts_of}

-- a byte that no name has, a slash behind a mark, or a first byte that parts may have and that is no letter
abbrev pub is_bad_byte : ℕ → ℕ → Bool → Bool
is_bad_byte at b marked =
    not (is_name_byte b || is_separator b)
    || (is_slash b && marked)
    || (at == 0 && is_name_byte b && not (is_ascii_alphabetic b))

-- what is wrong at a place with this byte, or at the end, where a mark stands before it or a part starts there
abbrev pub fault_of : ℕ → Option ℕ → Bool → Bool → Option BadName
fault_of at None marked starts = if starts then Some (bad.EmptyPart at) else None
fault_of at (Some b) marked starts =
    if is_bad_byte at b marked then Some (bad.BadByte at)
    else (if is_mark b && marked then Some (bad.TwoMarks at)
    else (if is_separator b && starts then Some (bad.EmptyPart at) else None))

-- a mark stands before this place
abbrev pub is_marked : List ℕ → ℕ → Bool
is_marked t at = list_any is_mark (take at t)

-- a part or a short name starts at this place
abbrev pub starts_part : List ℕ → ℕ → Bool
starts_part t at = at == 0 || is_separator (slice_index t (at - 1))

-- what is wrong at this place
abbrev pub fault_at : List ℕ → ℕ → Option BadName
fault_at t at = fault_of at (slice_get t at) (is_marked t at) (starts_part t at)

-- the first fault among these n places, from `at` on
abbrev pub first_fault : List ℕ → ℕ → ℕ → Option BadName
first_fault t at n = slice_get (filter_map (fault_at t) (range_with_len at n)) 0

-- more than 50 parts
abbrev pub depth_fault : List ℕ → Option BadName
depth_fault t = if nat_lt 50 (length (parts_of t)) then Some (bad.TooDeep (length (parts_of t))) else None

-- the fault that is reported: of the length, then at the first place of the text, its end included, then of the depth
unfoldable pub name_fault : List ℕ → Option BadName
name_fault t =
    if length t == 0 then Some bad.Empty
    else (if nat_lt 255 (length t) then Some (bad.TooLong (length t))
    else option_or (first_fault t 0 (length t + 1)) (depth_fault t))

-- the answer is the text's fault, or memory was wanting, of which nothing is said
abbrev pub IsRefusal : BadName → List ℕ → Type 0
IsRefusal bad.NoMemory t = Unit {0}
IsRefusal e t = name_fault t ≡ Some e
