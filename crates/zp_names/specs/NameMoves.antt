-- What a rename of a dataset makes of its name and of the names below it: zfs-rename(8).
use Rattle.std.specs.Prelude.{ℕ, ◌+◌, ◌&&◌, ◌||◌, Bool, nat_lt, if◌then◌else◌, List, ◌++◌, length, drop, bytes_eq}
use Rattle.zp_names.specs.Names.{parts_of}
use Rattle.zp_names.specs.NameParts.{is_below}

-- the name of this dataset, or of one below it: `a/b` is below `a`, and `ab` isn't
abbrev pub is_at_or_below : List ℕ → List ℕ → Bool
is_at_or_below name dataset = bytes_eq name dataset || is_below name dataset

-- the name with the new front in the place of the old one
abbrev pub moved : List ℕ → List ℕ → List ℕ → List ℕ
moved old new name = new ++ drop (length old) name

-- the name after the dataset `old` is renamed to `new`
abbrev pub name_after : List ℕ → List ℕ → List ℕ → List ℕ
name_after old new name = if is_at_or_below name old then moved old new name else name

-- the rename would make the name, with so many bytes behind it, longer than 255 bytes or deeper than 50 parts
abbrev pub outgrows : List ℕ → List ℕ → List ℕ → ℕ → Bool
outgrows old new name more =
    is_at_or_below name old
    && (nat_lt 255 (length (moved old new name) + more) || nat_lt 50 (length (parts_of (moved old new name))))
