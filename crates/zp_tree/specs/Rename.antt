-- Renaming a dataset, and with it all that is below it: zfs-rename(8).
use Rattle.std.specs.Prelude.{ℕ, ◌+◌, ◌&&◌, Bool, false, not, is_some, if◌then◌else◌, List, [], ◌∷◌, length, Option, Some, None}
use Rattle.std.specs.List.{list_any}
use Rattle.std.specs.Option.{option_map_or}
use Rattle.zp_names.specs.Names.{is_head}
use Rattle.zp_names.specs.NameParts.{is_below, is_pool}
use Rattle.zp_names.specs.NameMoves.{is_at_or_below, moved, outgrows}
use Rattle.zp_names.specs.ErrorNumbers.{eexist, einval, enametoolong, enoent}
use Rattle.zp_names.specs.declared.verdict.Verdict.{Verdict}
use Rattle.zp_tree.specs.declared.item.Item.{Item}
use Rattle.zp_tree.specs.declared.item.Item.TheVariants as item
use Rattle.zp_tree.specs.Tree.{Tree, head_name, head_named, exists, parent_in, changed}
use Rattle.zp_tree.specs.Items.{is_volume}
use Rattle.zp_tree.specs.Rows.{refuse, first_row}

-- the name of the dataset that a record is, or that it belongs to
abbrev pub dataset_name : List Item → Item → Option (List ℕ)
dataset_name rs (item.Head d) = Some d.name
dataset_name rs (item.Snap s) = head_name rs s.owner
dataset_name rs (item.Mark m) = head_name rs m.owner

-- how many bytes its full name has behind that: a mark and a short name
abbrev pub bytes_behind : Item → ℕ
bytes_behind (item.Head d) = 0
bytes_behind (item.Snap s) = length s.short + 1
bytes_behind (item.Mark m) = length m.short + 1

-- the record would get a full name that is too long, or too deep
abbrev pub would_outgrow : List Item → List ℕ → List ℕ → Item → Bool
would_outgrow rs name to r = option_map_or (λ n. outgrows name to n (bytes_behind r)) (dataset_name rs r) false

abbrev pub rename_rows : Tree → List ℕ → List ℕ → List (Bool × Verdict)
rename_rows t name to =
    (not (is_head name && is_head to), refuse einval)
    ∷ (not (is_some (head_named t name)), refuse enoent)
    ∷ (is_pool name, refuse einval)
    ∷ (exists t to, refuse eexist)
    ∷ (is_below to name, refuse einval)
    ∷ (not (is_some (parent_in t to)), refuse enoent)
    ∷ (option_map_or is_volume (parent_in t to) false, refuse einval)
    ∷ (list_any (would_outgrow t.records name to) t.records, refuse enametoolong)
    ∷ []

abbrev pub rename_check : Tree → List ℕ → List ℕ → Verdict
rename_check t name to = first_row (rename_rows t name to)

-- what becomes of a record: a head at or below the name has the new front; snapshots and bookmarks follow by their owner
abbrev pub renamed : List ℕ → List ℕ → Item → Option Item
renamed name to (item.Head d) = if is_at_or_below d.name name then Some (item.Head (record d { name = moved name to d.name })) else None
renamed name to (item.Snap s) = None
renamed name to (item.Mark m) = None

abbrev pub rename_change : Tree → List ℕ → List ℕ → Tree
rename_change t name to = record t { records = changed (renamed name to) t.records }
