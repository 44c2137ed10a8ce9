-- The short names of snapshots, in byte order.
use Rattle.std.specs.Prelude.{ℕ, Bool, if◌then◌else◌, List, [], ◌∷◌, Option, Some, None, option_and_then}
use Rattle.std.specs.List.{filter_map}
use Rattle.std.specs.Ordering.{nat_cmp}
use Rattle.std.specs.Cmp.Lexicographic.{slice_cmp}
use Rattle.std.specs.BTreeSet.{insert_key}
use Rattle.zp_tree.specs.declared.item.Item.{Item}
use Rattle.zp_tree.specs.declared.item.Snapshot.{Snapshot}
use Rattle.zp_tree.specs.Tree.{as_snapshot}

-- the short name, where the record is a snapshot that passes
abbrev pub short_name_if : (Snapshot → Bool) → Item → Option (List ℕ)
short_name_if passes r = option_and_then (λ s. if passes s then Some s.short else None) (as_snapshot r)

-- texts in byte order, each once
abbrev pub in_byte_order : List (List ℕ) → List (List ℕ)
in_byte_order [] = []
in_byte_order (x ∷ xs) = insert_key (slice_cmp nat_cmp) (in_byte_order xs) x

-- the short names of the snapshots that pass, in byte order
abbrev pub short_names : (Snapshot → Bool) → List Item → List (List ℕ)
short_names passes rs = in_byte_order (filter_map (short_name_if passes) rs)
