-- What stands or falls with a record: the children, snapshots, bookmarks and clones of zfs-destroy(8), and the user
-- references of zfs-hold(8).
use Rattle.std.specs.Prelude.{ℕ, ◌==◌, Bool, false, nat_lt, List, length, filter, not}
use Rattle.std.specs.List.{list_any}
use Rattle.std.specs.Option.{option_map_or}
use Rattle.zp_names.specs.NameParts.{parent_of}
use Rattle.zp_tree.specs.declared.item.Item.{Item}
use Rattle.zp_tree.specs.declared.item.Head.{Head}
use Rattle.zp_tree.specs.declared.item.Snapshot.{Snapshot}
use Rattle.zp_tree.specs.Tree.{Tree, as_head, as_snapshot, as_bookmark, is_text}
use Rattle.zp_tree.specs.NextByName.{is_id}

-- a head right below the head of this name
abbrev pub is_child_of : List ℕ → Item → Bool
is_child_of parent r = option_map_or (λ d. is_text parent (parent_of d.name)) (as_head r) false

-- a snapshot of the head with this id
abbrev pub is_snapshot_of : ℕ → Item → Bool
is_snapshot_of owner r = option_map_or (λ s. s.owner == owner) (as_snapshot r) false

-- a bookmark of the head with this id
abbrev pub is_bookmark_of : ℕ → Item → Bool
is_bookmark_of owner r = option_map_or (λ m. m.owner == owner) (as_bookmark r) false

-- a head whose origin is the snapshot with this id
abbrev pub is_clone_of : ℕ → Item → Bool
is_clone_of snapshot r = option_map_or (λ d. is_id snapshot d.origin) (as_head r) false

abbrev pub has_children : Tree → Head → Bool
has_children t d = list_any (is_child_of d.name) t.records

abbrev pub has_snapshots : Tree → Head → Bool
has_snapshots t d = list_any (is_snapshot_of d.id) t.records

abbrev pub has_clones : Tree → Snapshot → Bool
has_clones t s = list_any (is_clone_of s.id) t.records

-- a user reference is on the snapshot
abbrev pub is_held : Snapshot → Bool
is_held s = nat_lt 0 (length s.holds)

-- the tree without the bookmarks of the head with this id
abbrev pub without_bookmarks : Tree → ℕ → Tree
without_bookmarks t i = record t { records = filter (λ r. not (is_bookmark_of i r)) t.records }
