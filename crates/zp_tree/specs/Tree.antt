-- The tree of a pool: its records in order of birth, and the id that the next record takes.
-- Source: zfs(8), "ZFS File System Hierarchy" and "Snapshots"; ids in order of birth are this project's own.
use Rattle.std.specs.Prelude.{ℕ, ◌+◌, ◌-◌, ◌^◌, ◌==◌, ◌||◌, ◌≡◌, ◌≤◌, nat_le, Bool, true, false, cond, List, [], ◌∷◌, ◌++◌, length, map, bytes_eq, Option, Some, None, is_some, option_map, option_and_then, unwrap_or, find, MatchOption}
use Rattle.zp_names.specs.NameParts.{parent_of, within_name}
use Rattle.zp_tree.specs.declared.item.Item.{Item}
use Rattle.zp_tree.specs.declared.item.Item.TheVariants as item
use Rattle.zp_tree.specs.declared.item.Head.{Head}
use Rattle.zp_tree.specs.declared.item.Snapshot.{Snapshot}
use Rattle.zp_tree.specs.declared.item.Bookmark.{Bookmark}

-- the records in order of birth, and the id that the next one takes
pub record Tree : Type 0 where
  pub records : List Item
  pub next : ℕ

abbrev pub id_of : Item → ℕ
id_of (item.Head d) = d.id
id_of (item.Snap s) = s.id
id_of (item.Mark m) = m.id

abbrev pub has_id : ℕ → Item → Bool
has_id i r = id_of r == i

-- the record with this id
abbrev pub at : List Item → ℕ → Option Item
at rs i = find (has_id i) rs

-- the list with x in the place of the record that has x's id
abbrev pub put : Item → List Item → List Item
put x [] = []
put x (r ∷ rs) = cond (has_id (id_of x) r) (x ∷ rs) (r ∷ put x rs)

-- the list without the record with this id
abbrev pub without : ℕ → List Item → List Item
without i [] = []
without i (r ∷ rs) = cond (has_id i r) rs (r ∷ without i rs)

-- the ids rise along the list, from low on, and are below next
abbrev pub Rises : ℕ → List Item → ℕ → Type 0
Rises low [] next = low ≤ next
Rises low (r ∷ rs) next = (low ≤ id_of r) × Rises (id_of r + 1) rs next

abbrev pub as_head : Item → Option Head
as_head (item.Head d) = Some d
as_head (item.Snap s) = None
as_head (item.Mark m) = None

abbrev pub as_snapshot : Item → Option Snapshot
as_snapshot (item.Head d) = None
as_snapshot (item.Snap s) = Some s
as_snapshot (item.Mark m) = None

abbrev pub as_bookmark : Item → Option Bookmark
as_bookmark (item.Head d) = None
as_bookmark (item.Snap s) = None
as_bookmark (item.Mark m) = Some m

-- the name of the head with this id
abbrev pub head_name : List Item → ℕ → Option (List ℕ)
head_name rs i = option_map (λ (d : Head). d.name) (option_and_then as_head (at rs i))

-- the full name: of a snapshot or bookmark, its owner's name, `@` or `#`, and the short name
abbrev pub full_name : List Item → Item → Option (List ℕ)
full_name rs (item.Head d) = Some d.name
full_name rs (item.Snap s) = option_map (λ n. n ++ 64 ∷ s.short) (head_name rs s.owner)
full_name rs (item.Mark m) = option_map (λ n. n ++ 35 ∷ m.short) (head_name rs m.owner)

abbrev pub is_text : List ℕ → Option (List ℕ) → Bool
is_text t None = false
is_text t (Some u) = bytes_eq u t

-- the record has this full name
abbrev pub is_called : List Item → List ℕ → Item → Bool
is_called rs name r = is_text name (full_name rs r)

-- the full name of the record with this id; none where there is none, or where it is longer than a name may be
abbrev pub record_name : List Item → ℕ → Option (List ℕ)
record_name rs i = option_and_then within_name (option_and_then (full_name rs) (at rs i))

-- a record with this full name
abbrev pub named : List Item → List ℕ → Option Item
named rs name = find (is_called rs name) rs

-- what a look-up by name answers: none where no record has the name, else the id of one that has it
abbrev pub Finds : List Item → List ℕ → Option ℕ → Type 0
Finds rs name found = MatchOption found (named rs name ≡ None) (λ i. (r : Item) × (at rs i ≡ Some r) × (is_called rs name r ≡ true))

-- some record has this full name
abbrev pub exists : Tree → List ℕ → Bool
exists t name = is_some (named t.records name)

-- the head of this name
abbrev pub head_named : Tree → List ℕ → Option Head
head_named t name = option_and_then as_head (named t.records name)

-- the snapshot of this name
abbrev pub snapshot_named : Tree → List ℕ → Option Snapshot
snapshot_named t name = option_and_then as_snapshot (named t.records name)

-- the bookmark of this name
abbrev pub bookmark_named : Tree → List ℕ → Option Bookmark
bookmark_named t name = option_and_then as_bookmark (named t.records name)

-- the head with this id
abbrev pub head_at : Tree → ℕ → Option Head
head_at t i = option_and_then as_head (at t.records i)

-- the snapshot with this id
abbrev pub snapshot_at : Tree → ℕ → Option Snapshot
snapshot_at t i = option_and_then as_snapshot (at t.records i)

-- the head that the name would stand below
abbrev pub parent_in : Tree → List ℕ → Option Head
parent_in t name = option_and_then (head_named t) (parent_of name)

-- how many records a tree has at most; this limit is this project's own
abbrev pub most_records : ℕ
most_records = 100000

-- the tree takes no further record
abbrev pub is_full : Tree → Bool
is_full t = nat_le most_records (length t.records) || t.next == 2 ^ 64 - 1

-- the tree with a new record, which goes last
abbrev pub added : Tree → Item → Tree
added t x = record { records = t.records ++ x ∷ []; next = t.next + 1 }

-- the tree with a record in the place of the one that has its id
abbrev pub replaced : Tree → Item → Tree
replaced t x = record t { records = put x t.records }

-- the tree without the record with this id
abbrev pub removed : Tree → ℕ → Tree
removed t i = record t { records = without i t.records }

-- the list with each record that a change speaks of as the change makes it, and the others as they are
abbrev pub changed : (Item → Option Item) → List Item → List Item
changed change rs = map (λ r. unwrap_or (change r) r) rs
