-- The least name above a text, by bytes: how zfs-list(8) goes through children, snapshots and clones.
use Rattle.std.specs.Prelude.{ℕ, ◌≡◌, ◌==◌, ◌&&◌, Bool, true, false, List, ◌∷◌, ◌++◌, Option, Some, None, slice_get, MatchOption, if◌then◌else◌}
use Rattle.std.specs.Option.{option_map_or}
use Rattle.std.specs.Ordering.{nat_cmp, is_gt}
use Rattle.std.specs.Cmp.Lexicographic.{slice_cmp}
use Rattle.zp_names.specs.NameParts.{parent_of}
use Rattle.zp_tree.specs.declared.item.Item.{Item}
use Rattle.zp_tree.specs.declared.item.Item.TheVariants as item
use Rattle.zp_tree.specs.Tree.{as_head, as_snapshot, as_bookmark, is_text, head_name, id_of}

abbrev pub is_above : List ℕ → List ℕ → Bool
is_above x y = is_gt (slice_cmp nat_cmp x y)

-- a head right below the head of this name, with a name above the text
abbrev pub child_above : List ℕ → List ℕ → Item → Bool
child_above parent after r = option_map_or (λ d. is_text parent (parent_of d.name) && is_above d.name after) (as_head r) false

-- the same, below the head with this id
abbrev pub is_child_above : List Item → ℕ → List ℕ → Item → Bool
is_child_above rs parent after r = option_map_or (λ n. child_above n after r) (head_name rs parent) false

-- a snapshot of this head, which has this name, with a full name above the text
abbrev pub snapshot_above : ℕ → List ℕ → List ℕ → Item → Bool
snapshot_above owner name after r = option_map_or (λ s. s.owner == owner && is_above (name ++ (64 ∷ s.short)) after) (as_snapshot r) false

abbrev pub is_snapshot_above : List Item → ℕ → List ℕ → Item → Bool
is_snapshot_above rs owner after r = option_map_or (λ n. snapshot_above owner n after r) (head_name rs owner) false

-- a bookmark of this head, which has this name, with a full name above the text
abbrev pub bookmark_above : ℕ → List ℕ → List ℕ → Item → Bool
bookmark_above owner name after r = option_map_or (λ m. m.owner == owner && is_above (name ++ (35 ∷ m.short)) after) (as_bookmark r) false

abbrev pub is_bookmark_above : List Item → ℕ → List ℕ → Item → Bool
is_bookmark_above rs owner after r = option_map_or (λ n. bookmark_above owner n after r) (head_name rs owner) false

abbrev pub is_id : ℕ → Option ℕ → Bool
is_id i None = false
is_id i (Some k) = k == i

-- a head whose origin is this snapshot, with a name above the text
abbrev pub is_clone_above : ℕ → List ℕ → Item → Bool
is_clone_above snapshot after r = option_map_or (λ d. is_id snapshot d.origin && is_above d.name after) (as_head r) false

-- what orders the heads, and the snapshots and bookmarks of one head: the name, the short name
abbrev pub key_of : Item → List ℕ
key_of (item.Head d) = d.name
key_of (item.Snap s) = s.short
key_of (item.Mark m) = m.short

-- no record passes
pub record NoneComes (rs : List Item) (may : Item → Bool) : Type 0 where
  pub none : (k : ℕ) (r : Item) → slice_get rs k ≡ Some r → may r ≡ false

-- the record is in the list and passes, and no other that passes comes before it by name
pub record ComesFirst (rs : List Item) (may : Item → Bool) (r : Item) : Type 0 where
  pub place : ℕ
  pub there : slice_get rs place ≡ Some r
  pub passes : may r ≡ true
  pub least : (k : ℕ) (u : Item) → slice_get rs k ≡ Some u → may u ≡ true → is_above (key_of r) (key_of u) ≡ false

abbrev pub Comes : List Item → (Item → Bool) → Option Item → Type 0
Comes rs may found = MatchOption found (NoneComes rs may) (ComesFirst rs may)

-- the id of one that comes first
pub record HasFirst (rs : List Item) (may : Item → Bool) (i : ℕ) : Type 0 where
  pub item : Item
  pub id : id_of item ≡ i
  pub first : ComesFirst rs may item

-- what such a look-up answers: none exactly where no record passes, else the id of one that comes first
abbrev pub IsNext : List Item → (Item → Bool) → Option ℕ → Type 0
IsNext rs may found = MatchOption found (NoneComes rs may) (HasFirst rs may)

-- the record, where it passes and comes before the one that was found
abbrev pub lesser : Item → Option Item → Option Item
lesser r None = Some r
lesser r (Some old) = if is_above (key_of old) (key_of r) then Some r else Some old

abbrev pub better : Bool → Option Item → Item → Option Item
better may found r = if may then lesser r found else found
