-- Which trees are well formed.
-- Source: zfs(8) and zfsconcepts(7) on file systems, snapshots, clones and bookmarks; zfs-destroy(8) on deferred
-- destruction; zfsprops(7) on volsize. The limits are this project's own.
use Rattle.std.specs.Prelude.{ℕ, ◌≡◌, ◌≤◌, ◌⊎◌, true, List, [], length, map, sum_by, All, bytes_eq, Option, Some, IsSome, option_and_then}
use Rattle.std.specs.List.{IsDistinct}
use Rattle.std.specs.Str.{IsUtf8}
use Rattle.zp_names.specs.Names.{is_valid_name, is_valid_short, is_head}
use Rattle.zp_names.specs.NameParts.{parent_of, is_pool}
use Rattle.zp_props.specs.Settings.{AreSettings, has_setting, user_count, volsize}
use Rattle.zp_tree.specs.declared.item.Item.{Item}
use Rattle.zp_tree.specs.declared.item.Item.TheVariants as item
use Rattle.zp_tree.specs.declared.item.HeadKind.TheVariants.{Filesystem, Volume}
use Rattle.zp_tree.specs.declared.item.Head.{Head}
use Rattle.zp_tree.specs.declared.item.Snapshot.{Snapshot}
use Rattle.zp_tree.specs.declared.item.Bookmark.{Bookmark}
use Rattle.zp_tree.specs.declared.item.Hold.{Hold}
use Rattle.zp_tree.specs.Tree.{Tree, at, as_head, as_snapshot, as_bookmark, Rises, most_records}

-- what is at each id
abbrev pub Look : Type 0
Look = ℕ → Option Item

abbrev pub head_in : Look → ℕ → Option Head
head_in look i = option_and_then as_head (look i)

abbrev pub snapshot_in : Look → ℕ → Option Snapshot
snapshot_in look i = option_and_then as_snapshot (look i)

abbrev pub bookmark_in : Look → ℕ → Option Bookmark
bookmark_in look i = option_and_then as_bookmark (look i)

-- a volume has a size (zfsprops(7), volsize)
abbrev pub HasSize : Head → Type 0
HasSize d = d.kind ≡ Volume → has_setting volsize d.settings ≡ true

-- what a head says by itself
pub record IsHead (d : Head) : Type 0 where
  pub name : is_valid_name d.name ≡ true
  pub form : is_head d.name ≡ true
  pub settings : AreSettings d.settings
  pub size : HasSize d

-- what a snapshot says by itself: its tags differ and are UTF-8
pub record IsSnapshot (s : Snapshot) : Type 0 where
  pub short : is_valid_short s.short ≡ true
  pub settings : AreSettings s.settings
  pub tags : IsDistinct bytes_eq (map (λ (h : Hold). h.tag) s.holds)
  pub texts : All (λ (h : Hold). IsUtf8 h.tag) s.holds

-- a record by itself
abbrev pub IsRecord : Item → Type 0
IsRecord (item.Head d) = IsHead d
IsRecord (item.Snap s) = IsSnapshot s
IsRecord (item.Mark m) = is_valid_short m.short ≡ true

-- ids rise, and each record is in order by itself
pub record AreRecords (t : Tree) : Type 0 where
  pub rises : Rises 0 t.records t.next
  pub records : (i : ℕ) (r : Item) → at t.records i ≡ Some r → IsRecord r

-- the pool's head, the first of all records
pub record HasPool (look : Look) : Type 0 where
  pub id : ℕ
  pub head : Head
  pub there : head_in look id ≡ Some head
  pub part : is_pool head.name ≡ true
  pub first : (i : ℕ) → IsSome (look i) → id ≤ i

-- a head of kind filesystem that has this name
pub record HasFilesystem (look : Look) (name : List ℕ) : Type 0 where
  pub id : ℕ
  pub head : Head
  pub there : head_in look id ≡ Some head
  pub named : head.name ≡ name
  pub kind : head.kind ≡ Filesystem

-- the name has a parent, and that is a head of kind filesystem
pub record HasParent (look : Look) (name : List ℕ) : Type 0 where
  pub parent : List ℕ
  pub is : parent_of name ≡ Some parent
  pub filesystem : HasFilesystem look parent

-- a head whose origin is this snapshot
pub record HasClone (look : Look) (snapshot : ℕ) : Type 0 where
  pub id : ℕ
  pub head : Head
  pub there : head_in look id ≡ Some head
  pub origin : head.origin ≡ Some snapshot

-- what the records say of each other
pub record Agrees (look : Look) : Type 0 where
  pub records : (i : ℕ) (r : Item) → look i ≡ Some r → IsRecord r
  pub pool : HasPool look
  pub names : (i j : ℕ) (d e : Head) → head_in look i ≡ Some d → head_in look j ≡ Some e → d.name ≡ e.name → i ≡ j
  pub parents : (i : ℕ) (d : Head) → head_in look i ≡ Some d → (i ≡ pool.id) ⊎ HasParent look d.name
  pub owners : (i : ℕ) (s : Snapshot) → snapshot_in look i ≡ Some s → IsSome (head_in look s.owner)
  pub shorts : (i j : ℕ) (s u : Snapshot) → snapshot_in look i ≡ Some s → snapshot_in look j ≡ Some u → s.owner ≡ u.owner → s.short ≡ u.short → i ≡ j
  pub bookmark_owners : (i : ℕ) (m : Bookmark) → bookmark_in look i ≡ Some m → IsSome (head_in look m.owner)
  pub bookmark_shorts : (i j : ℕ) (m n : Bookmark) → bookmark_in look i ≡ Some m → bookmark_in look j ≡ Some n → m.owner ≡ n.owner → m.short ≡ n.short → i ≡ j
  pub origins : (i o : ℕ) (d : Head) → head_in look i ≡ Some d → d.origin ≡ Some o → IsSome (snapshot_in look o)
  pub deferred : (i : ℕ) (s : Snapshot) → snapshot_in look i ≡ Some s → s.deferred ≡ true → (¬ (s.holds ≡ [])) ⊎ HasClone look i

-- how many settings of user properties a record has
abbrev pub user_settings : Item → ℕ
user_settings (item.Head d) = user_count d.settings
user_settings (item.Snap s) = user_count s.settings
user_settings (item.Mark m) = 0

abbrev pub most_user_settings : ℕ
most_user_settings = 20000

pub record IsWellFormed (t : Tree) : Type 0 where
  pub rises : Rises 0 t.records t.next
  pub agrees : Agrees (at t.records)
  pub few_records : length t.records ≤ most_records
  pub few_settings : sum_by user_settings t.records ≤ most_user_settings
