-- Lists of names: `zfs.list` of zfs-program(8).
use Rattle.std.specs.Prelude.{ℕ, ◌≡◌, ◌&&◌, Bool, true, false, if◌then◌else◌, List, [], ◌++◌, map, filter, take, bytes_eq, Option, Some, None, MatchOption}
use Rattle.std.specs.List.{filter_map, flat_map, list_any}
use Rattle.std.specs.Option.{option_map_or}
use Rattle.zp_names.specs.Names.{is_head}
use Rattle.zp_names.specs.NameParts.{is_snapshot_name}
use Rattle.zp_names.specs.NameMoves.{is_at_or_below}
use Rattle.zp_names.specs.declared.list_kind.ListKind.{ListKind}
use Rattle.zp_names.specs.declared.list_kind.ListKind.TheVariants as kind
use Rattle.zp_props.specs.declared.setting.Setting.{Setting}
use Rattle.zp_props.specs.Settings.{is_user_name}
use Rattle.zp_tree.specs.declared.item.Item.{Item}
use Rattle.zp_tree.specs.declared.item.Item.TheVariants as item
use Rattle.zp_tree.specs.declared.item.Head.{Head}
use Rattle.zp_tree.specs.declared.item.Snapshot.{Snapshot}
use Rattle.zp_tree.specs.declared.item.Hold.{Hold}
use Rattle.zp_tree.specs.Tree.{Tree, as_head, as_snapshot, head_name, full_name}
use Rattle.zp_tree.specs.ShortNames.{in_byte_order}
use Rattle.zp_tree.specs.NextByName.{is_above}
use Rattle.zp_tree.specs.Dependents.{is_child_of, is_snapshot_of, is_bookmark_of, is_clone_of}
use Rattle.zp_tree.specs.Settable.{is_settable_name}

-- ---- what is listed

-- a list of this kind goes over what a dataset of this name has
abbrev pub is_listed_name : ListKind → List ℕ → Bool
is_listed_name kind.Children name = is_head name
is_listed_name kind.Snapshots name = is_head name
is_listed_name kind.Clones name = is_snapshot_name name
is_listed_name kind.Bookmarks name = is_head name
is_listed_name kind.Holds name = is_snapshot_name name
is_listed_name kind.UserProperties name = is_settable_name name

-- the full name, where the record stands in the relation
abbrev pub name_if : List Item → (Item → Bool) → Item → Option (List ℕ)
name_if rs stands r = if stands r then full_name rs r else None

-- the full names of the records that stand in the relation
abbrev pub names_where : List Item → (Item → Bool) → List (List ℕ)
names_where rs stands = filter_map (name_if rs stands) rs

-- the tags of a snapshot's user references
abbrev pub tags_of : Snapshot → List (List ℕ)
tags_of s = map (λ (h : Hold). h.tag) s.holds

-- the user properties that are set
abbrev pub user_names_in : List Setting → List (List ℕ)
user_names_in settings = filter is_user_name (map (λ (s : Setting). s.name) settings)

-- what the head of this name has set, or takes over from a head above it
abbrev pub settings_for : List ℕ → Item → List Setting
settings_for name (item.Head d) = if is_at_or_below name d.name then d.settings else []
settings_for name (item.Snap s) = []
settings_for name (item.Mark m) = []

abbrev pub settings_from : List Item → List ℕ → List Setting
settings_from rs name = flat_map (settings_for name) rs

-- the settings that a dataset has user properties from: a head's own and those of the heads above it, a snapshot's own and
-- those that its head has them from (zfsprops(7): user properties are always inherited)
abbrev pub settings_over : List Item → Item → List Setting
settings_over rs (item.Head d) = settings_from rs d.name
settings_over rs (item.Snap s) = s.settings ++ option_map_or (settings_from rs) (head_name rs s.owner) []
settings_over rs (item.Mark m) = []

-- the names that a list of this kind goes over, in no order
abbrev pub names_in : Tree → ListKind → Item → List (List ℕ)
names_in t kind.Children r = option_map_or (λ (d : Head). names_where t.records (is_child_of d.name)) (as_head r) []
names_in t kind.Snapshots r = option_map_or (λ (d : Head). names_where t.records (is_snapshot_of d.id)) (as_head r) []
names_in t kind.Clones r = option_map_or (λ (s : Snapshot). names_where t.records (is_clone_of s.id)) (as_snapshot r) []
names_in t kind.Bookmarks r = option_map_or (λ (d : Head). names_where t.records (is_bookmark_of d.id)) (as_head r) []
names_in t kind.Holds r = option_map_or tags_of (as_snapshot r) []
names_in t kind.UserProperties r = user_names_in (settings_over t.records r)

-- ---- the list

-- those above the text, by bytes
abbrev pub above : List ℕ → List (List ℕ) → List (List ℕ)
above after names = filter (λ n. is_above n after) names

-- in byte order those above the text, and of these so many
abbrev pub names_listed : List ℕ → ℕ → List (List ℕ) → List (List ℕ)
names_listed after limit names = take limit (above after (in_byte_order names))

-- how many names a list has at most; this limit is this project's own
abbrev pub most_names : ℕ
most_names = 256

-- ---- one after the other

-- the name, where it comes before the one that was found
abbrev pub lesser_name : List ℕ → Option (List ℕ) → Option (List ℕ)
lesser_name name None = Some name
lesser_name name (Some old) = if is_above old name then Some name else Some old

-- the same of names above the text alone
abbrev pub better_name : List ℕ → Option (List ℕ) → List ℕ → Option (List ℕ)
better_name after found name = if is_above name after then lesser_name name found else found

abbrev pub better_setting : List ℕ → Option (List ℕ) → Setting → Option (List ℕ)
better_setting after found s = if is_user_name s.name then better_name after found s.name else found

abbrev pub better_hold : List ℕ → Option (List ℕ) → Hold → Option (List ℕ)
better_hold after found h = better_name after found h.tag

-- the name comes next behind the text: it is one of the names and above the text, and none of them is between
pub record ComesNext (names : List (List ℕ)) (after name : List ℕ) : Type 0 where
  pub one : list_any (bytes_eq name) names ≡ true
  pub beyond : is_above name after ≡ true
  pub least : list_any (λ n. is_above n after && is_above name n) names ≡ false

-- none of the names comes, or this one
abbrev pub IsNextName : List (List ℕ) → List ℕ → Option (List ℕ) → Type 0
IsNextName names after found = MatchOption found (list_any (λ n. is_above n after) names ≡ false) (ComesNext names after)
