-- The records of the tree as JSON (RFC 8259). The members of an object stand in byte order of their names.
use Rattle.std.specs.Prelude.{ℕ, List, codes, fold, Option, option_and_then}
use Rattle.std.specs.Option.{option_map_or}
use Rattle.serde_json.specs.Data.{Data, null, boolean, string, array, object, item, no_items, Members, member, no_members, put}
use Rattle.zp_props.specs.declared.setting.Setting.{Setting}
use Rattle.zp_props.specs.declared.setting.PropValue.{PropValue}
use Rattle.zp_props.specs.declared.setting.PropValue.TheVariants as value
use Rattle.zp_tree.specs.declared.item.Item.{Item}
use Rattle.zp_tree.specs.declared.item.Item.TheVariants as record_of
use Rattle.zp_tree.specs.declared.item.Head.{Head}
use Rattle.zp_tree.specs.declared.item.Snapshot.{Snapshot}
use Rattle.zp_tree.specs.declared.item.Bookmark.{Bookmark}
use Rattle.zp_tree.specs.declared.item.Hold.{Hold}
use Rattle.zp_tree.specs.declared.item.HeadKind.{HeadKind}
use Rattle.zp_tree.specs.declared.item.HeadKind.TheVariants.{Filesystem, Volume}
use Rattle.zp_tree.specs.Tree.{at, full_name}
use Rattle.zc_reply.specs.Journal.{whole, array_of}

-- what a head is: zfs(8), "file system" and "volume"
abbrev pub kind_text : HeadKind → List ℕ
kind_text Filesystem = codes "filesystem"
kind_text Volume = codes "volume"

-- the value of a property: a number or a text
abbrev pub value_data : PropValue → Data
value_data (value.Number number) = whole number
value_data (value.Text text) = string text

-- the members, with the value of one more setting at its name
abbrev pub put_setting : Members → Setting → Members
put_setting members setting = put setting.name (value_data setting.value) members

-- the settings by name, in byte order
abbrev pub settings_data : List Setting → Data
settings_data settings = object (fold put_setting no_members settings)

-- a hold: [tag, moment]
abbrev pub hold_data : Hold → Data
hold_data hold = array (item (string hold.tag) (item (whole hold.at) no_items))

-- the full name of a record of the list
abbrev pub name_data : List Item → Item → Data
name_data records item_ = option_map_or string (full_name records item_) null

-- the full name of the origin, or null
abbrev pub origin_data : List Item → Option ℕ → Data
origin_data records origin = option_map_or (name_data records) (option_and_then (at records) origin) null

-- a head, with its origin's name or null
abbrev pub head_data : Data → Head → Data
head_data origin head =
    object (member (codes "createtxg") (whole head.createtxg)
    (member (codes "id") (whole head.id)
    (member (codes "kind") (string (kind_text head.kind))
    (member (codes "mounted") (boolean head.mounted)
    (member (codes "name") (string head.name)
    (member (codes "origin") origin
    (member (codes "settings") (settings_data head.settings)
    (member (codes "stamp") (whole head.stamp) no_members))))))))

-- a snapshot, with its full name
abbrev pub snapshot_data : Data → Snapshot → Data
snapshot_data name snapshot =
    object (member (codes "createtxg") (whole snapshot.createtxg)
    (member (codes "deferred") (boolean snapshot.deferred)
    (member (codes "holds") (array_of hold_data snapshot.holds)
    (member (codes "id") (whole snapshot.id)
    (member (codes "kind") (string (codes "snapshot"))
    (member (codes "name") name
    (member (codes "settings") (settings_data snapshot.settings)
    (member (codes "stamp") (whole snapshot.stamp) no_members))))))))

-- a bookmark, with its full name
abbrev pub bookmark_data : Data → Bookmark → Data
bookmark_data name bookmark =
    object (member (codes "createtxg") (whole bookmark.createtxg)
    (member (codes "id") (whole bookmark.id)
    (member (codes "kind") (string (codes "bookmark"))
    (member (codes "name") name
    (member (codes "source") (whole bookmark.source) no_members)))))

-- a record of the list
abbrev pub record_data : List Item → Item → Data
record_data records (record_of.Head head) = head_data (origin_data records head.origin) head
record_data records (record_of.Snap snapshot) = snapshot_data (name_data records (record_of.Snap snapshot)) snapshot
record_data records (record_of.Mark bookmark) = bookmark_data (name_data records (record_of.Mark bookmark)) bookmark
