-- Answers worked out in a tree of a pool, a file system with two below it, which were born against the order of their names,
-- a snapshot with two holds, a clone of it and a bookmark.
use Rattle.std.proofs.Common.{◌≡◌, ℕ, List, [], ◌∷◌, false, Option, Some, None, refl}
use Rattle.std.specs.Prelude.{codes}
use Rattle.zp_names.specs.declared.list_kind.ListKind.TheVariants as kind
use Rattle.zp_names.specs.declared.command.Query.TheVariants as query
use Rattle.zp_props.specs.declared.setting.Setting.{Setting}
use Rattle.zp_props.specs.declared.setting.PropValue.TheVariants.{Number, Text}
use Rattle.zp_props.specs.ReadSetting.{setting_of}
use Rattle.zp_calls.specs.declared.reply.Reply.TheVariants as reply
use Rattle.zp_tree.specs.declared.item.Item.{Item}
use Rattle.zp_tree.specs.declared.item.Item.TheVariants as item
use Rattle.zp_tree.specs.declared.item.HeadKind.TheVariants.{Filesystem}
use Rattle.zp_tree.specs.Tree.{Tree}
use Rattle.zcp_read.specs.Answers.{refused, answer_of}

abbrev a_head : ℕ → List ℕ → Option ℕ → List Setting → Item
a_head id name origin settings = item.Head (record { id = id; name = name; kind = Filesystem; origin = origin; settings = settings; stamp = 0; mounted = false; createtxg = 1 })

abbrev a_snapshot : Item
a_snapshot = item.Snap (record {
  id = 5;
  owner = 2;
  short = codes "s";
  settings = setting_of (codes "a:y") (Text (codes "o")) ∷ [];
  stamp = 7;
  createtxg = 2;
  deferred = false;
  holds = record { tag = codes "t"; at = 9 } ∷ record { tag = codes "k"; at = 9 } ∷ [];
})

abbrev tree : Tree
tree = record {
  records =
      a_head 1 (codes "p") None []
      ∷ a_head 2 (codes "p/a") None (setting_of (codes "x:k") (Text (codes "v")) ∷ setting_of (codes "atime") (Text (codes "off")) ∷ [])
      ∷ a_head 3 (codes "p/a/c") None []
      ∷ a_head 4 (codes "p/a/b") None []
      ∷ a_snapshot
      ∷ a_head 6 (codes "p/d") (Some 5) []
      ∷ item.Mark (record { id = 7; owner = 2; short = codes "m"; source = 5; createtxg = 2 })
      ∷ [];
  next = 8;
}

-- ---- lists

in_order : answer_of tree (query.List kind.Children (codes "p/a") [] 256) ≡ reply.Names (codes "p/a/b" ∷ codes "p/a/c" ∷ [])
in_order = refl

first_of_them : answer_of tree (query.List kind.Children (codes "p/a") [] 1) ≡ reply.Names (codes "p/a/b" ∷ [])
first_of_them = refl

behind_it : answer_of tree (query.List kind.Children (codes "p/a") (codes "p/a/b") 256) ≡ reply.Names (codes "p/a/c" ∷ [])
behind_it = refl

snapshots : answer_of tree (query.List kind.Snapshots (codes "p/a") [] 256) ≡ reply.Names (codes "p/a@s" ∷ [])
snapshots = refl

clones : answer_of tree (query.List kind.Clones (codes "p/a@s") [] 256) ≡ reply.Names (codes "p/d" ∷ [])
clones = refl

bookmarks : answer_of tree (query.List kind.Bookmarks (codes "p/a") [] 256) ≡ reply.Names (codes "p/a#m" ∷ [])
bookmarks = refl

tags : answer_of tree (query.List kind.Holds (codes "p/a@s") [] 256) ≡ reply.Names (codes "k" ∷ codes "t" ∷ [])
tags = refl

user_properties_below : answer_of tree (query.List kind.UserProperties (codes "p/a/b") [] 256) ≡ reply.Names (codes "x:k" ∷ [])
user_properties_below = refl

user_properties_of_a_snapshot : answer_of tree (query.List kind.UserProperties (codes "p/a@s") [] 256) ≡ reply.Names (codes "a:y" ∷ codes "x:k" ∷ [])
user_properties_of_a_snapshot = refl

wrong_form : answer_of tree (query.List kind.Clones (codes "p/z") [] 256) ≡ refused 22
wrong_form = refl

not_there : answer_of tree (query.List kind.Children (codes "p/z") [] 256) ≡ refused 2
not_there = refl

-- ---- properties

inherited : answer_of tree (query.Get (codes "p/a/b") (codes "x:k")) ≡ reply.Prop (Some (Text (codes "v"))) (Some (codes "p/a"))
inherited = refl

inherited_by_a_snapshot : answer_of tree (query.Get (codes "p/a@s") (codes "x:k")) ≡ reply.Prop (Some (Text (codes "v"))) (Some (codes "p/a"))
inherited_by_a_snapshot = refl

by_default_there : answer_of tree (query.Get (codes "p/a/b") (codes "copies")) ≡ reply.Prop (Some (Number 1)) (Some (codes "default"))
by_default_there = refl

only_told_there : answer_of tree (query.Get (codes "p/a@s") (codes "userrefs")) ≡ reply.Prop (Some (Number 2)) None
only_told_there = refl

origin_of_a_clone : answer_of tree (query.Get (codes "p/d") (codes "origin")) ≡ reply.Prop (Some (Text (codes "p/a@s"))) None
origin_of_a_clone = refl

origin_of_no_clone : answer_of tree (query.Get (codes "p/a") (codes "origin")) ≡ reply.Prop None None
origin_of_no_clone = refl

of_a_bookmark : answer_of tree (query.Get (codes "p/a#z") (codes "guid")) ≡ refused 22
of_a_bookmark = refl

not_for_a_snapshot : answer_of tree (query.Get (codes "p/a@s") (codes "atime")) ≡ refused 22
not_for_a_snapshot = refl

more_than_one_value : answer_of tree (query.Get (codes "p/a@s") (codes "clones")) ≡ refused 22
more_than_one_value = refl

set_nowhere : answer_of tree (query.Get (codes "p/a") (codes "x:none")) ≡ refused 2
set_nowhere = refl
