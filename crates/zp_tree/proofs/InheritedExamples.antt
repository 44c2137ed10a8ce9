-- The value that a dataset has, worked out in a tree of a pool, a file system, a file system and a volume below it, and
-- a snapshot.
use Rattle.std.proofs.Common.{◌≡◌, ℕ, List, [], ◌∷◌, true, false, Some, None, refl}
use Rattle.std.specs.Prelude.{codes}
use Rattle.zp_props.specs.declared.setting.Setting.{Setting}
use Rattle.zp_props.specs.declared.setting.PropValue.TheVariants.{Number, Text}
use Rattle.zp_props.specs.ReadSetting.{setting_of}
use Rattle.zp_tree.specs.declared.item.Item.{Item}
use Rattle.zp_tree.specs.declared.item.Item.TheVariants as item
use Rattle.zp_tree.specs.declared.item.HeadKind.{HeadKind}
use Rattle.zp_tree.specs.declared.item.HeadKind.TheVariants.{Filesystem, Volume}
use Rattle.zp_tree.specs.declared.item.Head.{Head}
use Rattle.zp_tree.specs.Tree.{Tree}
use Rattle.zp_tree.specs.Inherited.{set_on, by_default, effective, is_readonly}

abbrev a_head : ℕ → List ℕ → HeadKind → List Setting → Head
a_head id name kind settings = record { id = id; name = name; kind = kind; origin = None; settings = settings; stamp = 0; mounted = false; createtxg = 0 }

abbrev volume : Head
volume = a_head 4 (codes "p/a/v") Volume (setting_of (codes "volsize") (Number 512) ∷ [])

abbrev a_snapshot : List Setting → Item
a_snapshot settings = item.Snap (record { id = 5; owner = 3; short = codes "s"; settings = settings; stamp = 0; createtxg = 0; deferred = false; holds = [] })

-- the pool has readonly and canmount, `p/a` a user property and copies, its snapshot another value
abbrev tree : Tree
tree = record {
  records =
      item.Head (a_head 1 (codes "p") Filesystem (setting_of (codes "readonly") (Text (codes "on")) ∷ setting_of (codes "canmount") (Text (codes "off")) ∷ []))
      ∷ item.Head (a_head 2 (codes "p/a") Filesystem (setting_of (codes "x:y") (Text (codes "a")) ∷ setting_of (codes "copies") (Number 2) ∷ []))
      ∷ item.Head (a_head 3 (codes "p/a/b") Filesystem [])
      ∷ item.Head volume
      ∷ a_snapshot (setting_of (codes "x:z") (Text (codes "s")) ∷ [])
      ∷ [];
  next = 6;
}

from_the_pool : effective tree 3 (codes "readonly") ≡ Some (set_on (Text (codes "on")) 1)
from_the_pool = refl

from_the_parent : effective tree 3 (codes "copies") ≡ Some (set_on (Number 2) 2)
from_the_parent = refl

-- what isn't inherited is looked up on the head alone
own_alone : effective tree 3 (codes "canmount") ≡ Some by_default
own_alone = refl

default_of_atime : effective tree 2 (codes "atime") ≡ Some by_default
default_of_atime = refl

-- a volume takes over what it can have
volume_copies : effective tree 4 (codes "copies") ≡ Some (set_on (Number 2) 2)
volume_copies = refl

volume_atime : effective tree 4 (codes "atime") ≡ None
volume_atime = refl

volume_size : effective tree 4 (codes "volsize") ≡ Some (set_on (Number 512) 4)
volume_size = refl

-- a snapshot has its own user properties, and those of its head
own_of_snapshot : effective tree 5 (codes "x:z") ≡ Some (set_on (Text (codes "s")) 5)
own_of_snapshot = refl

of_its_head : effective tree 5 (codes "x:y") ≡ Some (set_on (Text (codes "a")) 2)
of_its_head = refl

no_native : effective tree 5 (codes "copies") ≡ None
no_native = refl

nowhere : effective tree 2 (codes "x:z") ≡ None
nowhere = refl

only_told : effective tree 2 (codes "guid") ≡ None
only_told = refl

missing : effective tree 9 (codes "copies") ≡ None
missing = refl

readonly_from_above : is_readonly tree volume ≡ true
readonly_from_above = refl
