-- Records that are put into a list, one after another.
use Rattle.std.specs.Prelude.{List, [], ◌∷◌, Option, Some, None}
use Rattle.zp_tree.specs.declared.item.Item.{Item}
use Rattle.zp_tree.specs.Tree.{put}

abbrev pub listed : Option Item → List Item
listed None = []
listed (Some x) = x ∷ []

-- the records put in their places, the last first
abbrev pub put_all : List Item → List Item → List Item
put_all [] rs = rs
put_all (x ∷ xs) rs = put x (put_all xs rs)
