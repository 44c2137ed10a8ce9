-- What a climb from a head up rests on.
use Rattle.std.specs.Prelude.{ℕ, Bool, false, List, bytes_eq}
use Rattle.zp_tree.specs.declared.item.Item.{Item}
use Rattle.zp_tree.specs.declared.item.Item.TheVariants as item
use Rattle.zp_tree.specs.WellFormed.{IsWellFormed}

-- a head of this name
abbrev pub is_head_called : List ℕ → Item → Bool
is_head_called name (item.Head d) = bytes_eq d.name name
is_head_called name (item.Snap s) = false
is_head_called name (item.Mark m) = false

-- they are the records of a well-formed tree
pub record AreOfTree (rs : List Item) : Type 0 where
  pub next : ℕ
  pub well : IsWellFormed (record { records = rs; next = next })
