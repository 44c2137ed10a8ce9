-- A tree as it is kept: with the room for further records.
use Rattle.std.specs.Prelude.{ℕ}
use Rattle.zp_tree.specs.Tree.{Tree}

pub record Kept : Type 0 where
  pub tree : Tree
  -- how many records it takes without memory
  pub room : ℕ
