-- The tree of a new pool: zpool-create(8) makes the root file system.
use Rattle.std.specs.Prelude.{ℕ, List, [], ◌∷◌}
use Rattle.zp_tree.specs.Tree.{Tree}
use Rattle.zp_tree.specs.Create.{new_filesystem}

-- the root alone, with id 1
abbrev pub new_pool : List ℕ → Tree
new_pool pool = record { records = new_filesystem 1 pool 0 ∷ []; next = 2 }
