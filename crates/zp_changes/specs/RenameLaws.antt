-- What laws of renames speak of.
use Rattle.std.specs.Prelude.{ℕ, ◌≡◌, false, List}
use Rattle.std.specs.List.{list_any}
use Rattle.zp_tree.specs.Tree.{Tree}
use Rattle.zp_tree.specs.Rename.{would_outgrow}

-- no full name at or below the dataset is too long or too deep; a promotion can leave one that is too long
abbrev pub NamesFit : Tree → List ℕ → Type 0
NamesFit t name = list_any (would_outgrow t.records name name) t.records ≡ false
