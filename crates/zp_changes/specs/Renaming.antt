-- What a rename that passed its check may rely on of each record, and that each keeps its id.
use Rattle.std.proofs.Common.{◌≡◌, ℕ, List, Bool, true, false, cond, Some, None, sym, ap}
use Rattle.zp_names.specs.Names.{is_head}
use Rattle.zp_names.specs.NameMoves.{is_at_or_below, moved, outgrows}
use Rattle.zp_tree.specs.declared.item.Item.{Item}
use Rattle.zp_tree.specs.declared.item.Item.TheVariants as item
use Rattle.zp_tree.specs.Tree.{id_of}
use Rattle.zp_tree.specs.Rename.{renamed}

-- no head outgrows what a name can be
abbrev pub FitsRename : List ℕ → List ℕ → Item → Type 0
FitsRename name to (item.Head d) = (is_head name ≡ true) × (is_head to ≡ true) × (outgrows name to d.name 0 ≡ false)
FitsRename name to (item.Snap s) = Unit {0}
FitsRename name to (item.Mark m) = Unit {0}

-- each record keeps its id
pub renamed-keeps : (name to : List ℕ) (r x : Item) → renamed name to r ≡ Some x → id_of x ≡ id_of r
renamed-keeps name to (item.Head d) x e = split (is_at_or_below d.name name) e
  where
    split : (b : Bool) → cond b (Some (item.Head (record d { name = moved name to d.name }))) None ≡ Some x → id_of x ≡ d.id
    split true h = let is : item.Head (record d { name = moved name to d.name }) ≡ x = cc in ap id_of (sym is)
    split false h = cc
renamed-keeps name to (item.Snap s) x e = cc
renamed-keeps name to (item.Mark m) x e = cc
