-- Renaming a dataset and a snapshot, worked out on a small tree.
use Rattle.std.proofs.Common.{◌≡◌, ℕ, List, [], ◌∷◌, ◌++◌, true, false, codes, map, None, refl}
use Rattle.std.proofs.Math.ListN.{replicate}
use Rattle.zp_names.specs.declared.command.Command.TheVariants as command
use Rattle.zp_tree.specs.declared.item.Item.{Item}
use Rattle.zp_tree.specs.declared.item.Item.TheVariants as item
use Rattle.zp_tree.specs.declared.item.HeadKind.{HeadKind}
use Rattle.zp_tree.specs.declared.item.HeadKind.TheVariants.{Filesystem, Volume}
use Rattle.zp_tree.specs.Tree.{Tree}
use Rattle.zp_tree.specs.Rows.{passed, refuse}
use Rattle.zp_tree.specs.Rename.{rename_check, rename_change}
use Rattle.zp_tree.specs.RenameSnapshot.{rename_snapshot_change}
use Rattle.zp_tree.specs.NamedRecords.{names_record}

head : ℕ → List ℕ → HeadKind → Item
head id name kind = item.Head (record { id = id; name = name; kind = kind; origin = None; settings = []; stamp = 0; mounted = false; createtxg = 1 })

snapshot : List ℕ → Item
snapshot short = item.Snap (record { id = 4; owner = 3; short = short; settings = []; stamp = 0; createtxg = 1; deferred = false; holds = [] })

bookmark : Item
bookmark = item.Mark (record { id = 5; owner = 3; short = codes "m"; source = 4; createtxg = 1 })

-- `p`; a file system and one below it, which has a snapshot and a bookmark; `p/ab`, which is beside them; a volume
with-names : List ℕ → List ℕ → List ℕ → Tree
with-names outer inner short = record {
  records = head 1 (codes "p") Filesystem ∷ head 2 outer Filesystem ∷ head 3 inner Filesystem ∷ snapshot short ∷ bookmark ∷ head 6 (codes "p/ab") Filesystem ∷ head 7 (codes "p/v") Volume ∷ [];
  next = 8;
}

before : Tree
before = with-names (codes "p/a") (codes "p/a/b") (codes "s")

-- ---- verdicts

no-head : rename_check before (codes "p/a/b@s") (codes "p/c") ≡ refuse 22
unfolding before with-names head snapshot bookmark
no-head = refl

missing : rename_check before (codes "p/x") (codes "p/c") ≡ refuse 2
unfolding before with-names head snapshot bookmark
missing = refl

the-pool : rename_check before (codes "p") (codes "p/c") ≡ refuse 22
unfolding before with-names head snapshot bookmark
the-pool = refl

there-already : rename_check before (codes "p/a") (codes "p/ab") ≡ refuse 17
unfolding before with-names head snapshot bookmark
there-already = refl

below-itself : rename_check before (codes "p/a") (codes "p/a/c") ≡ refuse 22
unfolding before with-names head snapshot bookmark
below-itself = refl

no-parent : rename_check before (codes "p/a") (codes "p/x/c") ≡ refuse 2
unfolding before with-names head snapshot bookmark
no-parent = refl

below-a-volume : rename_check before (codes "p/a") (codes "p/v/c") ≡ refuse 22
unfolding before with-names head snapshot bookmark
below-a-volume = refl

-- the new name has 252 bytes, and the snapshot's 256
too-long : rename_check before (codes "p/a") (codes "p/" ++ replicate 250 97) ≡ refuse 36
unfolding before with-names head snapshot bookmark
too-long = refl

free : rename_check before (codes "p/a") (codes "p/ab/c") ≡ passed
unfolding before with-names head snapshot bookmark
free = refl

-- ---- changes

-- what is below moves along, and what is beside stays
after : rename_change before (codes "p/a") (codes "p/ab/c") ≡ with-names (codes "p/ab/c") (codes "p/ab/c/b") (codes "s")
unfolding before with-names head snapshot bookmark
after = refl

snapshot-after : rename_snapshot_change before (codes "p/a/b") (codes "s") (codes "t") ≡ with-names (codes "p/a") (codes "p/a/b") (codes "t")
unfolding before with-names head snapshot bookmark
snapshot-after = refl

-- ---- what they name

named : map (names_record before (command.Rename (codes "p/a") (codes "p/c"))) before.records ≡ false ∷ true ∷ true ∷ false ∷ false ∷ false ∷ false ∷ []
unfolding before with-names head snapshot bookmark
named = refl

snapshot-named : map (names_record before (command.RenameSnapshot (codes "p/a/b") (codes "s") (codes "t"))) before.records ≡ false ∷ false ∷ false ∷ true ∷ false ∷ false ∷ false ∷ []
unfolding before with-names head snapshot bookmark
snapshot-named = refl
