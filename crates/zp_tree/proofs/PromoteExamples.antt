-- Promoting, worked out on a small tree.
use Rattle.std.proofs.Common.{◌≡◌, ℕ, List, [], ◌∷◌, true, false, codes, map, Option, Some, None, refl}
use Rattle.zp_names.specs.declared.command.Command.TheVariants as command
use Rattle.zp_tree.specs.declared.item.Item.{Item}
use Rattle.zp_tree.specs.declared.item.Item.TheVariants as item
use Rattle.zp_tree.specs.declared.item.HeadKind.TheVariants.{Filesystem}
use Rattle.zp_tree.specs.Tree.{Tree}
use Rattle.zp_tree.specs.Rows.{passed, refuse}
use Rattle.zp_tree.specs.Promote.{promote_check, promote_change}
use Rattle.zp_tree.specs.NamedRecords.{names_record}

filesystem : ℕ → List ℕ → Option ℕ → Item
filesystem id name origin = item.Head (record { id = id; name = name; kind = Filesystem; origin = origin; settings = []; stamp = 0; mounted = false; createtxg = 1 })

snapshot : ℕ → ℕ → List ℕ → Item
snapshot id owner short = item.Snap (record { id = id; owner = owner; short = short; settings = []; stamp = 0; createtxg = 1; deferred = false; holds = [] })

-- `p`; `p/a` with the snapshots `y`, `x` and `z`; `p/b`, the clone of `x`, with snapshots of these names or none
before : List Item → Tree
before own = record {
  records = filesystem 1 (codes "p") None ∷ filesystem 2 (codes "p/a") None ∷ snapshot 3 2 (codes "y") ∷ snapshot 4 2 (codes "x") ∷ filesystem 5 (codes "p/b") (Some 4) ∷ snapshot 6 2 (codes "z") ∷ own;
  next = 9;
}

-- ---- verdicts

missing : promote_check (before []) (codes "p/x") ≡ refuse 2
unfolding before filesystem snapshot
missing = refl

no-clone : promote_check (before []) (codes "p/a") ≡ refuse 22
unfolding before filesystem snapshot
no-clone = refl

no-head : promote_check (before []) (codes "p/a@x") ≡ refuse 22
unfolding before filesystem snapshot
no-head = refl

free : promote_check (before []) (codes "p/b") ≡ passed
unfolding before filesystem snapshot
free = refl

-- in byte order, whichever is older
two-in-the-way : promote_check (before (snapshot 7 5 (codes "x") ∷ snapshot 8 5 (codes "y") ∷ [])) (codes "p/b") ≡ record { errno = 17; details = codes "x" ∷ codes "y" ∷ [] }
unfolding before filesystem snapshot
two-in-the-way = refl

-- one that is younger than the origin doesn't move, so its name is free
younger-is-free : promote_check (before (snapshot 7 5 (codes "z") ∷ [])) (codes "p/b") ≡ passed
unfolding before filesystem snapshot
younger-is-free = refl

-- ---- changes

after : promote_change (before []) (codes "p/b") ≡ record {
  records = filesystem 1 (codes "p") None ∷ filesystem 2 (codes "p/a") (Some 4) ∷ snapshot 3 5 (codes "y") ∷ snapshot 4 5 (codes "x") ∷ filesystem 5 (codes "p/b") None ∷ snapshot 6 2 (codes "z") ∷ [];
  next = 9;
}
unfolding before filesystem snapshot
after = refl

-- the clone gets the origin of the head that had its own
origin-goes-on : promote_change (record { records = filesystem 1 (codes "p") None ∷ snapshot 2 1 (codes "s") ∷ filesystem 3 (codes "p/a") (Some 2) ∷ snapshot 4 3 (codes "t") ∷ filesystem 5 (codes "p/b") (Some 4) ∷ []; next = 6 }) (codes "p/b")
    ≡ record { records = filesystem 1 (codes "p") None ∷ snapshot 2 1 (codes "s") ∷ filesystem 3 (codes "p/a") (Some 4) ∷ snapshot 4 5 (codes "t") ∷ filesystem 5 (codes "p/b") (Some 2) ∷ []; next = 6 }
unfolding filesystem snapshot
origin-goes-on = refl

-- ---- what it names

named : map (names_record (before []) (command.Promote (codes "p/b"))) (before []).records ≡ false ∷ true ∷ true ∷ true ∷ true ∷ false ∷ []
unfolding before filesystem snapshot
named = refl
