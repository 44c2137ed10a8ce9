-- Destroying, holding and releasing, worked out on small trees.
use Rattle.std.proofs.Common.{◌≡◌, ℕ, List, [], ◌∷◌, Bool, true, false, codes, map, Option, Some, None, refl, option_map}
use Rattle.zp_tree.specs.declared.item.Item.{Item}
use Rattle.zp_tree.specs.declared.item.Item.TheVariants as item
use Rattle.zp_tree.specs.declared.item.Hold.{Hold}
use Rattle.zp_tree.specs.declared.item.HeadKind.TheVariants.{Filesystem}
use Rattle.zp_tree.specs.Tree.{Tree, id_of, snapshot_at}
use Rattle.zp_tree.specs.Rows.{passed, refuse}
use Rattle.zp_tree.specs.declared.item.Snapshot.{Snapshot}
use Rattle.zp_tree.specs.Destroy.{destroy_check, destroy_change}
use Rattle.zp_tree.specs.PlaceHold.{hold_check, hold_change}
use Rattle.zp_tree.specs.ReleaseHold.{release_check, release_change}

filesystem : ℕ → List ℕ → Option ℕ → Bool → Item
filesystem id name origin mounted = item.Head (record { id = id; name = name; kind = Filesystem; origin = origin; settings = []; stamp = 0; mounted = mounted; createtxg = 1 })

snapshot : ℕ → ℕ → List ℕ → Bool → List Hold → Item
snapshot id owner short deferred holds = item.Snap (record { id = id; owner = owner; short = short; settings = []; stamp = 0; createtxg = 1; deferred = deferred; holds = holds })

bookmark : ℕ → ℕ → List ℕ → Item
bookmark id owner short = item.Mark (record { id = id; owner = owner; short = short; source = 3; createtxg = 1 })

one-hold : List Hold
one-hold = record { tag = codes "keep"; at = 7 } ∷ []

two-holds : List Hold
two-holds = record { tag = codes "keep"; at = 7 } ∷ record { tag = codes "last"; at = 9 } ∷ []

-- `p`, `p/a` with the snapshot `s`, which is deferred or not, and `p/b`, its clone, with a bookmark
with-clone : Bool → List Hold → Tree
with-clone deferred holds = record {
  records = filesystem 1 (codes "p") None false ∷ filesystem 2 (codes "p/a") None false ∷ snapshot 3 2 (codes "s") deferred holds ∷ filesystem 4 (codes "p/b") (Some 3) false ∷ bookmark 5 4 (codes "m") ∷ [];
  next = 6;
}

-- `p`, `p/a` and its child, mounted or not
with-child : Bool → Tree
with-child mounted = record { records = filesystem 1 (codes "p") None false ∷ filesystem 2 (codes "p/a") None mounted ∷ filesystem 3 (codes "p/a/b") None false ∷ []; next = 4 }

-- `p` and `p/a`, with the snapshot `s`, which is deferred or not
alone : Bool → List Hold → Tree
alone deferred holds = record { records = filesystem 1 (codes "p") None false ∷ filesystem 2 (codes "p/a") None false ∷ snapshot 3 2 (codes "s") deferred holds ∷ []; next = 4 }

ids : Tree → List ℕ
ids t = map id_of t.records

-- ---- verdicts

missing-head : destroy_check (with-child false) (codes "p/x") false ≡ refuse 2
unfolding with-child filesystem
missing-head = refl

the-pool : destroy_check (with-child false) (codes "p") false ≡ refuse 16
unfolding with-child filesystem
the-pool = refl

-- mounted comes before children
mounted-first : destroy_check (with-child true) (codes "p/a") false ≡ refuse 16
unfolding with-child filesystem
mounted-first = refl

with-children : destroy_check (with-child false) (codes "p/a") false ≡ refuse 17
unfolding with-child filesystem
with-children = refl

without-children : destroy_check (with-child false) (codes "p/a/b") false ≡ passed
unfolding with-child filesystem
without-children = refl

with-snapshots : destroy_check (with-clone false []) (codes "p/a") false ≡ refuse 16
unfolding with-clone filesystem snapshot bookmark
with-snapshots = refl

-- held comes before clones
held-first : destroy_check (with-clone false one-hold) (codes "p/a@s") false ≡ refuse 16
unfolding with-clone filesystem snapshot bookmark one-hold
held-first = refl

with-clones : destroy_check (with-clone false []) (codes "p/a@s") false ≡ refuse 17
unfolding with-clone filesystem snapshot bookmark
with-clones = refl

missing-snapshot : destroy_check (with-clone false []) (codes "p/b@s") false ≡ refuse 2
unfolding with-clone filesystem snapshot bookmark
missing-snapshot = refl

missing-bookmark : destroy_check (with-clone false []) (codes "p/a#m") false ≡ refuse 2
unfolding with-clone filesystem snapshot bookmark
missing-bookmark = refl

-- ---- changes

-- a clone goes with its bookmark, and its origin stays
clone-goes : ids (destroy_change (with-clone false []) (codes "p/b") false) ≡ 1 ∷ 2 ∷ 3 ∷ []
unfolding ids with-clone filesystem snapshot bookmark
clone-goes = refl

-- a deferred origin goes with its last clone
origin-goes : ids (destroy_change (with-clone true []) (codes "p/b") false) ≡ 1 ∷ 2 ∷ []
unfolding ids with-clone filesystem snapshot bookmark
origin-goes = refl

-- but not where it is held
held-origin-stays : ids (destroy_change (with-clone true one-hold) (codes "p/b") false) ≡ 1 ∷ 2 ∷ 3 ∷ []
unfolding ids with-clone filesystem snapshot bookmark one-hold
held-origin-stays = refl

bookmark-goes : ids (destroy_change (with-clone false []) (codes "p/b#m") false) ≡ 1 ∷ 2 ∷ 3 ∷ 4 ∷ []
unfolding ids with-clone filesystem snapshot bookmark
bookmark-goes = refl

-- ---- deferred destruction

deferred-head : destroy_check (with-child false) (codes "p/x") true ≡ refuse 22
unfolding with-child filesystem
deferred-head = refl

deferred-bookmark : destroy_check (with-clone false []) (codes "p/b#m") true ≡ refuse 22
unfolding with-clone filesystem snapshot bookmark
deferred-bookmark = refl

deferred-missing : destroy_check (with-clone false []) (codes "p/b@s") true ≡ refuse 2
unfolding with-clone filesystem snapshot bookmark
deferred-missing = refl

deferred-held : destroy_check (with-clone false one-hold) (codes "p/a@s") true ≡ passed
unfolding with-clone filesystem snapshot bookmark one-hold
deferred-held = refl

-- with a clone it is marked
marked-for-its-clone : destroy_change (with-clone false []) (codes "p/a@s") true ≡ with-clone true []
unfolding with-clone filesystem snapshot bookmark
marked-for-its-clone = refl

-- and so with a hold
marked-for-its-hold : destroy_change (alone false one-hold) (codes "p/a@s") true ≡ alone true one-hold
unfolding alone filesystem snapshot one-hold
marked-for-its-hold = refl

-- with neither it goes at once
goes-at-once : ids (destroy_change (alone false []) (codes "p/a@s") true) ≡ 1 ∷ 2 ∷ []
unfolding ids alone filesystem snapshot
goes-at-once = refl

-- ---- holds

no-snapshot-held : hold_check (alone false []) (codes "p/a") (codes "keep") ≡ refuse 22
unfolding alone filesystem snapshot
no-snapshot-held = refl

no-tag : hold_check (alone false []) (codes "p/a@s") [] ≡ refuse 22
unfolding alone filesystem snapshot
no-tag = refl

held-last : option_map (λ (s : Snapshot). s.holds) (snapshot_at (hold_change (alone false one-hold) (codes "p/a@s") (codes "last") 9) 3) ≡ Some two-holds
unfolding alone filesystem snapshot one-hold two-holds
held-last = refl

no-snapshot-released : release_check (alone false one-hold) (codes "p/a#s") (codes "keep") ≡ refuse 22
unfolding alone filesystem snapshot one-hold
no-snapshot-released = refl

missing-released : release_check (alone false one-hold) (codes "p@s") (codes "keep") ≡ refuse 2
unfolding alone filesystem snapshot one-hold
missing-released = refl

no-such-reference : release_check (alone false one-hold) (codes "p/a@s") (codes "last") ≡ refuse 3
unfolding alone filesystem snapshot one-hold
no-such-reference = refl

released-one : option_map (λ (s : Snapshot). s.holds) (snapshot_at (release_change (alone false two-holds) (codes "p/a@s") (codes "last")) 3) ≡ Some one-hold
unfolding alone filesystem snapshot one-hold two-holds
released-one = refl

-- the last reference takes a deferred snapshot along
last-released : ids (release_change (alone true one-hold) (codes "p/a@s") (codes "keep")) ≡ 1 ∷ 2 ∷ []
unfolding ids alone filesystem snapshot one-hold
last-released = refl

-- but not one that has a clone, nor one whose destruction isn't deferred
cloned-released : ids (release_change (with-clone true one-hold) (codes "p/a@s") (codes "keep")) ≡ 1 ∷ 2 ∷ 3 ∷ 4 ∷ 5 ∷ []
unfolding ids with-clone filesystem snapshot bookmark one-hold
cloned-released = refl

plainly-released : release_change (alone false one-hold) (codes "p/a@s") (codes "keep") ≡ alone false []
unfolding alone filesystem snapshot one-hold
plainly-released = refl
