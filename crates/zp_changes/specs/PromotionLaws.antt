-- What laws of promotions speak of.
use Rattle.std.specs.Prelude.{ℕ, ◌≡◌, ◌<◌, List, Option, Some, option_and_then}
use Rattle.zp_tree.specs.declared.item.Snapshot.{Snapshot}
use Rattle.zp_tree.specs.declared.promotion.Promotion.{Promotion}
use Rattle.zp_tree.specs.Tree.{Tree, head_name, snapshot_at}
use Rattle.zp_tree.specs.Promote.{promotion_of}

-- the name of the head that has the origin of the clone of this name
abbrev pub origin_owner : Tree → List ℕ → Option (List ℕ)
origin_owner t name = option_and_then (λ (m : Promotion). head_name t.records m.owner) (promotion_of t name)

-- the clone's own snapshots are all younger than its origin
abbrev pub OwnAreYounger : Tree → List ℕ → Type 0
OwnAreYounger t name = (m : Promotion) → promotion_of t name ≡ Some m → (i : ℕ) (s : Snapshot) → snapshot_at t i ≡ Some s → s.owner ≡ m.clone → m.origin < s.id
