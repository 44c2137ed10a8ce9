-- Taking a dataset back keeps a tree well formed.
use Rattle.std.proofs.Common.{◌≡◌, ℕ, List, Option, Some, None, refl}
use Rattle.std.specs.Option.{option_map_or}
use Rattle.zp_tree.specs.declared.item.Item.TheVariants as item
use Rattle.zp_tree.specs.declared.item.Head.{Head}
use Rattle.zp_tree.specs.declared.item.Snapshot.{Snapshot}
use Rattle.zp_tree.specs.Tree.{Tree, at, head_named, replaced}
use Rattle.zp_tree.specs.WellFormed.{IsWellFormed}
use Rattle.zp_tree.specs.Rollback.{rollback_source, rolled_back, rollback_change}
use Rattle.zp_tree.proofs.Found.{is-head, head-found}
use Rattle.zp_changes.proofs.Replacing.{changed-head-well}

pub rollback-well : (t : Tree) (name : List ℕ) → IsWellFormed t → IsWellFormed (rollback_change t name)
rollback-well t name w = go (head_named t name) refl
  where
    back : (d : Head) → head_named t name ≡ Some d → (o : Option Snapshot) → IsWellFormed (option_map_or (λ (s : Snapshot). replaced t (item.Head (record d { stamp = s.stamp }))) o t)
    back d f None = w
    back d f (Some s) = changed-head-well t d (record d { stamp = s.stamp }) w (is-head (at t.records d.id) d (head-found t name d w f).0) (λ h. record { name = h.name; form = h.form; settings = h.settings; size = h.size }) refl refl refl refl

    go : (o : Option Head) → head_named t name ≡ o → IsWellFormed (option_map_or (rolled_back t) o t)
    go None f = w
    go (Some d) f = back d f (rollback_source t d)
