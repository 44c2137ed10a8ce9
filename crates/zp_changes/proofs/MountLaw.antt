-- Mounting keeps a tree well formed.
use Rattle.std.proofs.Common.{◌≡◌, ℕ, List, true, Option, Some, None, refl}
use Rattle.std.specs.Option.{option_map_or}
use Rattle.zp_tree.specs.declared.item.Item.TheVariants as item
use Rattle.zp_tree.specs.declared.item.Head.{Head}
use Rattle.zp_tree.specs.Tree.{Tree, at, head_named, replaced}
use Rattle.zp_tree.specs.WellFormed.{IsWellFormed}
use Rattle.zp_tree.specs.Mount.{mount_change}
use Rattle.zp_tree.proofs.Found.{is-head, head-found}
use Rattle.zp_changes.proofs.Replacing.{changed-head-well}

pub mount-well : (t : Tree) (name : List ℕ) → IsWellFormed t → IsWellFormed (mount_change t name)
mount-well t name w = go (head_named t name) refl
  where
    go : (o : Option Head) → head_named t name ≡ o → IsWellFormed (option_map_or (λ d. replaced t (item.Head (record d { mounted = true }))) o t)
    go None f = w
    go (Some d) f = changed-head-well t d (record d { mounted = true }) w (is-head (at t.records d.id) d (head-found t name d w f).0) (λ h. record { name = h.name; form = h.form; settings = h.settings; size = h.size }) refl refl refl refl
