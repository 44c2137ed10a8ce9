-- Renaming a snapshot keeps a tree well formed.
use Rattle.std.proofs.Common.{◌≡◌, ℕ, List, ◌&&◌, Option, Some, None, refl, ap, option_and_then}
use Rattle.std.specs.Option.{option_map_or}
use Rattle.std.proofs.lemmas.Bool.{and_parts}
use Rattle.zp_names.specs.Names.{is_head, is_valid_name, is_valid_short}
use Rattle.zp_names.specs.NameParts.{snapshot_name}
use Rattle.zp_tree.specs.declared.item.Item.TheVariants as item
use Rattle.zp_tree.specs.declared.item.Snapshot.{Snapshot}
use Rattle.zp_tree.specs.Tree.{Tree, as_snapshot, full_name, snapshot_named, replaced}
use Rattle.zp_tree.specs.WellFormed.{IsWellFormed}
use Rattle.zp_tree.specs.Rows.{passed}
use Rattle.zp_tree.specs.RenameSnapshot.{is_short_in, rename_snapshot_rows, rename_snapshot_check, rename_snapshot_change}
use Rattle.zp_tree.proofs.Clear.{clear, not-false}
use Rattle.zp_tree.proofs.Found.{snapshot-found, free-short}
use Rattle.zp_tree.proofs.FullNames.{owned, parts, called}
use Rattle.zp_changes.proofs.Replacing.{changed-snapshot-well}

pub rename-snapshot-well : (t : Tree) (name old new : List ℕ) → IsWellFormed t → rename_snapshot_check t name old new ≡ passed → IsWellFormed (rename_snapshot_change t name old new)
rename-snapshot-well t name old new w e = go (snapshot_named t (snapshot_name name old)) refl
  where
    go : (o : Option Snapshot) → snapshot_named t (snapshot_name name old) ≡ o → IsWellFormed (option_map_or (λ s. replaced t (item.Snap (record s { short = new }))) o t)
    go None f = w
    go (Some s) f =
        let rows = clear (rename_snapshot_rows t name old new) refl e in
        let both = and_parts (is_head name && is_short_in name old) (is_short_in name new) (not-false (is_head name && is_short_in name old && is_short_in name new) rows.0) in
        let form = (and_parts (is_head name) (is_short_in name old) both.0).0 in
        let short = (and_parts (is_valid_short new) (is_valid_name (snapshot_name name new)) both.1).0 in
        let found = snapshot-found t (snapshot_name name old) s w f in
        let o = owned t s.owner (snapshot_name name old) s.short 64 w (called (snapshot_name name old) (full_name t.records (item.Snap s)) found.1) in
        let p = parts o.head.name name s.short old 64 64 refl refl o.form form o.is in
        changed-snapshot-well t s (record s { short = new }) w found.0
        (λ h. record { short = short; settings = h.settings; tags = h.tags; texts = h.texts })
        refl
        (λ i u h other so ss. free-short t name new o.head s.owner i u rows.1.1.1.0 o.there p.front h so ss)
        (w.agrees.deferred s.id s (ap (option_and_then as_snapshot) found.0))
        refl
