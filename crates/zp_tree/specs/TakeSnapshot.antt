-- Taking a snapshot: zfs-snapshot(8).
use Rattle.std.specs.Prelude.{ℕ, Bool, false, not, is_some, List, [], ◌∷◌}
use Rattle.std.specs.Option.{option_map_or}
use Rattle.zp_names.specs.Names.{head_of, short_of}
use Rattle.zp_names.specs.NameParts.{is_snapshot_name}
use Rattle.zp_names.specs.ErrorNumbers.{eexist, einval, enoent, enospc}
use Rattle.zp_names.specs.declared.verdict.Verdict.{Verdict}
use Rattle.zp_tree.specs.declared.item.Item.{Item}
use Rattle.zp_tree.specs.declared.item.Item.TheVariants as item
use Rattle.zp_tree.specs.declared.item.Head.{Head}
use Rattle.zp_tree.specs.Tree.{Tree, exists, head_named, is_full, added}
use Rattle.zp_tree.specs.Rows.{refuse, first_row}

abbrev pub snapshot_rows : Tree → List ℕ → List (Bool × Verdict)
snapshot_rows t name =
    (not (is_snapshot_name name), refuse einval)
    ∷ (not (is_some (head_named t (head_of name))), refuse enoent)
    ∷ (exists t name, refuse eexist)
    ∷ (is_full t, refuse enospc)
    ∷ []

abbrev pub snapshot_check : Tree → List ℕ → Verdict
snapshot_check t name = first_row (snapshot_rows t name)

-- a snapshot of a head, with its stamp, without settings and holds, not deferred
abbrev pub new_snapshot : ℕ → List ℕ → ℕ → Head → Item
new_snapshot id short txg d = item.Snap (record { id = id; owner = d.id; short = short; settings = []; stamp = d.stamp; createtxg = txg; deferred = false; holds = [] })

abbrev pub snapshot_change : Tree → List ℕ → ℕ → Tree
snapshot_change t name txg = option_map_or (λ d. added t (new_snapshot t.next (short_of name) txg d)) (head_named t (head_of name)) t
