-- Taking a dataset back to a snapshot: zfs-rollback(8).
use Rattle.std.specs.Prelude.{ℕ, ◌==◌, Bool, false, not, is_some, List, [], ◌∷◌, Option, Some, None, option_and_then, if◌then◌else◌}
use Rattle.std.specs.Option.{option_map_or, option_or}
use Rattle.zp_names.specs.Names.{is_head}
use Rattle.zp_names.specs.ErrorNumbers.{ebusy, einval, enoent}
use Rattle.zp_names.specs.declared.verdict.Verdict.{Verdict}
use Rattle.zp_tree.specs.declared.item.Item.{Item}
use Rattle.zp_tree.specs.declared.item.Item.TheVariants as item
use Rattle.zp_tree.specs.declared.item.Head.{Head}
use Rattle.zp_tree.specs.declared.item.Snapshot.{Snapshot}
use Rattle.zp_tree.specs.Tree.{Tree, as_snapshot, head_named, snapshot_at, replaced}
use Rattle.zp_tree.specs.Items.{is_mounted}
use Rattle.zp_tree.specs.Rows.{refuse, first_row}

-- the record as a snapshot of this head
abbrev pub own_snapshot : ℕ → Item → Option Snapshot
own_snapshot owner r = option_and_then (λ (s : Snapshot). if s.owner == owner then Some s else None) (as_snapshot r)

-- the last snapshot of this head in the list: since ids rise, the one of the greatest id
abbrev pub latest : ℕ → List Item → Option Snapshot
latest owner [] = None
latest owner (r ∷ rs) = option_or (latest owner rs) (own_snapshot owner r)

-- what a head is taken back to: its latest snapshot, else its origin
abbrev pub rollback_source : Tree → Head → Option Snapshot
rollback_source t d = option_or (latest d.id t.records) (option_and_then (snapshot_at t) d.origin)

abbrev pub rollback_rows : Tree → List ℕ → List (Bool × Verdict)
rollback_rows t name =
    (not (is_head name), refuse einval)
    ∷ (not (is_some (head_named t name)), refuse enoent)
    ∷ (option_map_or is_mounted (head_named t name) false, refuse ebusy)
    ∷ (option_map_or (λ d. not (is_some (rollback_source t d))) (head_named t name) false, refuse einval)
    ∷ []

abbrev pub rollback_check : Tree → List ℕ → Verdict
rollback_check t name = first_row (rollback_rows t name)

-- the tree in which the head has the stamp of that snapshot
abbrev pub rolled_back : Tree → Head → Tree
rolled_back t d = option_map_or (λ (s : Snapshot). replaced t (item.Head (record d { stamp = s.stamp }))) (rollback_source t d) t

abbrev pub rollback_change : Tree → List ℕ → Tree
rollback_change t name = option_map_or (rolled_back t) (head_named t name) t
