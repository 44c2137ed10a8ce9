use Rattle.std.proofs.Common.{◌≡◌, take, option_map}
use Rattle.zp_tree.specs.Rollback.{latest}
use Rattle.zp_tree.proofs.plain.latest_snapshot.Given as goal

-- the latest snapshot among the records so far
abbrev pub invariant-loop-item : goal.invariant-loop-item
invariant-loop-item l = option_map (λ s. s.now) l.found ≡ latest l.owner (take l.item-index l.records)
