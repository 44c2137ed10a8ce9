use Rattle.std.proofs.Common.{◌≡◌, take, sum_by}
use Rattle.zp_tree.specs.WellFormed.{user_settings}
use Rattle.zp_tree.proofs.plain.user_settings.Given as goal

-- the sum over the records so far
abbrev pub invariant-loop-item : goal.invariant-loop-item
invariant-loop-item l = l.sum ≡ sum_by user_settings (take l.item-index l.records)
