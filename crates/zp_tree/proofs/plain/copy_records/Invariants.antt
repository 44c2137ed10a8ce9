use Rattle.std.proofs.Common.{◌≡◌, take}
use Rattle.zp_tree.proofs.plain.copy_records.Given as goal

-- the records so far are copied
abbrev pub invariant-loop-item : goal.invariant-loop-item
invariant-loop-item l = l.copies.items ≡ take l.item-index l.records
