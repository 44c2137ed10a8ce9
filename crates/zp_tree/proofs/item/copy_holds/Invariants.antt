use Rattle.std.proofs.Common.{◌≡◌, take}
use Rattle.zp_tree.proofs.item.copy_holds.Given as goal

-- the holds so far are copied
abbrev pub invariant-loop-hold : goal.invariant-loop-hold
invariant-loop-hold l = l.items.items ≡ take l.hold-index l.holds
