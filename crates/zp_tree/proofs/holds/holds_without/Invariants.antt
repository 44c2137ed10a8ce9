use Rattle.std.proofs.Common.{◌≡◌, take}
use Rattle.zp_tree.specs.Holds.{holds_without}
use Rattle.zp_tree.proofs.holds.holds_without.Given as goal

-- of the holds so far the others are left
abbrev pub invariant-loop-hold : goal.invariant-loop-hold
invariant-loop-hold l = l.left.items ≡ holds_without l.tag (take l.hold-index l.holds)
