use Rattle.std.proofs.Common.{length}
use Rattle.zp_tree.proofs.next_by_name.+cmp_joined.Given as goal

abbrev pub decreases-cmp_joined : goal.decreases-cmp_joined
decreases-cmp_joined l = length l.owner.now
