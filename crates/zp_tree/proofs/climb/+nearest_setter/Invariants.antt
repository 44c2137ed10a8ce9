use Rattle.std.proofs.Common.{length}
use Rattle.zp_tree.proofs.climb.+nearest_setter.Given as goal

-- each name is shorter than the one below it
abbrev pub decreases-nearest_setter : goal.decreases-nearest_setter
decreases-nearest_setter l = length l.head.now.name
