use Rattle.std.proofs.Common.{vec_len}
use Rattle.zp_changes.proofs.Whole.{Putting}
use Rattle.zp_changes.proofs.change.change_all.Given as goal

-- what is left to put makes the changed list
abbrev pub invariant-loop-item : goal.invariant-loop-item
invariant-loop-item g l = Putting (g.C.Change.gives l.change) (g.T.Datasets.tree l.fn.tree) (g.T.Datasets.tree l.tree) l.items.items

abbrev pub decreases-loop-item : goal.decreases-loop-item
decreases-loop-item g l = vec_len l.items
