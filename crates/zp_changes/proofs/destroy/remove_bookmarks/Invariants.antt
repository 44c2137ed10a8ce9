use Rattle.std.proofs.Common.{length}
use Rattle.zp_changes.proofs.LosingBookmarks.{Rest}
use Rattle.zp_changes.proofs.destroy.remove_bookmarks.Given as goal

-- the bookmarks that are left are those of the tree that was given
abbrev pub invariant-loop-bookmark : goal.invariant-loop-bookmark
invariant-loop-bookmark g l = Rest (g.T.Datasets.tree l.initial.tree) (g.T.Datasets.tree l.tree) l.owner

abbrev pub decreases-loop-bookmark : goal.decreases-loop-bookmark
decreases-loop-bookmark g l = length (g.T.Datasets.tree l.tree).records
