use Rattle.std.proofs.Common.{◌≡◌, take, false}
use Rattle.std.specs.List.{list_any}
use Rattle.zp_tree.specs.Rename.{would_outgrow}
use Rattle.zp_checks.proofs.rename.any_would_outgrow.Given as goal

-- none of the records so far
abbrev pub invariant-loop-place : goal.invariant-loop-place
invariant-loop-place g l = list_any (would_outgrow (g.T.Datasets.tree l.tree).records l.name l.to) (take l.place (g.T.Datasets.tree l.tree).records) ≡ false
