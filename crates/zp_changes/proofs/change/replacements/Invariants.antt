use Rattle.std.proofs.Common.{◌≡◌, take}
use Rattle.std.specs.List.{filter_map}
use Rattle.zp_changes.proofs.change.replacements.Given as goal

-- the changed ones among the records so far
abbrev pub invariant-loop-place : goal.invariant-loop-place
invariant-loop-place g l = l.items.items ≡ filter_map (g.C.Change.gives l.change) (take l.place (g.T.Datasets.tree l.tree).records)
