use Rattle.std.proofs.Common.{◌≡◌, drop}
use Rattle.zp_tree.specs.WellFormed.{IsWellFormed}
use Rattle.zc_doc.specs.Setup.{set_up}
use Rattle.zc_doc.proofs.setup.set_up.Given as goal

-- what is left to be done on the tree as it is gives what all gives
abbrev pub invariant-loop-place : goal.invariant-loop-place
invariant-loop-place g l =
    let tree = g.T.Datasets.tree in
    (set_up l.now l.place (tree l.tree) (drop l.place l.commands) ≡ set_up l.now 0 (tree l.fn.tree) l.commands)
    × IsWellFormed (tree l.tree)
