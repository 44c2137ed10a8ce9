use Rattle.std.proofs.Common.{◌≡◌, ◌++◌}
use Rattle.zcp_read.specs.Lists.{names_listed, names_in}
use Rattle.zcp_read.proofs.list.listed.Given as goal

-- what is given, and what is left for the loop, are the whole
abbrev pub invariant-loop-left : goal.invariant-loop-left
invariant-loop-left g l =
    let all = names_in (g.T.Datasets.tree l.tree) l.kind l.item in
    (l.names.items ++ names_listed l.last l.left all) ≡ names_listed l.after l.limit all

abbrev pub decreases-loop-left : goal.decreases-loop-left
decreases-loop-left g l = l.left
