use Rattle.std.proofs.Common.{take, option_map}
use Rattle.zp_tree.specs.NextByName.{Comes}
use Rattle.zp_tree.proofs.next_by_name.first_by_name.Given as goal

-- what comes first among the records so far
abbrev pub invariant-loop-item : goal.invariant-loop-item
invariant-loop-item g l = Comes (take l.item-index l.records) (g.W.Wanted.wants l.wanted) (option_map (λ r. r.now) l.found)
