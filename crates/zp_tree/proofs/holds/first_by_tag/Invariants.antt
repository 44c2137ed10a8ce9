use Rattle.std.proofs.Common.{take, option_map}
use Rattle.zp_tree.specs.FirstByKey.{FirstBy}
use Rattle.zp_tree.specs.NextTag.{tag_of, is_tag_above}
use Rattle.zp_tree.proofs.holds.first_by_tag.Given as goal

-- what comes first among the holds so far
abbrev pub invariant-loop-hold : goal.invariant-loop-hold
invariant-loop-hold l = FirstBy tag_of (take l.hold-index l.holds) (is_tag_above l.after) (option_map (λ h. h.now) l.found)
