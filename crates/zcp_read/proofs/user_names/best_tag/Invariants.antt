use Rattle.std.proofs.Common.{◌≡◌, None, take, fold, option_map}
use Rattle.zcp_read.specs.Lists.{better_hold}
use Rattle.zcp_read.proofs.user_names.best_tag.Given as goal

-- the holds so far
abbrev pub invariant-loop-hold : goal.invariant-loop-hold
invariant-loop-hold l = option_map (λ n. n.now) l.next ≡ fold (better_hold l.after) None (take l.hold-index l.holds)
