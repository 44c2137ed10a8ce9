use Rattle.std.proofs.Common.{◌≡◌, take, fold, option_map}
use Rattle.zcp_read.specs.Lists.{better_setting, settings_from}
use Rattle.zcp_read.proofs.user_names.best_from.Given as goal

-- the records so far
abbrev pub invariant-loop-place : goal.invariant-loop-place
invariant-loop-place g l = option_map (λ n. n.now) l.next ≡ fold (better_setting l.after) (option_map (λ n. n.now) l.found) (settings_from (take l.place (g.T.Datasets.tree l.tree).records) l.name)
