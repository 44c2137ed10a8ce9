use Rattle.std.proofs.Common.{◌≡◌, take, fold, option_map}
use Rattle.zcp_read.specs.Lists.{better_setting}
use Rattle.zcp_read.proofs.user_names.best_of.Given as goal

-- the settings so far
abbrev pub invariant-loop-setting : goal.invariant-loop-setting
invariant-loop-setting l = option_map (λ n. n.now) l.next ≡ fold (better_setting l.after) (option_map (λ n. n.now) l.found) (take l.setting-index l.settings)
