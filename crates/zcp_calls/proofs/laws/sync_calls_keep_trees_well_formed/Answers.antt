use Rattle.zcp_calls.proofs.KeepingTrees.{sync_keeps}
use Rattle.zcp_calls.proofs.laws.sync_calls_keep_trees_well_formed.Goals as goal

pub returns : goal.returns
returns c = sync_keeps
