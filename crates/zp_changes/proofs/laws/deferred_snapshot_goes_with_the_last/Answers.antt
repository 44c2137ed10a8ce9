use Rattle.zp_changes.proofs.DeferredGo.{deferred-go}
use Rattle.zp_changes.proofs.laws.deferred_snapshot_goes_with_the_last.Goals as goal

pub returns : goal.returns
returns c = λ t d txg now s w e there deferred. deferred-go t d txg now s w e there deferred
