use Rattle.shared_pool.proofs.Recording.{standing}
use Rattle.shared_pool.proofs.recorded_core.RecordedCore.quiesce.Goals as goal

pub quiesce-requires-clause-standing : goal.quiesce-requires-clause-standing
quiesce-requires-clause-standing g c = let k = c.self in standing g.O.Stated.means k.inside.opening.value k.inside.core k.inside.history.value k.invariant
