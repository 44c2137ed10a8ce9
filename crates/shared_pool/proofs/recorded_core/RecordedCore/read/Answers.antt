use Rattle.shared_pool.proofs.Recording.{standing}
use Rattle.shared_pool.proofs.recorded_core.RecordedCore.read.Goals as goal

pub read-requires-clause-standing : goal.read-requires-clause-standing
read-requires-clause-standing g c = let k = c.self in standing g.O.Stated.means k.inside.opening.value k.inside.core k.inside.history.value k.invariant
