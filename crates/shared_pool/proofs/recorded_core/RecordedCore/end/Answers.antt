use Rattle.shared_pool.proofs.Recording.{standing}
use Rattle.shared_pool.proofs.recorded_core.RecordedCore.end.Goals as goal

pub end-requires-clause-standing : goal.end-requires-clause-standing
end-requires-clause-standing g c = let k = c.self in standing g.O.Stated.means k.inside.opening.value k.inside.core k.inside.history.value k.invariant
