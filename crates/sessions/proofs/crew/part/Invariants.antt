use Rattle.std.proofs.Common.{vec_len}
use Rattle.sessions.proofs.Crews.{Parting}
use Rattle.sessions.proofs.crew.part.Given as goal

abbrev pub invariant-loop-worker : goal.invariant-loop-worker
invariant-loop-worker g l = Parting l.initial.workers.items l.workers.items l.parts

abbrev pub decreases-loop-worker : goal.decreases-loop-worker
decreases-loop-worker g l = vec_len l.workers
