use Rattle.std.proofs.Common.{vec_len}
use Rattle.shared_pool.specs.Seating.{JoinedPasses}
use Rattle.shared_pool.proofs.closing.join_passes.Given as goal

abbrev pub invariant-loop-pass : goal.invariant-loop-pass
invariant-loop-pass g l = JoinedPasses l.initial.seat l.initial.passes.items l.passes.items l.seat

abbrev pub decreases-loop-pass : goal.decreases-loop-pass
decreases-loop-pass g l = vec_len l.passes
