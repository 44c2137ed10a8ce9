use Rattle.std.proofs.Common.{vec_len}
use Rattle.sessions.specs.Workers.{MakesCrew}
use Rattle.sessions.proofs.crew.crew.Given as goal

abbrev pub invariant-loop-pass : goal.invariant-loop-pass
invariant-loop-pass g l = MakesCrew l.initial.passes.items l.passes.items l.initial.calls.items l.calls.items l.fn.sync l.workers.items

abbrev pub decreases-loop-pass : goal.decreases-loop-pass
decreases-loop-pass g l = vec_len l.passes
