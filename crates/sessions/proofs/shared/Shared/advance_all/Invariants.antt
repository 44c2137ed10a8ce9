use Rattle.shared_pool.specs.Passes.{IsSameSyncPass}
use Rattle.sessions.proofs.shared.Shared.advance_all.Given as goal

abbrev pub invariant-loop : goal.invariant-loop
invariant-loop g l = IsSameSyncPass l.initial.pass l.pass
