use Rattle.shared_pool.specs.Passes.{IsSameSyncPass}
use Rattle.shared_pool_tests.proofs.threads.move_on.Given as goal

abbrev pub invariant-loop : goal.invariant-loop
invariant-loop g l = IsSameSyncPass l.initial.pass l.pass
