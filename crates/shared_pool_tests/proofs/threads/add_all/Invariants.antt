use Rattle.shared_pool.specs.Passes.{IsSamePass}
use Rattle.shared_pool_tests.proofs.threads.add_all.Given as goal

abbrev pub invariant-loop : goal.invariant-loop
invariant-loop g l = IsSamePass l.initial.pass l.pass
