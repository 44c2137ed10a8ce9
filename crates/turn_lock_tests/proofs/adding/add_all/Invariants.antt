use Rattle.turn_lock_tests.specs.Adding.{IsLater, IsMore}
use Rattle.turn_lock_tests.proofs.adding.add_all.Given as goal

abbrev pub invariant-loop : goal.invariant-loop
invariant-loop g l = IsLater l.initial.seat l.counter l.seat × IsMore l.initial.seat l.number l.counter l.seat
