use Rattle.std.specs.Prelude.{◌+◌}
use Rattle.known.proofs.tests.sum_of.Given as goal

abbrev pub ghost-from_pair : goal.ghost-from_pair
ghost-from_pair a = a.one.now + a.other.now
