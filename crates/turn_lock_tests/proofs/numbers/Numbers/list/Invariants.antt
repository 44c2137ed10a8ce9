use Rattle.turn_lock_tests.specs.Numbers.{newest_first}
use Rattle.turn_lock_tests.proofs.numbers.Numbers.list.Given as goal

abbrev pub ghost-from_pair : goal.ghost-from_pair
ghost-from_pair a = newest_first a.one.now
