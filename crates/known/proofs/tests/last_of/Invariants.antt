use Rattle.known.proofs.tests.last_of.Given as goal

abbrev pub ghost-from_four : goal.ghost-from_four
ghost-from_four a = a.fourth.now
