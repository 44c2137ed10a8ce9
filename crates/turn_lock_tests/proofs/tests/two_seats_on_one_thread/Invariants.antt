use Rattle.turn_lock_tests.proofs.tests.two_seats_on_one_thread.Given as goal

abbrev pub ghost-of : goal.ghost-of
ghost-of g a = tt
