use Rattle.turn_lock_tests.proofs.tests.a_held_seat_takes_a_turn.Given as goal

abbrev pub ghost-of : goal.ghost-of
ghost-of g a = tt
