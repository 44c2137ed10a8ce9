use Rattle.turn_lock_tests.proofs.adding.+add_by_threads+fn-add_by_threads-join_mut+arg2.Given as goal

abbrev pub decreases-add_by_threads : goal.decreases-add_by_threads
decreases-add_by_threads g l = l.threads

abbrev pub decreases-join_mut+arg2 : goal.decreases-join_mut+arg2
decreases-join_mut+arg2 g l = l.number
