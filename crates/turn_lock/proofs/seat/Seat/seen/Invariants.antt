use Rattle.turn_lock.proofs.seat.Seat.seen.Given as goal

abbrev pub ghost-from_pair : goal.ghost-from_pair
ghost-from_pair g a = a.one.now.me.0.list
