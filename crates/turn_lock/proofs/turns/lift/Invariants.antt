use Rattle.std.proofs.Common.{[]}
use Rattle.turn_lock.proofs.turns.lift.Given as goal

abbrev pub ghost-of : goal.ghost-of
ghost-of g a = []
