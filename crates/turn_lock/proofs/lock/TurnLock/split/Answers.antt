use Rattle.turn_lock.proofs.Seating.{split_left}
use Rattle.turn_lock.proofs.lock.TurnLock.split.Goals as goal

pub invariant_of-seat : goal.invariant_of-seat
invariant_of-seat g c =
    split_left c.seat.inside.place c.part-place.new.place c.seat.inside.origin.value c.seat.inside.turns c.args.number c.from.result c.args.seat.now c.seat.view_is c.seat.invariant c.from.ensures c.requires.holds c.requires.more c.part-place.ensures.own.1 c.part-place.ensures.kept
