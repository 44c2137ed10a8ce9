use Rattle.turn_lock.proofs.Parting.{not_none}
use Rattle.turn_lock.proofs.Seating.{closes_seat, closes_with, every_number}
use Rattle.turn_lock.proofs.lock.TurnLock.close.Goals as goal

pub unreachable-requires : goal.unreachable-requires
unreachable-requires g c =
    let e = closes_seat g.T.Recorded.stands g.T.Recorded.maker _ _ c.seat.inside.place c.seat.inside.origin.value c.seat.inside.turns c.args.seat _ _ c.take-value.result c.seat.view_is c.seat.invariant c.close_with-closed.ensures.values.2 c.take-value.ensures.value c.requires.free (every_number _ _ c.args.seat.numbers c.self.view_is c.requires.every) in
    absurd (not_none c.take-value.result.value e.0 c.in-None.is e.1)

pub returns : goal.returns
returns g c =
    let e = closes_seat g.T.Recorded.stands g.T.Recorded.maker _ _ c.seat.inside.place c.seat.inside.origin.value c.seat.inside.turns c.args.seat _ _ c.take-value.result c.seat.view_is c.seat.invariant c.close_with-closed.ensures.values.2 c.take-value.ensures.value c.requires.free (every_number _ _ c.args.seat.numbers c.self.view_is c.requires.every) in
    closes_with g.T.Recorded.stands g.T.Recorded.maker c.args.seat c.take-value.result.value e.0 c.in-Some.value e.1 c.in-Some.is e.2
