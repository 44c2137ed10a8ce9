use Rattle.std.proofs.Common.{rules}
use Rattle.turn_lock.proofs.Parting.{joins, looks_back, joined}
use Rattle.turn_lock.proofs.seats.take_in.Goals as goal

pub join_seat-requires : goal.join_seat-requires
join_seat-requires g c = (search rules, search rules, search rules, search rules, joins _ _ _ _ _ _ _ _ c.requires.free.0.1 c.requires.free.1.1 c.requires.some.0 c.requires.some.1)

pub load-requires : goal.load-requires
load-requires g c = (search rules, search rules, looks_back g.T.Recorded.stands _ _ _ _ _ _)

pub returns : goal.returns
returns g c =
    let a = c.join_seat.ensures in
    let b = c.load.ensures in
    joined g.T.Recorded.maker c.args.place.now c.args.other c.join_seat.new.seat c.load.new.seat c.requires.free.0.0 c.requires.free.0.1 a.0 a.1 a.2 b.0 b.1 b.2.0 b.2.1
