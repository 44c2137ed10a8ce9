use Rattle.std.proofs.Common.{rules}
use Rattle.turn_lock.proofs.Parting.{brings, splits, numbered_idle, parted}
use Rattle.turn_lock.proofs.seats.part.Goals as goal

pub compare_exchange-requires : goal.compare_exchange-requires
compare_exchange-requires g c = (search rules, search rules, brings g.T.Recorded.stands g.T.Recorded.maker _ _ _ _ c.args.number c.args.place.now.me c.requires.holds)

pub split_seat-requires : goal.split_seat-requires
split_seat-requires g c = (search rules, search rules, splits _ _ _ _ _ _ (numbered_idle c.args.place.now.me.0 _ _ c.compare_exchange.ensures.2.1 c.requires.free.1))

pub returns : goal.returns
returns g c =
    let s = c.split_seat.ensures in
    let e = c.compare_exchange.ensures in
    let p = parted c.args.place.now.me c.compare_exchange.new.seat.me c.split_seat.new.seat.me c.split_seat.result.me c.args.number c.requires.holds c.requires.free.0 c.requires.free.1 e.2.0 e.2.1 s.2 s.4 in
    record { own = ((search rules, search rules), p.1); kept = p.0; given = (search rules, p.2, p.3) }
