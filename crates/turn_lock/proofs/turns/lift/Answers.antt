use Rattle.turn_lock.proofs.Turning.{lifts}
use Rattle.turn_lock.proofs.turns.lift.Goals as goal

pub returns : goal.returns
returns g c = let e = c.exchange-value.ensures in let h = c.requires.value in
    let l = lifts c.args.place.now.me c.exchange-value.new.seat.me h.0 c.exchange-value.result _ h.1 c.in-Some.value h.2 e.2 e.3 c.in-Some.is in
    ((e.0, e.1), l.0, l.1, l.2)
