use Rattle.std.proofs.Common.{rules, refl}
use Rattle.turn_lock.proofs.Parting.{opens_at}
use Rattle.turn_lock.proofs.Seating.{first_seat}
use Rattle.turn_lock.proofs.lock.TurnLock.new.Goals as goal

pub new-requires : goal.new-requires
new-requires g c = let stands = c.requires.stands in
    opens_at g.T.Recorded.stands g.T.Recorded.maker _ c.args.origin.value _ c.args.numbers c.args.value _ c.args.list.value _ _ _ c.again.ensures c.again-2.ensures refl stands refl refl c.in_ok-slots.ensures
    (c.len-count.ensures c.args.origin.value c.args.list.value stands) (search rules) (search rules)

pub invariant_of-result-in-Ok : goal.invariant_of-result-in-Ok
invariant_of-result-in-Ok g c = first_seat c.in-Ok.place _ c.args.origin.value _ _ c.args.numbers c.in-Ok.ensures.ok.4 c.again.ensures refl c.requires.some
