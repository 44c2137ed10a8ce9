use Rattle.shared_pool.proofs.Turning.{enters}
use Rattle.shared_pool.proofs.turns.enter.Goals as goal

pub returns : goal.returns
returns g c = let e = c.take-core.ensures in
    enters g.O.Stated.means c.args.seat.now c.take-core.new.seat c.take-core.result e.seat e.stands.0 e.stands.1 e.seen c.history-history.ensures.legal
