use Rattle.shared_pool.proofs.Joining.{joins}
use Rattle.shared_pool.proofs.closing.join_pass.Goals as goal

pub returns : goal.returns
returns g c = let p = c.pass.inside in joins c.args.seat.now p.seat c.join.new.seat p.session c.args.pass c.join.ensures c.pass.invariant.seat_is.numbers c.pass.view_is
