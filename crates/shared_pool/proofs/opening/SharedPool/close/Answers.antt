use Rattle.shared_pool.proofs.Joining.{closed-all, if_ok-map}
use Rattle.shared_pool.proofs.opening.SharedPool.close.Goals as goal

pub returns : goal.returns
returns g c = let p = c.sync.inside in
    if_ok-map c.finish.result _ _
    (λ closed end. closed-all g.O.Stated.means p.seat c.join_passes.new.seat c.args.sync c.args.passes.items c.close-core.result closed c.sync.view_is c.sync.invariant.seat_is.numbers c.join_passes.ensures c.close-core.ensures end)
    c.finish.ensures
