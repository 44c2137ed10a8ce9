use Rattle.std.proofs.Common.{ap}
use Rattle.txg_core.specs.Openings.{origin_at}
use Rattle.shared_pool.specs.Moves.{Advances}
use Rattle.shared_pool.proofs.Makers.{move-own}
use Rattle.shared_pool.proofs.Turning.{may-leave, goes-on}
use Rattle.shared_pool.proofs.opening.SharedPool.advance.Goals as goal

pub leave-requires-clause-made : goal.leave-requires-clause-made
leave-requires-clause-made g c = let e = c.enter-core in let r = c.advance-answer in
    may-leave g.O.Stated.means c.pass.inside.seat e.new.seat e.result 0 e.ensures c.pass.invariant.seat_is r.new.self.history
    (move-own (origin_at g.O.Stated.means e.result.opening) r.result e.result.history r.new.self.history r.ensures.made)

pub returns-clause-front : goal.returns-clause-front
returns-clause-front g c = let e = c.enter-core in let r = c.advance-answer in
    rw (← c.pass.view_is) (goes-on g.O.Stated.means c.pass.inside.seat e.new.seat e.result 0 e.ensures c.pass.invariant.seat_is (λ o. Advances o r.result) r.new.self c.leave.new.seat.seen
    r.ensures.same c.leave.ensures.legal r.ensures.made (ap (λ s. s.seen) c.leave.ensures.seat))
