use Rattle.std.proofs.Common.{subst, IfNone}
use Rattle.shared_pool.specs.Submits.{IsPassTicket}
use Rattle.txg_core.proofs.Ready.{none-left}
use Rattle.shared_pool.proofs.Replies.{collected, waits-on, same-on}
use Rattle.shared_pool.proofs.opening.SharedPool.collect.Goals as goal

pub returns-in-Some-try_collect-clause-front : goal.returns-in-Some-try_collect-clause-front
returns-in-Some-try_collect-clause-front g c =
    collected g.O.Stated.means c.args.pass.now c.loop.pass c.args.ticket c.try_collect.new.pass.front c.loop.invariant.same c.loop.invariant.later c.in-Some-try_collect.answer c.in-Some-try_collect.ensures.front

pub loop-preserved : goal.loop-preserved
loop-preserved g c = let r = c.try_collect in let none = none-left r.result c.in_default.not-Some in record {
  same = same-on c.args.pass.now c.loop.pass r.new.pass c.loop.invariant.same r.ensures.same;
  later = waits-on g.O.Stated.means c.args.pass.now c.loop.pass c.args.ticket r.new.pass.front c.loop.invariant.same c.loop.invariant.later r.result none r.ensures.front;
  ticket = subst (λ z. IfNone z (IsPassTicket g.O.Stated.means r.new.pass c.args.ticket)) none r.ensures.ticket;
}
