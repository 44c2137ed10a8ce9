use Rattle.std.proofs.Common.{ℕ, ◌+◌, ap, sym, ◌∙◌, subst}
use Rattle.txg_core.specs.Openings.{origin_at}
use Rattle.shared_pool.specs.Passes.{PassView, GrowsByOwn}
use Rattle.shared_pool.specs.Submits.{IsTicketOf}
use Rattle.shared_pool.specs.Collects.{Tries}
use Rattle.shared_pool.proofs.Makers.{try-own}
use Rattle.shared_pool.proofs.Replies.{ticket-waits}
use Rattle.shared_pool.proofs.Turning.{may-leave, goes-on, ticket-in, pass-after, pass_at, same-after}
use Rattle.shared_pool.proofs.Tickets.{if_none-ticket}
use Rattle.shared_pool.proofs.opening.SharedPool.try_collect.Goals as goal

pub try_take-answer-requires : goal.try_take-answer-requires
try_take-answer-requires g c = let e = c.enter-core in let p = c.pass.inside in
    ticket-in g.O.Stated.means p.seat e.new.seat e.result p.session p.count p.progress e.ensures c.pass.invariant c.args.ticket.now (c.requires.ticket.0 ∙ sym (ap (λ z. z.session) c.pass.view_is))
    (subst (λ (z : PassView g.row.O.Denot g.row.O-Call.Denot). IsTicketOf (origin_at g.O.Stated.means z.opening) z.front c.args.ticket.now) (sym c.pass.view_is) c.requires.ticket.1)

pub leave-requires-clause-made : goal.leave-requires-clause-made
leave-requires-clause-made g c = let e = c.enter-core in let p = c.pass.inside in let r = c.try_take-answer in let t = c.args.ticket.now in
    may-leave g.O.Stated.means p.seat e.new.seat e.result (p.session + 1) e.ensures c.pass.invariant.seat_is r.new.self.history
    (subst (λ (n : ℕ). GrowsByOwn (n + 1) e.result.history r.new.self.history) (c.requires.ticket.0 ∙ sym (ap (λ z. z.session) c.pass.view_is)) (try-own (origin_at g.O.Stated.means e.result.opening) t r.result e.result.history r.new.self.history r.ensures.made))

pub invariant_of-pass : goal.invariant_of-pass
invariant_of-pass g c = let e = c.enter-core in let p = c.pass.inside in let r = c.try_take-answer in
    pass-after g.O.Stated.means p.seat e.new.seat e.result p.session p.count p.progress e.ensures c.pass.invariant r.new.self c.progress-pass-inside.result c.leave.new.seat c.leave.ensures.seat r.ensures.same c.leave.ensures.legal c.progress-pass-inside.ensures

pub returns-clause-front : goal.returns-clause-front
returns-clause-front g c = let e = c.enter-core in let p = c.pass.inside in let r = c.try_take-answer in
    rw (← c.pass.view_is) (goes-on g.O.Stated.means p.seat e.new.seat e.result (p.session + 1) e.ensures c.pass.invariant.seat_is (λ o. Tries o c.args.ticket.now r.result) r.new.self c.leave.new.seat.seen
    r.ensures.same c.leave.ensures.legal r.ensures.made (ap (λ s. s.seen) c.leave.ensures.seat))

pub returns-clause-ticket : goal.returns-clause-ticket
returns-clause-ticket g c = let e = c.enter-core in let i = c.pass.inside in let p = c.args.pass.now in let t = c.args.ticket.now in let r = c.try_take-answer in
    if_none-ticket g.O.Stated.means p (pass_at i.session c.leave.new.seat) t r.result
    (same-after g.O.Stated.means i.seat e.new.seat e.result i.session i.count i.progress e.ensures c.pass.invariant r.new.self c.leave.new.seat p c.leave.ensures.seat c.pass.view_is)
    c.requires.ticket.0
    (ticket-waits (origin_at g.O.Stated.means p.opening) t p.session p.front c.leave.new.seat.seen r.result c.requires.ticket.0 c.requires.ticket.1 (returns-clause-front g c))
