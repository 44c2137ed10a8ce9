use Rattle.std.proofs.Common.{◌≡◌, ◌+◌, ap, sym, ◌∙◌, subst}
use Rattle.txg_core.specs.declared.task.Task.{Task}
use Rattle.txg_core.specs.Enabled.{Enabled}
use Rattle.txg_core.specs.History.{holds}
use Rattle.txg_core.specs.Serial.{next}
use Rattle.txg_core.specs.Openings.{origin_at}
use Rattle.shared_pool.specs.Submits.{Submits}
use Rattle.shared_pool.proofs.Makers.{submit-own}
use Rattle.shared_pool.proofs.Turning.{may-leave, goes-on, may-start, number-in, pass-after, pass_at, same-after}
use Rattle.shared_pool.proofs.Tickets.{ticket-given, if_ok-ticket, none-made}
use Rattle.shared_pool.proofs.opening.SharedPool.submit.Goals as goal

pub submit-answer-requires-clause-may : goal.submit-answer-requires-clause-may
submit-answer-requires-clause-may g c = let e = c.enter-core in let p = c.pass.inside in
    subst (λ (t : Task g.row.O.Denot g.row.O-Call.Denot g.row.O-Reply.Denot). Enabled (origin_at g.O.Stated.means e.result.opening) e.result.history (holds t.session t.call)) (sym c.in-Ok.ensures.ok)
    (may-start g.O.Stated.means p.seat e.new.seat e.result p.session p.count p.progress e.ensures c.pass.invariant c.args.pass.now c.pass.view_is c.requires.idle c.requires.left, g.met.O.Stated.kind_is e.result.opening.object c.args.call ∙ c.requires.change)

pub submit-answer-requires-clause-number : goal.submit-answer-requires-clause-number
submit-answer-requires-clause-number g c = let e = c.enter-core in let p = c.pass.inside in
    subst (λ (t : Task g.row.O.Denot g.row.O-Call.Denot g.row.O-Reply.Denot). t.call_no ≡ next (origin_at g.O.Stated.means e.result.opening) e.result.history t.session) (sym c.in-Ok.ensures.ok)
    (number-in g.O.Stated.means p.seat e.new.seat e.result p.session p.count p.progress e.ensures c.pass.invariant)

pub leave-requires-clause-made : goal.leave-requires-clause-made
leave-requires-clause-made g c = let e = c.enter-core in let p = c.pass.inside in let r = c.submit-answer in
    may-leave g.O.Stated.means p.seat e.new.seat e.result (p.session + 1) e.ensures c.pass.invariant.seat_is r.new.self.history
    (submit-own (origin_at g.O.Stated.means e.result.opening) p.session c.args.call r.result e.result.history r.new.self.history
    (subst (λ (t : Task g.row.O.Denot g.row.O-Call.Denot g.row.O-Reply.Denot). Submits (origin_at g.O.Stated.means e.result.opening) t.session t.call r.result e.result.history r.new.self.history) c.in-Ok.ensures.ok r.ensures.made))

pub returns-clause-front : goal.returns-clause-front
returns-clause-front g c = let e = c.enter-core in let p = c.pass.inside in let r = c.submit-answer in
    rw (← c.pass.view_is) (goes-on g.O.Stated.means p.seat e.new.seat e.result (p.session + 1) e.ensures c.pass.invariant.seat_is (λ o. Submits o p.session c.args.call r.result) r.new.self c.leave.new.seat.seen
    r.ensures.same c.leave.ensures.legal
    (subst (λ (t : Task g.row.O.Denot g.row.O-Call.Denot g.row.O-Reply.Denot). Submits (origin_at g.O.Stated.means e.result.opening) t.session t.call r.result e.result.history r.new.self.history) c.in-Ok.ensures.ok r.ensures.made)
    (ap (λ s. s.seen) c.leave.ensures.seat))

pub returns-clause-ticket : goal.returns-clause-ticket
returns-clause-ticket g c = let e = c.enter-core in let i = c.pass.inside in let p = c.args.pass.now in let f = returns-clause-front g c in
    if_ok-ticket g.O.Stated.means p (pass_at i.session c.leave.new.seat) c.submit-answer.result
    (same-after g.O.Stated.means i.seat e.new.seat e.result i.session i.count i.progress e.ensures c.pass.invariant c.submit-answer.new.self c.leave.new.seat p c.leave.ensures.seat c.pass.view_is)
    (ticket-given (origin_at g.O.Stated.means p.opening) p.session c.args.call c.submit-answer.result f.found c.leave.new.seat.seen f.made)

pub invariant_of-pass : goal.invariant_of-pass
invariant_of-pass g c = let e = c.enter-core in let p = c.pass.inside in let r = c.submit-answer in
    pass-after g.O.Stated.means p.seat e.new.seat e.result p.session p.count p.progress e.ensures c.pass.invariant r.new.self c.progress-pass-inside.result c.leave.new.seat c.leave.ensures.seat r.ensures.same c.leave.ensures.legal c.progress-pass-inside.ensures

pub returns-in_default-clause-front : goal.returns-in_default-clause-front
returns-in_default-clause-front g c = let p = c.pass.inside in
    rw (← c.pass.view_is) (none-made (origin_at g.O.Stated.means p.seat.origin) (p.session + 1) p.session c.args.call p.seat.seen c.pass.invariant.seat_is.legal)
