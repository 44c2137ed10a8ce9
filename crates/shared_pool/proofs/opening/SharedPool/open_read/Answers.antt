use Rattle.std.proofs.Common.{◌+◌, Ok, Err, ap, ◌∙◌}
use Rattle.zc_io.specs.declared.memory.NoMemory.{NoMemory}
use Rattle.shared_pool.specs.Submits.{ReadsOnce}
use Rattle.shared_pool.proofs.Makers.{read-own}
use Rattle.shared_pool.proofs.Replies.{read-reply, answered}
use Rattle.shared_pool.proofs.Turning.{may-leave, goes-on, may-start, pass-after}
use Rattle.shared_pool.proofs.opening.SharedPool.open_read.Goals as goal

pub ask-answer-requires-clause-may : goal.ask-answer-requires-clause-may
ask-answer-requires-clause-may g c = let e = c.enter-core in let p = c.pass.inside in
    (may-start g.O.Stated.means p.seat e.new.seat e.result p.session p.count p.progress e.ensures c.pass.invariant c.args.pass.now c.pass.view_is c.requires.idle c.requires.left, g.met.O.Stated.kind_is e.result.opening.object c.args.call ∙ c.requires.query)

pub leave-requires-clause-made : goal.leave-requires-clause-made
leave-requires-clause-made g c = let e = c.enter-core in let p = c.pass.inside in let r = c.ask-answer in
    may-leave g.O.Stated.means p.seat e.new.seat e.result (p.session + 1) e.ensures c.pass.invariant.seat_is r.new.self.history
    (read-own p.session c.args.call r.result e.result.history r.new.self.history r.ensures.made)

pub invariant_of-pass : goal.invariant_of-pass
invariant_of-pass g c = let e = c.enter-core in let p = c.pass.inside in let r = c.ask-answer in
    pass-after g.O.Stated.means p.seat e.new.seat e.result p.session p.count p.progress e.ensures c.pass.invariant r.new.self c.progress-pass-inside.result c.leave.new.seat c.leave.ensures.seat r.ensures.same c.leave.ensures.legal c.progress-pass-inside.ensures

pub returns-in-Ok-clause-front : goal.returns-in-Ok-clause-front
returns-in-Ok-clause-front g c = let e = c.enter-core in let p = c.pass.inside in let r = c.ask-answer in
    rw (← c.pass.view_is) (goes-on g.O.Stated.means p.seat e.new.seat e.result (p.session + 1) e.ensures c.pass.invariant.seat_is (λ _. ReadsOnce {E = NoMemory} p.session c.args.call (Ok c.in-Ok.reply)) r.new.self c.leave.new.seat.seen
    r.ensures.same c.leave.ensures.legal (answered p.session c.args.call e.result.history r.new.self.history r.result (Ok c.in-Ok.reply) c.in-Ok.is r.ensures.made) (ap (λ s. s.seen) c.leave.ensures.seat))

pub returns-in-Ok-clause-reply : goal.returns-in-Ok-clause-reply
returns-in-Ok-clause-reply g c = let e = c.enter-core in let p = c.pass.inside in let r = c.ask-answer in
    read-reply g.O.Stated.means c.args.pass.now.opening e.result.opening e.result.history c.leave.new.seat.seen p.session c.args.call c.in-Ok.reply
    (g.met.O.Stated.lawful c.args.pass.now.opening.object) (g.met.O.Stated.kind_is c.args.pass.now.opening.object c.args.call ∙ c.requires.query)
    (e.ensures.opening ∙ ap (λ z. z.opening) c.pass.view_is)
    (ap (λ s. s.seen) c.leave.ensures.seat ∙ answered p.session c.args.call e.result.history r.new.self.history r.result (Ok c.in-Ok.reply) c.in-Ok.is r.ensures.made)
    c.in-Ok.ensures.reply

pub returns-clause-front : goal.returns-clause-front
returns-clause-front g c = let e = c.enter-core in let p = c.pass.inside in let r = c.ask-answer in
    rw (← c.pass.view_is) (goes-on g.O.Stated.means p.seat e.new.seat e.result (p.session + 1) e.ensures c.pass.invariant.seat_is (λ _. ReadsOnce {X = g.row.O-Reply.Denot} p.session c.args.call (Err c.in-Err.no_memory)) r.new.self c.leave.new.seat.seen
    r.ensures.same c.leave.ensures.legal (answered p.session c.args.call e.result.history r.new.self.history r.result (Err c.in-Err.no_memory) c.in-Err.is r.ensures.made) (ap (λ s. s.seen) c.leave.ensures.seat))
