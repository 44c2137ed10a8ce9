use Rattle.std.proofs.Common.{◌∷◌, List, reverse, subst, sym}
use Rattle.sessions.proofs.Reversing.{reversed_last}
use Rattle.sessions.proofs.Making.{Making, making-first, making-more}
use Rattle.sessions.proofs.shared.Shared.make_calls.Goals as goal

pub loop-asked-init : goal.loop-asked-init
loop-asked-init g c = let p = c.args.pass.now in let all = reverse c.args.calls.now.items in
    subst (λ (rs : List g.row.O-Reply.Denot). Making g.O.Stated.means p all p all rs) (sym c.new-replies.ensures) (making-first g.O.Stated.means p all (g.met.O.Stated.lawful p.opening.object) c.requires.may)

pub loop-asked-preserved : goal.loop-asked-preserved
loop-asked-preserved g c = let p = c.args.pass.now in let all = reverse c.args.calls.now.items in let l = c.loop-asked in let left = reverse c.pop.new.self.items in
    let before : Making g.O.Stated.means p all l.pass (c.in-Some.asked ∷ left) l.replies = subst (λ (cs : List g.row.O-Call.Denot). Making g.O.Stated.means p all l.pass cs l.replies) (reversed_last l.calls.items c.pop.new.self.items c.in-Some.asked c.in-Some.ensures.items) l.invariant in
    subst (λ (rs : List g.row.O-Reply.Denot). Making g.O.Stated.means p all c.make_call.new.pass left rs) (sym c.in_ok-push.ensures.ok)
    (making-more g.O.Stated.means p all l.pass c.make_call.new.pass c.in-Some.asked c.in_ok-reply.reply left l.replies (g.met.O.Stated.lawful p.opening.object) before c.in_ok-reply.ensures.same c.in_ok-reply.ensures.served)
