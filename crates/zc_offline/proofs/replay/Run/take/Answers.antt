use Rattle.std.proofs.Common.{sym, ap, subst, option_map}
use Rattle.txg_core.specs.Sessions.{Phase, IsQueued}
use Rattle.txg_core.specs.History.{takes}
use Rattle.txg_core.specs.declared.event.Step.TheVariants as step
use Rattle.zc_offline.proofs.Steps.{lawful-here, replies-there, next-enabled, goes-on-telling, told-kept, told-others}
use Rattle.zc_offline.proofs.replay.Run.take.Goals as goal

pub take-requires : goal.take-requires
take-requires g c =
    let o = c.requires.ready.following.0 in
    let h = c.requires.ready.following.1.0 in
    let f = c.requires.ready.following.1.1 in
    let may = c.requires.ready.may_come o h f in
    (o, (h, (f.stands, subst (λ (p : Phase g.row.O-Call.Denot g.row.O-Reply.Denot). IsQueued p) (sym may.1.1.1) tt)))

pub give-requires : goal.give-requires
give-requires g c =
    let o = c.requires.ready.following.0 in
    let h = c.requires.ready.following.1.0 in
    let f = c.requires.ready.following.1.1 in
    replies-there c.args.session f (c.requires.next o h f).0

pub returns : goal.returns
returns g c = λ o h f.
    let means = g.O.Stated.means in
    let sessions = c.args.sessions.now in
    let run = c.args.self.now in
    let s = c.args.session in
    let call = c.args.call.now in
    let at = c.requires.next o h f in
    let lawful = lawful-here f g.met.O.Stated.lawful in
    let may = c.requires.ready.may_come o h f in
    let en = next-enabled means o sessions run h step.Take s call may.0 (λ e. cc) (λ e. cc) f may.1 at.1 in
    let told = c.in-Ok.ensures.reply o h f.stands in
    record {
      entry = takes s call;
      is = ap (option_map (λ (d : g.row.O-Call.Denot). takes s d)) at.1;
      follows = goes-on-telling means o sessions run h c.take.new.self c.give.new.replies (takes s call) s c.in-Ok.done.reply lawful f (c.in-Ok.ensures.stands o h call f.stands en) c.in-Ok.ensures.spent (at.1, f.carries) at.0
          (told-kept o h s call told.0 c.in-Ok.done.reply told.1) (told-others o h step.Take s call) c.in_ok-give.ensures;
    }
