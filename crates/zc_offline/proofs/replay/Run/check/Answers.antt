use Rattle.std.proofs.Common.{sym, ap, ◌∙◌, option_map}
use Rattle.txg_core.specs.Serial.{world}
use Rattle.txg_core.specs.History.{checks}
use Rattle.txg_core.specs.declared.event.Step.TheVariants as step
use Rattle.zc_offline.proofs.Steps.{lawful-here, kind-here, replies-there, next-enabled, held-change, goes-on, goes-on-telling, told-refusal, told-nothing, told-others, refused-is, passed-is}
use Rattle.zc_offline.proofs.replay.Run.check.Goals as goal

pub check-requires-clause-change : goal.check-requires-clause-change
check-requires-clause-change g c =
    let o = c.requires.ready.following.0 in
    let h = c.requires.ready.following.1.0 in
    let f = c.requires.ready.following.1.1 in
    let means = g.O.Stated.means in
    let sessions = c.args.sessions.now in
    let run = c.args.self.now in
    let s = c.args.session in
    let call = c.args.call.now in
    let at = c.requires.next o h f in
    let may = c.requires.ready.may_come o h f in
    let en = next-enabled means o sessions run h step.Check s call may.0 (λ e. cc) (λ e. cc) f may.1 at.1 in
    sym (kind-here g.O.Stated.kind_of f g.met.O.Stated.kind_is call) ∙ held-change o h s call f.stands.legal en

pub give-requires : goal.give-requires
give-requires g c =
    let o = c.requires.ready.following.0 in
    let h = c.requires.ready.following.1.0 in
    let f = c.requires.ready.following.1.1 in
    replies-there c.args.session f (c.requires.next o h f).0

pub returns-in_ok-give : goal.returns-in_ok-give
returns-in_ok-give g c = λ o h f.
    let means = g.O.Stated.means in
    let sessions = c.args.sessions.now in
    let run = c.args.self.now in
    let s = c.args.session in
    let call = c.args.call.now in
    let at = c.requires.next o h f in
    let lawful = lawful-here f g.met.O.Stated.lawful in
    let may = c.requires.ready.may_come o h f in
    let en = next-enabled means o sessions run h step.Check s call may.0 (λ e. cc) (λ e. cc) f may.1 at.1 in
    let verdict = refused-is (o.rules.check (world o h) call) c.in_ok-reply.field-0 c.in-Refused.reply (c.in_ok-reply.ensures.verdict o h f.stands) c.in-Refused.is in
    record {
      entry = checks s call;
      is = ap (option_map (λ (d : g.row.O-Call.Denot). checks s d)) at.1;
      follows = goes-on-telling means o sessions run h c.check.new.self c.give.new.replies (checks s call) s c.in-Refused.reply lawful f (c.in_ok-reply.ensures.stands o h f.stands en) c.in_ok-reply.ensures.spent (at.1, f.carries) at.0
          (told-refusal o h s call c.in-Refused.reply verdict) (told-others o h step.Check s call) c.in_ok-give.ensures;
    }

pub returns-in_default : goal.returns-in_default
returns-in_default g c = λ o h f.
    let means = g.O.Stated.means in
    let sessions = c.args.sessions.now in
    let run = c.args.self.now in
    let s = c.args.session in
    let call = c.args.call.now in
    let at = c.requires.next o h f in
    let lawful = lawful-here f g.met.O.Stated.lawful in
    let may = c.requires.ready.may_come o h f in
    let en = next-enabled means o sessions run h step.Check s call may.0 (λ e. cc) (λ e. cc) f may.1 at.1 in
    let verdict = passed-is (o.rules.check (world o h) call) c.in_ok-reply.field-0 (c.in_ok-reply.ensures.verdict o h f.stands) c.in_default.not-Refused in
    record {
      entry = checks s call;
      is = ap (option_map (λ (d : g.row.O-Call.Denot). checks s d)) at.1;
      follows = goes-on means o sessions run h c.check.new.self (checks s call) lawful f (c.in_ok-reply.ensures.stands o h f.stands en) c.in_ok-reply.ensures.spent (at.1, f.carries) (told-nothing o h s call verdict);
    }
