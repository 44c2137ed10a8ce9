use Rattle.std.proofs.Common.{[], ◌∷◌, sym, ap, ◌∙◌, option_map}
use Rattle.txg_core.specs.History.{reads}
use Rattle.txg_core.specs.declared.event.Step.TheVariants as step
use Rattle.zc_offline.proofs.Steps.{lawful-here, kind-here, replies-there, goes-on-telling, told-answer, told-others}
use Rattle.zc_offline.proofs.replay.Run.read.Goals as goal

pub give-requires : goal.give-requires
give-requires g c =
    let o = c.requires.ready.following.0 in
    let h = c.requires.ready.following.1.0 in
    let f = c.requires.ready.following.1.1 in
    replies-there c.args.session f (c.requires.next o h f).0

pub returns-in_ok-give-in-Query : goal.returns-in_ok-give-in-Query
returns-in_ok-give-in-Query g c = λ o h f.
    let means = g.O.Stated.means in
    let sessions = c.args.sessions.now in
    let run = c.args.self.now in
    let s = c.args.session in
    let call = c.args.call.now in
    let at = c.requires.next o h f in
    let lawful = lawful-here f g.met.O.Stated.lawful in
    let kind = kind-here g.O.Stated.kind_of f g.met.O.Stated.kind_is call ∙ sym c.kind.ensures ∙ c.in-Query.is in
    let reply = c.in_ok-reply-in-Query.reply in
    record {
      entry = reads s call;
      is = ap (option_map (λ (d : g.row.O-Call.Denot). reads s d)) at.1;
      follows = goes-on-telling means o sessions run h c.read.new.self c.give.new.replies (reads s call) s reply lawful f (c.in_ok-reply-in-Query.ensures.stands o h f.stands (c.requires.ready.may_come o h f, kind)) c.in_ok-reply-in-Query.ensures.spent (at.1, f.carries) at.0
          (told-answer o h s call ∙ ap (λ (r : g.row.O-Reply.Denot). r ∷ []) (sym (c.in_ok-reply-in-Query.ensures.reply o h f.stands))) (told-others o h step.Read s call) c.in_ok-give-in-Query.ensures;
    }
