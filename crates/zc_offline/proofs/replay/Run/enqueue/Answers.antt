use Rattle.std.proofs.Common.{ℕ, ◌<◌, ◌^◌, List, ◌∷◌, length, refl, sym, ap, subst, ◌∙◌, arith, option_map}
use Rattle.txg_core.specs.declared.task.Task.{Task}
use Rattle.txg_core.specs.Serial.{next}
use Rattle.txg_core.specs.Enabled.{Enabled}
use Rattle.txg_core.specs.Stands.{Stands}
use Rattle.txg_core.specs.History.{enqueues}
use Rattle.txg_core.specs.declared.event.Step.TheVariants as step
use Rattle.zc_offline.specs.Replay.{number_in}
use Rattle.zc_offline.proofs.Given.{number-small}
use Rattle.zc_offline.proofs.Steps.{lawful-here, replies-there, number-next, next-enabled, goes-on}
use Rattle.zc_offline.proofs.replay.Run.enqueue.Goals as goal

pub given_count-call_no-requires : goal.given_count-call_no-requires
given_count-call_no-requires g c =
    let o = c.requires.ready.following.0 in
    let h = c.requires.ready.following.1.0 in
    let f = c.requires.ready.following.1.1 in
    let s = c.args.session in
    subst (λ (xs : List (List g.row.O-Reply.Denot)). s < length xs) (sym c.as_slice.ensures.value) (replies-there s f (c.requires.next o h f).0)

pub overflow_cast-call_no : goal.overflow_cast-call_no
overflow_cast-call_no g c =
    let o = c.requires.ready.following.0 in
    let h = c.requires.ready.following.1.0 in
    let f = c.requires.ready.following.1.1 in
    let means = g.O.Stated.means in
    let sessions = c.args.sessions.now in
    let run = c.args.self.now in
    let s = c.args.session in
    let call = c.args.call.now in
    let at = c.requires.next o h f in
    let number = c.given_count-call_no.ensures ∙ ap (λ (xs : List (List g.row.O-Reply.Denot)). number_in xs s) c.as_slice.ensures.value ∙ number-next s f at.0 in
    let fits : c.given_count-call_no.result < 2 ^ 32 = subst (λ (n : ℕ). n < 2 ^ 32) (sym number) (number-small sessions s (next o h s) call f.short at.1) in
    omega arith

pub enqueue-requires-clause-number : goal.enqueue-requires-clause-number
enqueue-requires-clause-number g c =
    let o = c.requires.ready.following.0 in
    let h = c.requires.ready.following.1.0 in
    let f = c.requires.ready.following.1.1 in
    let means = g.O.Stated.means in
    let sessions = c.args.sessions.now in
    let run = c.args.self.now in
    let s = c.args.session in
    let call = c.args.call.now in
    let at = c.requires.next o h f in
    let number = c.given_count-call_no.ensures ∙ ap (λ (xs : List (List g.row.O-Reply.Denot)). number_in xs s) c.as_slice.ensures.value ∙ number-next s f at.0 in
    let task = c.in_ok-task.ensures in
    (o, (h, (f.stands, ap (λ (t : Task g.row.O.Denot g.row.O-Call.Denot g.row.O-Reply.Denot). t.call_no) task ∙ number ∙ ap (λ (t : Task g.row.O.Denot g.row.O-Call.Denot g.row.O-Reply.Denot). next o h t.session) (sym task))))

pub returns : goal.returns
returns g c = λ o h f.
    let means = g.O.Stated.means in
    let sessions = c.args.sessions.now in
    let run = c.args.self.now in
    let s = c.args.session in
    let call = c.args.call.now in
    let at = c.requires.next o h f in
    let lawful = lawful-here f g.met.O.Stated.lawful in
    let may = c.requires.ready.may_come o h f in
    let en = next-enabled means o sessions run h step.Enqueue s call may.0 (λ e. cc) (λ e. cc) f may.1 at.1 in
    let stands = subst (λ (t : Task g.row.O.Denot g.row.O-Call.Denot g.row.O-Reply.Denot). Enabled o h (enqueues t.session t.call) → Stands means o c.enqueue.new.self (enqueues t.session t.call ∷ h)) c.in_ok-task.ensures (c.enqueue.ensures.stands o h f.stands) en in
    record {
      entry = enqueues s call;
      is = ap (option_map (λ (d : g.row.O-Call.Denot). enqueues s d)) at.1;
      follows = goes-on means o sessions run h c.enqueue.new.self (enqueues s call) lawful f stands c.enqueue.ensures.spent (at.1, f.carries) (λ t. refl);
    }
