use Rattle.std.proofs.Common.{refl, ap, option_map}
use Rattle.txg_core.specs.History.{syncs}
use Rattle.txg_core.specs.declared.event.Step.TheVariants as step
use Rattle.zc_offline.proofs.Steps.{lawful-here, next-enabled, goes-on}
use Rattle.zc_offline.proofs.replay.Run.sync.Goals as goal

pub returns : goal.returns
returns g c = λ o h f.
    let means = g.O.Stated.means in
    let sessions = c.args.sessions.now in
    let run = c.args.self.now in
    let s = c.args.session in
    let call = c.args.call.now in
    let at = c.requires.next o h f in
    let lawful = lawful-here f g.met.O.Stated.lawful in
    let may = c.requires.ready.may_come o h f in
    let en = next-enabled means o sessions run h step.Sync s call may.0 (λ e. cc) (λ e. cc) f may.1 at.1 in
    record {
      entry = syncs s call;
      is = ap (option_map (λ (d : g.row.O-Call.Denot). syncs s d)) at.1;
      follows = goes-on means o sessions run h c.sync_next.new.self (syncs s call) lawful f (c.in_ok-sync_next.ensures.stands o h s call f.stands en) c.in_ok-sync_next.ensures.spent (at.1, f.carries) (λ t. refl);
    }
