use Rattle.std.proofs.Common.{refl, sym, ap, ◌∙◌, option_map}
use Rattle.txg_core.specs.History.{holds}
use Rattle.zc_offline.proofs.Steps.{lawful-here, kind-here, goes-on}
use Rattle.zc_offline.proofs.replay.Run.hold.Goals as goal

pub returns-in-Change : goal.returns-in-Change
returns-in-Change g c = λ o h f.
    let means = g.O.Stated.means in
    let sessions = c.args.sessions.now in
    let run = c.args.self.now in
    let s = c.args.session in
    let call = c.args.call.now in
    let at = c.requires.next o h f in
    let lawful = lawful-here f g.met.O.Stated.lawful in
    let kind = kind-here g.O.Stated.kind_of f g.met.O.Stated.kind_is call ∙ sym c.kind.ensures ∙ c.in-Change.is in
    record {
      entry = holds s call;
      is = ap (option_map (λ (d : g.row.O-Call.Denot). holds s d)) at.1;
      follows = goes-on means o sessions run h c.hold.new.self (holds s call) lawful f (c.hold.ensures.stands o h call f.stands (c.requires.ready.may_come o h f, kind)) c.hold.ensures.spent (at.1, f.carries) (λ t. refl);
    }
