use Rattle.std.proofs.Common.{ap, sym, subst}
use Rattle.txg_core.specs.History.{ends, begins, quiesces}
use Rattle.txg_core.specs.Openings.{origin_at}
use Rattle.txg_core.specs.declared.event.Event.{Event}
use Rattle.shared_pool.specs.Moves.{IsFirstMove}
use Rattle.shared_pool.proofs.recorded_core.RecordedCore.make_move.Goals as goal

pub returns-in-End-clause-made : goal.returns-in-End-clause-made
returns-in-End-clause-made g c =
    let may = subst (λ (v : Event). IsFirstMove (origin_at g.O.Stated.means c.args.self.now.opening) c.args.self.now.history v) c.in-End.is c.requires.may in
    (c.requires.may, (ends, (ap (λ a. a.history) c.end.ensures, may.1, sym c.in-End.is)))

pub returns-in-Begin-clause-made : goal.returns-in-Begin-clause-made
returns-in-Begin-clause-made g c =
    let may = subst (λ (v : Event). IsFirstMove (origin_at g.O.Stated.means c.args.self.now.opening) c.args.self.now.history v) c.in-Begin.is c.requires.may in
    (c.requires.may, (begins, (ap (λ a. a.history) c.begin.ensures, may.2, sym c.in-Begin.is)))

pub returns-in-Quiesce-clause-made : goal.returns-in-Quiesce-clause-made
returns-in-Quiesce-clause-made g c =
    let may = subst (λ (v : Event). IsFirstMove (origin_at g.O.Stated.means c.args.self.now.opening) c.args.self.now.history v) c.in-Quiesce.is c.requires.may in
    (c.requires.may, (quiesces, (ap (λ a. a.history) c.quiesce.ensures, may.3, sym c.in-Quiesce.is)))
