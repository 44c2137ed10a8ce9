use Rattle.txg_core.specs.History.{checks}
use Rattle.txg_core.specs.declared.event.Event.TheVariants as event
use Rattle.shared_pool.proofs.Recording.{standing, may-at, allowed, unspent-at}
use Rattle.shared_pool.proofs.recorded_core.RecordedCore.check.Goals as goal

pub check-requires-clause-standing : goal.check-requires-clause-standing
check-requires-clause-standing g c = let k = c.self in standing g.O.Stated.means k.inside.opening.value k.inside.core k.inside.history.value k.invariant

pub check-requires-clause-enabled : goal.check-requires-clause-enabled
check-requires-clause-enabled g c = let k = c.self in
    let m = may-at g.O.Stated.means k.inside.opening.value k.inside.history.value k.inside.core.spent c.args.self.now (checks c.args.session c.args.call.now) k.view_is c.requires.may in
    allowed g.O.Stated.means k.inside.opening.value k.inside.core k.inside.history.value (event.Check c.args.session) k.invariant (unspent-at k.inside.opening.value k.inside.history.value k.inside.core.spent c.args.self.now k.view_is c.requires.unspent) (c.args.call.now, m)
