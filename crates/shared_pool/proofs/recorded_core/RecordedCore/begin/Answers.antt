use Rattle.txg_core.specs.History.{begins}
use Rattle.txg_core.specs.declared.event.Event.TheVariants as event
use Rattle.shared_pool.proofs.Recording.{standing, may-at, allowed, unspent-at}
use Rattle.shared_pool.proofs.recorded_core.RecordedCore.begin.Goals as goal

pub begin-requires-clause-standing : goal.begin-requires-clause-standing
begin-requires-clause-standing g c = let k = c.self in standing g.O.Stated.means k.inside.opening.value k.inside.core k.inside.history.value k.invariant

pub begin-requires-clause-enabled : goal.begin-requires-clause-enabled
begin-requires-clause-enabled g c = let k = c.self in
    let m = may-at g.O.Stated.means k.inside.opening.value k.inside.history.value k.inside.core.spent c.args.self.now begins k.view_is c.requires.may in
    allowed g.O.Stated.means k.inside.opening.value k.inside.core k.inside.history.value event.Begin k.invariant (unspent-at k.inside.opening.value k.inside.history.value k.inside.core.spent c.args.self.now k.view_is c.requires.unspent) m
