use Rattle.txg_core.specs.History.{enqueues}
use Rattle.txg_core.specs.declared.event.Event.TheVariants as event
use Rattle.shared_pool.proofs.Recording.{next-at, may-at, allowed, unspent-at}
use Rattle.shared_pool.proofs.recorded_core.RecordedCore.enqueue.Goals as goal

pub enqueue-requires-clause-enabled : goal.enqueue-requires-clause-enabled
enqueue-requires-clause-enabled g c = let k = c.self in let t = c.args.task.value in
    let m = may-at g.O.Stated.means k.inside.opening.value k.inside.history.value k.inside.core.spent c.args.self.now (enqueues t.session t.call) k.view_is c.requires.may in
    allowed g.O.Stated.means k.inside.opening.value k.inside.core k.inside.history.value (event.Enqueue t.session) k.invariant (unspent-at k.inside.opening.value k.inside.history.value k.inside.core.spent c.args.self.now k.view_is c.requires.unspent) (t.call, m)

pub enqueue-requires-clause-number : goal.enqueue-requires-clause-number
enqueue-requires-clause-number g c = let k = c.self in let t = c.args.task.value in
    next-at g.O.Stated.means k.inside.opening.value k.inside.core k.inside.history.value c.args.self.now k.inside.core.spent t.session t.call_no k.invariant k.view_is c.requires.number
