use Rattle.std.proofs.Common.{◌∷◌}
use Rattle.txg_core.specs.History.{holds}
use Rattle.shared_pool.proofs.Recording.{standing, may-at, along}
use Rattle.shared_pool.proofs.recorded_core.RecordedCore.hold.Goals as goal

pub hold-group-requires-clause-standing : goal.hold-group-requires-clause-standing
hold-group-requires-clause-standing g c = let k = c.self in standing g.O.Stated.means k.inside.opening.value k.inside.core k.inside.history.value k.invariant

pub invariant_of-self : goal.invariant_of-self
invariant_of-self g c = let k = c.self in
    let e = holds c.args.session c.args.call.now in
    let m = may-at g.O.Stated.means k.inside.opening.value k.inside.history.value k.inside.core.spent c.args.self.now e k.view_is c.requires.may in
    along g.O.Stated.means k.inside.opening.value c.hold-group.new.self (e ∷ k.inside.history.value) c.with_step.result.value c.with_step.ensures (c.hold-group.ensures.stands _ k.inside.history.value c.args.call.now k.invariant m)
