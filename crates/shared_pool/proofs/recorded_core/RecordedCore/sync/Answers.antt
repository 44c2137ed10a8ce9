use Rattle.std.proofs.Common.{◌∙◌, ◌∷◌}
use Rattle.txg_core.specs.History.{syncs}
use Rattle.shared_pool.proofs.Recording.{standing, may-at, unspent-at, along, synced-is}
use Rattle.shared_pool.proofs.recorded_core.RecordedCore.sync.Goals as goal

pub sync_next-requires-clause-standing : goal.sync_next-requires-clause-standing
sync_next-requires-clause-standing g c = let k = c.self in standing g.O.Stated.means k.inside.opening.value k.inside.core k.inside.history.value k.invariant

pub invariant_of-self-2 : goal.invariant_of-self-2
invariant_of-self-2 g c = let k = c.self in let m = c.requires.may in
    let f = unspent-at k.inside.opening.value k.inside.history.value k.inside.core.spent c.args.self.now k.view_is c.requires.unspent in
    let en = may-at g.O.Stated.means k.inside.opening.value k.inside.history.value k.inside.core.spent c.args.self.now (syncs m.0 m.1) k.view_is m.2 in
    along g.O.Stated.means k.inside.opening.value c.sync_next.new.self (syncs m.0 m.1 ∷ k.inside.history.value) c.after_sync-history.result.value
    (c.after_sync-history.ensures ∙ synced-is g.O.Stated.means k.inside.opening.value k.inside.core k.inside.history.value m.0 m.1 k.invariant f en)
    (c.in_ok-sync_next.ensures.stands _ k.inside.history.value m.0 m.1 k.invariant en)
