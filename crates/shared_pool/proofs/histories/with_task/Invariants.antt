use Rattle.std.specs.Prelude.{◌∷◌}
use Rattle.txg_core.specs.History.{enqueues}
use Rattle.shared_pool.proofs.histories.with_task.Given as goal

abbrev pub ghost-from_pair : goal.ghost-from_pair
ghost-from_pair g a = enqueues a.other.now.session a.other.now.call ∷ a.one.now.value
