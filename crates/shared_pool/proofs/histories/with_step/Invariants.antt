use Rattle.std.specs.Prelude.{◌∷◌}
use Rattle.txg_core.specs.declared.event.Entry.TheVariants.{Call}
use Rattle.shared_pool.proofs.histories.with_step.Given as goal

abbrev pub ghost-from_four : goal.ghost-from_four
ghost-from_four g a = Call a.second.now a.third.now a.fourth.now ∷ a.first.now.value
