use Rattle.std.specs.Prelude.{◌∷◌}
use Rattle.txg_core.specs.declared.event.Entry.TheVariants.{Group}
use Rattle.shared_pool.proofs.histories.with_move.Given as goal

abbrev pub ghost-from_pair : goal.ghost-from_pair
ghost-from_pair g a = Group a.other.now ∷ a.one.now.value
