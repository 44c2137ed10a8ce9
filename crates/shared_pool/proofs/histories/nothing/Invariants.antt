use Rattle.std.specs.Prelude.{[]}
use Rattle.shared_pool.proofs.histories.nothing.Given as goal

abbrev pub ghost-from_pair : goal.ghost-from_pair
ghost-from_pair g a = []
