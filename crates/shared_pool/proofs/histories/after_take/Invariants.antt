use Rattle.shared_pool.specs.Recordings.{with_take}
use Rattle.shared_pool.proofs.histories.after_take.Given as goal

abbrev pub ghost-from_four : goal.ghost-from_four
ghost-from_four g a = with_take g.O.Stated.means a.first.now.value a.third.now a.second.now.value
