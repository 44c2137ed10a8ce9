use Rattle.std.proofs.Common.{rules}
use borrow.Author.Rules.{in_lives}
use Rattle.shared_pool.proofs.histories.with_step.Goals as goal

pub from_four-requires : goal.from_four-requires
from_four-requires g c = λ κs h. simp (in_lives, h.0, h.1.0, h.1.1) (search rules)
