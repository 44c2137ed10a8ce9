use Rattle.std.proofs.Common.{rules}
use borrow.Author.Rules.{in_lives}
use Rattle.shared_pool.proofs.histories.with_task.Goals as goal

pub from_pair-requires : goal.from_pair-requires
from_pair-requires g c = λ κs h. simp (in_lives, h.0, h.1.0, h.1.1.0, h.1.1.1.0, h.1.1.1.1) (search rules)
