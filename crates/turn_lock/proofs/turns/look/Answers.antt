use Rattle.std.proofs.Common.{rules}
use Rattle.turn_lock.proofs.Turning.{looks}
use Rattle.turn_lock.proofs.turns.look.Goals as goal

pub load-requires : goal.load-requires
load-requires g c = (search rules, search rules, looks _ _ _ _ _ _ c.requires.waits.0 _ c.requires.waits.1)
