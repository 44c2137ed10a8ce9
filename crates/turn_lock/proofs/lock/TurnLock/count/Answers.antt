use Rattle.std.proofs.Common.{rules}
use Rattle.turn_lock.proofs.Turning.{counts}
use Rattle.turn_lock.proofs.lock.TurnLock.count.Goals as goal

pub load-requires : goal.load-requires
load-requires g c = (search rules, search rules, counts g.T.Recorded.stands g.T.Recorded.maker _ _ _ _ _)
