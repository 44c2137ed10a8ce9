use Rattle.shared_pool.proofs.Recording.{session-at}
use Rattle.shared_pool.proofs.recorded_core.RecordedCore.progress.Goals as goal

pub next_call-requires : goal.next_call-requires
next_call-requires g c = let k = c.self in session-at g.O.Stated.means k.inside.opening.value k.inside.core k.inside.history.value c.args.self.now k.inside.core.spent c.args.session k.invariant k.view_is c.requires

pub is_busy-requires : goal.is_busy-requires
is_busy-requires g c = let k = c.self in session-at g.O.Stated.means k.inside.opening.value k.inside.core k.inside.history.value c.args.self.now k.inside.core.spent c.args.session k.invariant k.view_is c.requires
