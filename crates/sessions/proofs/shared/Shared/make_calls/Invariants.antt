use Rattle.std.proofs.Common.{reverse, vec_len}
use Rattle.sessions.proofs.Making.{Making}
use Rattle.sessions.proofs.shared.Shared.make_calls.Given as goal

abbrev pub invariant-loop-asked : goal.invariant-loop-asked
invariant-loop-asked g l = Making g.O.Stated.means l.initial.pass (reverse l.initial.calls.items) l.pass (reverse l.calls.items) l.replies

abbrev pub decreases-loop-asked : goal.decreases-loop-asked
decreases-loop-asked g l = vec_len l.calls
