use Rattle.std.proofs.Common.{◌≡◌, ◌++◌, vec_len}
use Rattle.sessions.specs.Runs.{in_order}
use Rattle.sessions.proofs.asked.each_last_first.Given as goal

-- what is left, and then what is there in order, is all
abbrev pub invariant-loop-calls : goal.invariant-loop-calls
invariant-loop-calls g l = l.initial.sessions.items ≡ l.sessions.items ++ in_order l.asked.items

abbrev pub decreases-loop-calls : goal.decreases-loop-calls
decreases-loop-calls g l = vec_len l.sessions
