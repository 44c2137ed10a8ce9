use Rattle.std.proofs.Common.{◌≡◌, ◌++◌, reverse, vec_len}
use Rattle.sessions.proofs.asked.last_first.Given as goal

-- what is left, and then what is there in order, is all
abbrev pub invariant-loop-call : goal.invariant-loop-call
invariant-loop-call g l = l.initial.calls.items ≡ l.calls.items ++ reverse l.asked.items

abbrev pub decreases-loop-call : goal.decreases-loop-call
decreases-loop-call g l = vec_len l.calls
