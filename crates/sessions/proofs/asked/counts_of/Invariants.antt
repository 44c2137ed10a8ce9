use Rattle.std.proofs.Common.{◌≡◌, length, map, take}
use Rattle.sessions.proofs.asked.counts_of.Given as goal

-- the sessions so far are counted
abbrev pub invariant-loop-calls : goal.invariant-loop-calls
invariant-loop-calls g l = l.counts.items ≡ map length (take l.calls-index l.sessions)
