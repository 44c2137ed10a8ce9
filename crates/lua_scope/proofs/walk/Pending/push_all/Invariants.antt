use Rattle.std.proofs.Common.{◌≡◌, ◌++◌, reverse, vec_len}
use Rattle.lua_scope.proofs.walk.Pending.push_all.Given as goal

abbrev pub invariant-loop-task : goal.invariant-loop-task
invariant-loop-task l = l.tasks.items ++ reverse l.self-inside.tasks.items ≡ l.initial.tasks.items ++ reverse l.initial.self-inside.tasks.items

abbrev pub decreases-loop-task : goal.decreases-loop-task
decreases-loop-task l = vec_len l.tasks
