use Rattle.std.proofs.Common.{◌≡◌, ◌++◌, drop}
use Rattle.lua_scope.specs.Tasks.{case_tasks}
use Rattle.lua_scope.proofs.task.Tasks.visit_cases.Given as goal

abbrev pub invariant-loop-i : goal.invariant-loop-i
invariant-loop-i l = l.self ++ case_tasks (drop l.i l.tests) (drop l.i l.blocks) ≡ l.initial.self ++ case_tasks l.tests l.blocks
