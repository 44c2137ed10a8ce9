use Rattle.std.proofs.Common.{◌≡◌, ◌++◌, drop}
use Rattle.lua_scope.specs.Tasks.{visits}
use Rattle.lua_scope.proofs.task.Tasks.visit_all.Given as goal

abbrev pub invariant-loop-node : goal.invariant-loop-node
invariant-loop-node l = l.self ++ visits (drop l.node-index l.node-items) ≡ l.initial.self ++ visits l.node-items
