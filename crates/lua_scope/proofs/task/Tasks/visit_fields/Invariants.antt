use Rattle.std.proofs.Common.{◌≡◌, ◌++◌, drop}
use Rattle.lua_scope.specs.Tasks.{field_tasks}
use Rattle.lua_scope.proofs.task.Tasks.visit_fields.Given as goal

abbrev pub invariant-loop-field : goal.invariant-loop-field
invariant-loop-field l = l.self ++ field_tasks (drop l.field-index l.field-items) ≡ l.initial.self ++ field_tasks l.field-items
