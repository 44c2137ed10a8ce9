use Rattle.std.proofs.Common.{◌≡◌, ◌+◌, ◌++◌, drop}
use Rattle.lua_scope.specs.Scope.{variables_from}
use Rattle.lua_scope.proofs.scope.Scope.enter.Given as goal

abbrev pub invariant-loop-name : goal.invariant-loop-name
invariant-loop-name l = record {
  variables : l.self-inside.variables ++ variables_from l.number (drop l.name-index l.name-items) ≡ l.initial.self-inside.variables ++ variables_from l.first l.name-items;
  frames : l.self-inside.frames.items ≡ l.initial.self-inside.frames.items;
  number : l.number ≡ l.first + l.name-index;
}
