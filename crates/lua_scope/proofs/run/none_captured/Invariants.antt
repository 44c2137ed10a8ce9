use Rattle.std.proofs.Common.{◌≡◌, replicate, []}
use Rattle.lua_scope.proofs.run.none_captured.Given as goal

abbrev pub invariant-loop : goal.invariant-loop
invariant-loop l = l.captured.items ≡ replicate l.counter []
