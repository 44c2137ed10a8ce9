use Rattle.std.proofs.Common.{◌≡◌, replicate, None}
use Rattle.lua_scope.proofs.run.none_meant.Given as goal

abbrev pub invariant-loop : goal.invariant-loop
invariant-loop l = l.meanings.items ≡ replicate l.counter None
