use Rattle.std.proofs.Common.{◌≡◌}
use Rattle.lua_scope.proofs.tables.sequences_of.Given as goal

abbrev pub invariant-loop-one : goal.invariant-loop-one
invariant-loop-one l = l.sequences.items ≡ l.yielded
