use Rattle.lua_values.specs.Filled.{IsFilled}
use Rattle.lua_values.proofs.table.border_from.Given as goal

abbrev pub invariant-loop-place : goal.invariant-loop-place
invariant-loop-place l = IsFilled l.place l.pairs.entries
