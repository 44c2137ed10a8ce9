use Rattle.lua_values.proofs.Walking.{Skips}
use Rattle.lua_values.proofs.walk.skip.Given as goal

abbrev pub invariant-loop-place : goal.invariant-loop-place
invariant-loop-place l = Skips l.table.pairs l.fn.from l.place l.fn.budget l.budget
