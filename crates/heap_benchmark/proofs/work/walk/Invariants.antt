use Rattle.std.proofs.Common.{◌<◌, length}
use Rattle.heap_benchmark.proofs.work.walk.Given as goal

-- the table is still there
abbrev pub invariant-loop-place : goal.invariant-loop-place
invariant-loop-place g l = l.table < length l.heap.tables
