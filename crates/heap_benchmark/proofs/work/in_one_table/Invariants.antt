use Rattle.std.proofs.Common.{◌<◌, length}
use Rattle.heap_benchmark.proofs.work.in_one_table.Given as goal

-- the table is still there
abbrev pub invariant-loop-round : goal.invariant-loop-round
invariant-loop-round g l = l.table < length l.heap.tables
