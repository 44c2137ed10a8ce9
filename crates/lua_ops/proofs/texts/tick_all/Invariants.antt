use Rattle.std.proofs.Common.{◌≡◌}
use Rattle.lua_meaning.specs.Operators.{Op, op_ticks}
use Rattle.lua_values.specs.Lending.{with_budget}
use Rattle.lua_ops.proofs.texts.tick_all.Given as goal

abbrev pub invariant-loop-left : goal.invariant-loop-left
invariant-loop-left l = ((k : Op) → op_ticks l.count k l.initial.heap ≡ op_ticks l.left k l.heap) × (l.heap ≡ with_budget l.initial.heap l.heap.used)

abbrev pub decreases-loop-left : goal.decreases-loop-left
decreases-loop-left l = l.left
