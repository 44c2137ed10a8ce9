use Rattle.std.proofs.Common.{◌≡◌}
use Rattle.lua_values.specs.Lending.{with_budget}
use Rattle.lua_arguments.specs.Answering.{Calling}
use Rattle.lua_arguments.specs.Spending.{ticks}
use Rattle.lua_arguments.proofs.spending.tick_all.Given as goal

abbrev pub invariant-loop-left : goal.invariant-loop-left
invariant-loop-left l = ((next : Calling) → ticks l.count next l.initial.heap ≡ ticks l.left next l.heap) × (l.heap ≡ with_budget l.initial.heap l.heap.used)

abbrev pub decreases-loop-left : goal.decreases-loop-left
decreases-loop-left l = l.left
