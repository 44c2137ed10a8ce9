use Rattle.lua_values.proofs.OwnStart.{start_own}
use Rattle.lua_values.proofs.heap.Heap.new.Goals as goal

pub invariant_of-result : goal.invariant_of-result
invariant_of-result c = rw (c.in_ok-tables.ensures, c.new-2.ensures.items, c.new-3.ensures.items, c.new-4.ensures.items) (start_own c.args.budget)
