-- What the heap is once its budget was lent.
use Rattle.std.specs.Borrow.{Lends, MutBor, Fml}
use Rattle.zc_budget.specs.Used.{Used}
use Rattle.zc_budget.specs.contracts.Budget.{the_row as budget_row}
use Rattle.lua_meaning.specs.Heap.{HeapOf}
use Rattle.lua_values.specs.contracts.heap.Heap.{the_row}

abbrev pub with_budget : HeapOf → Used → HeapOf
with_budget h u = record h { used = u }

abbrev pub LendsBudget : MutBor HeapOf → MutBor Used → Fml
LendsBudget h budget = Lends the_row budget_row h budget (with_budget h.now)
