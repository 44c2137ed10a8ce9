-- What a machine has once its heap was lent.
use Rattle.std.specs.Borrow.{Lends, MutBor, Fml}
use Rattle.lua_meaning.specs.Heap.{HeapOf}
use Rattle.lua_values.specs.contracts.heap.Heap.{the_row as heap_row}
use Rattle.lua_steps.specs.Configuration.{Configuration, with_heap}
use Rattle.lua_configuration.specs.contracts.configuration.Configuration.{the_row}

abbrev pub having_heap : Configuration → HeapOf → Configuration
having_heap x h = with_heap h x

abbrev pub LendsHeap : MutBor Configuration → MutBor HeapOf → Fml
LendsHeap x heap = Lends the_row heap_row x heap (having_heap x.now)
