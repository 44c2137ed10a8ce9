-- The law of the host, which its code cites: its calls add to the heap, and leave the coroutines.
use Rattle.std.specs.Prelude.{length, ◌==◌, slice_get}
use Rattle.lua_coroutines.specs.Hosts.{IsLawfulHost}
use Rattle.lua_test_host.specs.FewFunctions.{row_of, answers, iterator_step, text_left, few_functions}
use Rattle.lua_test_host.specs.Adding.{answers_add, steps_add_by, on_heap_adds}

pub few_lawful : IsLawfulHost few_functions
few_lawful = record {
  call = λ b args lines s. on_heap_adds (answers (row_of b) args lines) s (answers_add (row_of b) args lines s.heap);
  step = λ i args lines s. on_heap_adds (iterator_step i) s (steps_add_by (length (text_left (slice_get s.heap.iters i)) == 0) (text_left (slice_get s.heap.iters i)) i s.heap);
}
