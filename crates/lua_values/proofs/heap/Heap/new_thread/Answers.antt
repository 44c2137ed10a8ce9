use Rattle.std.proofs.Common.{arith, ◌≤◌, ◌+◌}
use Rattle.lua_values.specs.contracts.heap.Heap.{the_view}
use Rattle.lua_values.proofs.Own.{own_used, own_with_threads}
use Rattle.lua_values.proofs.heap.Heap.new_thread.Goals as goal

pub invariant_of-self-2 : goal.invariant_of-self-2
invariant_of-self-2 c c' =
    let paid = own_used (the_view c'.self.inside) c'.charge.new.self c'.self.invariant in
    let more : c'.self.inside.threads ≤ c'.in_ok-number.field-0 + 1 = omega (arith, c'.in_ok-number.ensures.value) in
    own_with_threads (record (the_view c'.self.inside) { used = c'.charge.new.self }) (c'.in_ok-number.field-0 + 1) more paid
