use Rattle.std.proofs.Common.{subst, sym, length, ◌<◌}
use Rattle.lua_values.specs.contracts.heap.Heap.{the_view}
use Rattle.lua_values.proofs.OwnIters.{move_own, move_is}
use Rattle.lua_values.proofs.heap.Heap.move_iter.Goals as goal

pub invariant_of-self : goal.invariant_of-self
invariant_of-self c c' =
    let below : c'.number.result < length c'.self.inside.iters.items = subst (λ h. c'.number.result < length h.iters) (sym c'.self.view_is) (subst (λ n. n < length c'.args.self.now.iters) (sym c'.number.ensures) c'.requires) in
    move_own (the_view c'.self.inside) c'.number.result c'.args.last c'.index_mut.result.now c'.move_to.new.state c'.index_mut.ensures.value c'.move_to.ensures c'.self.invariant below

pub returns-clause-done : goal.returns-clause-done
returns-clause-done c c' = rw (← c'.self.view_is, ← c'.number.ensures)
    (move_is (the_view c'.self.inside) c'.number.result c'.args.last c'.index_mut.result.now c'.move_to.new.state c'.index_mut.ensures.value c'.move_to.ensures)
