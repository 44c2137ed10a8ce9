use Rattle.std.proofs.Common.{subst, sym}
use Rattle.lua_values.specs.Ids.{ids_of, IsOf}
use Rattle.lua_values.specs.contracts.heap.Heap.{the_view}
use Rattle.lua_values.proofs.Own.{own_set_cell}
use Rattle.lua_values.proofs.heap.Heap.set_cell.Goals as goal

pub invariant_of-self : goal.invariant_of-self
invariant_of-self c c' =
    let is = subst (λ h. IsOf (ids_of h) c'.args.value) (sym c'.self.view_is) c'.requires.own in
    own_set_cell (the_view c'.self.inside) c'.number.result c'.args.value is c'.self.invariant
