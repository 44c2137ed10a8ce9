use Rattle.std.proofs.Common.{subst, sym}
use Rattle.lua_values.specs.contracts.heap.Heap.{the_view}
use Rattle.std.proofs.Common.{All, ◌<◌, length}
use Rattle.lua_values.proofs.Own.{own_used, own_with_closure}
use Rattle.lua_values.proofs.heap.Heap.new_closure.Goals as goal

pub invariant_of-self-in_err-push : goal.invariant_of-self-in_err-push
invariant_of-self-in_err-push c c' = rw c'.in_err-push.ensures.items (own_used (the_view c'.self.inside) c'.charge_closure.new.budget c'.self.invariant)

pub invariant_of-self-2 : goal.invariant_of-self-2
invariant_of-self-2 c c' =
    let paid = own_used (the_view c'.self.inside) c'.charge_closure.new.budget c'.self.invariant in
    let is = subst (λ h. All (λ i. i < length h.cells) c'.args.cells.now) (sym c'.self.view_is) c'.requires in
    rw (c'.in_ok-push.ensures.items, c'.new.ensures, c'.in_ok-captured.ensures.items) (own_with_closure (record (the_view c'.self.inside) { used = c'.charge_closure.new.budget }) (record { function = c'.args.function; cells = c'.args.cells.now }) is paid)
