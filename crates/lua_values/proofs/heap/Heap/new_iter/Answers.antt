use Rattle.std.proofs.Common.{subst, sym}
use Rattle.lua_values.specs.contracts.heap.Heap.{the_view}
use Rattle.lua_values.specs.Ids.{ids_of, IsOwnIter}
use Rattle.lua_values.proofs.Own.{own_used, own_with_iter}
use Rattle.lua_values.proofs.heap.Heap.new_iter.Goals as goal

pub invariant_of-self-in_err-push : goal.invariant_of-self-in_err-push
invariant_of-self-in_err-push c c' = rw c'.in_err-push.ensures.items (own_used (the_view c'.self.inside) c'.charge.new.self c'.self.invariant)

pub invariant_of-self-2 : goal.invariant_of-self-2
invariant_of-self-2 c c' =
    let paid = own_used (the_view c'.self.inside) c'.charge.new.self c'.self.invariant in
    let is = subst (λ h. IsOwnIter (ids_of h) c'.args.state) (sym c'.self.view_is) c'.requires in
    rw c'.in_ok-push.ensures.items (own_with_iter (record (the_view c'.self.inside) { used = c'.charge.new.self }) c'.args.state is paid)
