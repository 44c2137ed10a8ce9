use Rattle.std.proofs.Common.{subst, sym, length, ◌<◌}
use Rattle.lua_values.specs.Ids.{ids_of}
use Rattle.lua_values.specs.contracts.heap.Heap.{the_view}
use Rattle.lua_values.proofs.OwnTables.{own_indexed, own_found}
use Rattle.lua_values.proofs.heap.Heap.next.Goals as goal

pub returns-clause-own : goal.returns-clause-own
returns-clause-own c c' =
    let below : c'.number.result < length c'.self.inside.tables.items = subst (λ h. c'.number.result < length h.tables) (sym c'.self.view_is) (subst (λ n. n < length c'.args.self.now.tables) (sym c'.number.ensures) c'.requires) in
    let own = own_indexed (the_view c'.self.inside) c'.self.invariant c'.number.result c'.index.result.now below c'.index.ensures in
    own_found (ids_of (the_view c'.self.inside)) c'.index.result.now.pairs own.pairs c'.args.key.now c'.self.inside.budget c'.next_pair.new.budget c'.in_ok-next_pair.field-0 c'.in_ok-next_pair.ensures.ok
