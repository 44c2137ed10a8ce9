use Rattle.std.proofs.Common.{subst, sym, length, ◌<◌}
use Rattle.lua_values.specs.contracts.heap.Heap.{the_view}
use Rattle.lua_values.proofs.OwnTables.{own_indexed}
use Rattle.lua_values.proofs.heap.Heap.table.Goals as goal

pub returns-clause-own : goal.returns-clause-own
returns-clause-own c =
    let below : c.number.result < length c.self.inside.tables.items = subst (λ h. c.number.result < length h.tables) (sym c.self.view_is) (subst (λ n. n < length c.args.self.now.tables) (sym c.number.ensures) c.requires) in
    rw (← c.self.view_is) (own_indexed (the_view c.self.inside) c.self.invariant c.number.result c.index.result.now below c.index.ensures)
