use Rattle.lua_values.specs.Ids.{ids_of}
use Rattle.lua_values.proofs.OwnTables.{own_value_at}
use Rattle.lua_values.proofs.heap.Heap.get.Goals as goal

pub returns-clause-own : goal.returns-clause-own
returns-clause-own c c' = rw c'.in_ok-get.ensures (own_value_at (ids_of c'.args.self.now) c'.table.result.now.pairs c'.table.ensures.own.pairs c'.args.key.now)
