use Rattle.std.proofs.Common.{◌≡◌, ◌<◌, ◌∷◌, ℕ, List, length, All}
use Rattle.lua_values.specs.Ids.{ids_of, IsOf}
use Rattle.lua_steps.specs.Configuration.{with_heap}
use Rattle.lua_steps.specs.Effects.{put_all}
use Rattle.lua_configuration.proofs.configuration.Configuration.put_all.Given as goal

abbrev pub invariant-loop-table : goal.invariant-loop-table
invariant-loop-table g l = ((rest : List ℕ) → put_all (l.line ∷ rest) l.table l.first l.initial.values l.initial.self.heap ≡ put_all (l.line ∷ rest) l.table l.count l.values l.self.heap)
    × (l.self ≡ with_heap l.self.heap l.initial.self) × (l.table < length l.self.heap.tables) × All (IsOf (ids_of l.self.heap)) l.values

abbrev pub decreases-loop-table : goal.decreases-loop-table
decreases-loop-table g l = length l.values
