use Rattle.std.proofs.Common.{rules, sym, subst, length, ◌<◌}
use Rattle.std.specs.Option.{option_copied}
use Rattle.lua_values.specs.Ids.{ids_of}
use Rattle.lua_configuration.proofs.Captured.{cell_of_heap}
use Rattle.lua_configuration.proofs.configuration.Configuration.local_value.Goals as goal

pub cell-requires : goal.cell-requires
cell-requires g c = subst (λ x. c.in-Some-Cell.cell < length x.heap.cells) (sym c.self.view_is)
    (cell_of_heap (ids_of c.args.self.now.heap) c.args.self.now.call c.args.variable c.in-Some-Cell.cell (option_copied c.slot.result) c.requires (search rules) (search rules))
