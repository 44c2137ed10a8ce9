use Rattle.std.proofs.Common.{◌≡◌, drop}
use Rattle.lua_meaning.specs.Locals.{cells_in}
use Rattle.lua_configuration.proofs.Captured.{behind}
use Rattle.lua_configuration.proofs.configuration.Configuration.captured_cells.Given as goal

abbrev pub invariant-loop-variable : goal.invariant-loop-variable
invariant-loop-variable l = cells_in l.self.call.locals l.variables ≡ behind l.cells.items (cells_in l.self.call.locals (drop l.variable-index l.variables))
