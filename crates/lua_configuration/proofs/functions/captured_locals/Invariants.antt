use Rattle.std.proofs.Common.{◌≡◌, ◌++◌}
use Rattle.lua_meaning.specs.Locals.{captured_locals}
use Rattle.lua_configuration.proofs.functions.captured_locals.Given as goal

abbrev pub invariant-loop-variable : goal.invariant-loop-variable
invariant-loop-variable l = captured_locals l.variables l.cells ≡ l.locals.items ++ captured_locals l.variable-iterator.a.rest.now l.variable-iterator.b.rest.now
