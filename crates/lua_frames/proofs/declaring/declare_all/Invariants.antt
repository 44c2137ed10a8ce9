use Rattle.std.proofs.Common.{◌≡◌, All}
use Rattle.lua_values.specs.Ids.{ids_of, IsOf}
use Rattle.lua_code.specs.CodeOf.{code_of}
use Rattle.lua_steps.specs.Configuration.{with_heap, with_locals}
use Rattle.lua_steps.specs.Effects.{declared_all}
use Rattle.lua_frames.proofs.declaring.declare_all.Given as goal

abbrev pub invariant-loop-left : goal.invariant-loop-left
invariant-loop-left g l = (declared_all (code_of l.parsed.chunk) l.first l.count l.initial.values l.initial.configuration.heap l.initial.configuration.call.locals
    ≡ declared_all (code_of l.parsed.chunk) l.variable l.left l.values l.configuration.heap l.configuration.call.locals)
    × (l.configuration ≡ with_heap l.configuration.heap (with_locals l.configuration.call.locals l.initial.configuration)) × All (IsOf (ids_of l.configuration.heap)) l.values

abbrev pub decreases-loop-left : goal.decreases-loop-left
decreases-loop-left g l = l.left
