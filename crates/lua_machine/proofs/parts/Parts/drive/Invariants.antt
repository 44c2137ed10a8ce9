use Rattle.lua_meaning.specs.Store.{Result as ResultOf}
use Rattle.lua_runs.specs.Weights.{work_left}
use Rattle.lua_machine.specs.Running.{Runs}
use Rattle.lua_machine.proofs.parts.Parts.drive.Given as goal

abbrev pub invariant-loop-self : goal.invariant-loop-self
invariant-loop-self g l =
    ((o : ResultOf g.H.Host.World) → Runs g.H.Host.meaning g.H.Host.world l.parsed.chunk o l.fn.first l.fn.self → Runs g.H.Host.meaning g.H.Host.world l.parsed.chunk o l.mode l.self)
    × ((o : ResultOf g.H.Host.World) × Runs g.H.Host.meaning g.H.Host.world l.parsed.chunk o l.mode l.self)

abbrev pub decreases-loop-self : goal.decreases-loop-self
decreases-loop-self g l = work_left l.parsed.chunk.nodes (l.mode, l.self.configuration)
