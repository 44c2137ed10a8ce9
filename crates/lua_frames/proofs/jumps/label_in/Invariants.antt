use Rattle.std.proofs.Common.{◌≡◌, ◌≤◌, ◌-◌, drop, length}
use Rattle.lua_steps.specs.Parts.{list_at}
use Rattle.lua_steps.specs.Passed.{label_from}
use Rattle.lua_frames.proofs.jumps.label_in.Given as goal

abbrev pub invariant-loop-statement : goal.invariant-loop-statement
invariant-loop-statement l = (label_from l.chunk.nodes l.name 0 0 (list_at l.chunk.nodes l.block)
    ≡ label_from l.chunk.nodes l.name l.place l.locals (drop l.place (list_at l.chunk.nodes l.block)))
    × (l.place ≤ length (list_at l.chunk.nodes l.block))

abbrev pub decreases-loop-statement : goal.decreases-loop-statement
decreases-loop-statement l = length (list_at l.chunk.nodes l.block) - l.place
