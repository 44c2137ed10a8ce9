use Rattle.std.proofs.Common.{◌≡◌, take}
use Rattle.lua_frames.specs.NodeConstants.{constants_of}
use Rattle.lua_frames.proofs.constants.Constants.new.Given as goal

abbrev pub invariant-loop-number : goal.invariant-loop-number
invariant-loop-number l = l.values ≡ constants_of (take l.number l.chunk.nodes)
