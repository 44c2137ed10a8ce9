use Rattle.std.proofs.Common.{◌≡◌, reverse}
use Rattle.lua_scope.specs.Refusals.{in_loop}
use Rattle.lua_scope.proofs.scope.Scope.in_loop.Given as goal

abbrev pub invariant-loop-frame : goal.invariant-loop-frame
invariant-loop-frame l = in_loop (reverse l.self.frames) ≡ in_loop (reverse l.frame-iterator.iter.rest.now)
