use Rattle.std.proofs.Common.{◌≡◌, length, reverse}
use Rattle.lua_scope.specs.Refusals.{jump}
use Rattle.lua_scope.proofs.scope.Scope.jump.Given as goal

abbrev pub invariant-loop-frame : goal.invariant-loop-frame
invariant-loop-frame l = jump l.line l.label (length l.self.variables) (reverse l.self.frames) ≡ jump l.line l.label l.here (reverse l.frame-iterator.iter.rest.now)
