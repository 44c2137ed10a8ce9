use Rattle.std.proofs.Common.{◌≡◌, reverse}
use Rattle.lua_scope.specs.Refusals.{has_varargs}
use Rattle.lua_scope.proofs.scope.Scope.has_varargs.Given as goal

abbrev pub invariant-loop-frame : goal.invariant-loop-frame
invariant-loop-frame l = has_varargs (reverse l.self.frames) ≡ has_varargs (reverse l.frame-iterator.iter.rest.now)
