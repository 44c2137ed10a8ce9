use Rattle.std.proofs.Common.{◌≡◌, ◌+◌, ◌-◌, ℕ, false, get_or, vec_len}
use Rattle.lua_scope.proofs.resolver.mark.Given as goal

abbrev pub invariant-loop-marks : goal.invariant-loop-marks
invariant-loop-marks l = (v : ℕ) → get_or l.marks.items v false ≡ get_or l.initial.marks.items v false

abbrev pub decreases-loop-marks : goal.decreases-loop-marks
decreases-loop-marks l = l.variable + 1 - vec_len l.marks
