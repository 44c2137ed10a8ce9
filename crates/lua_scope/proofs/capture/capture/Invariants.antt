use Rattle.std.proofs.Common.{◌≡◌, ◌<◌, ◌||◌, ℕ, [], drop, length, get_or}
use Rattle.lua_scope.specs.Variables.{captured_in, with_use}
use Rattle.lua_scope.proofs.capture.capture.Given as goal

abbrev pub invariant-loop-frame : goal.invariant-loop-frame
invariant-loop-frame l = record {
  any : captured_in (λ (i : ℕ). get_or l.first i 0) l.variable l.frames ≡ (l.any || captured_in (λ (i : ℕ). get_or l.first i 0) l.variable (drop l.frame-index l.frames));
  len : length l.captured.items ≡ length l.initial.captured.items;
  each : (f : ℕ) → f < length l.captured.items →
      with_use (λ (i : ℕ). get_or l.first i 0) f l.variable (get_or l.captured.items f []) (drop l.frame-index l.frames)
      ≡ with_use (λ (i : ℕ). get_or l.first i 0) f l.variable (get_or l.initial.captured.items f []) l.frames;
}
