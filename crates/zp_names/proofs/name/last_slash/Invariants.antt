use Rattle.std.proofs.Common.{◌≡◌, ◌≤◌, ◌<◌, ℕ, length, get_or, false}
use Rattle.zp_names.specs.Names.{is_slash}
use Rattle.zp_names.proofs.name.last_slash.Given as goal

abbrev pub invariant-loop-at : goal.invariant-loop-at
invariant-loop-at l = record {
  within : l.at ≤ length l.text;
  none_after : (k : ℕ) → l.at ≤ k → k < length l.text → is_slash (get_or l.text k 0) ≡ false;
}

abbrev pub decreases-loop-at : goal.decreases-loop-at
decreases-loop-at l = l.at
