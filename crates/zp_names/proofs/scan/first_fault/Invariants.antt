use Rattle.std.proofs.Common.{◌≡◌, ◌+◌, ◌-◌, length}
use Rattle.zp_names.specs.NameFaults.{first_fault, is_marked, starts_part}
use Rattle.zp_names.proofs.scan.first_fault.Given as goal

abbrev pub invariant-loop-at : goal.invariant-loop-at
invariant-loop-at l = record {
  rest : first_fault l.text l.at (length l.text + 1 - l.at) ≡ first_fault l.text 0 (length l.text + 1);
  marked : l.marked ≡ is_marked l.text l.at;
  starts : l.starts ≡ starts_part l.text l.at;
}
