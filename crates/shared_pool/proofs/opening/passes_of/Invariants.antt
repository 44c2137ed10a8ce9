use Rattle.std.proofs.Common.{◌≡◌, ◌≤◌, ◌-◌, length}
use Rattle.shared_pool.specs.Closing.{passes_from}
use Rattle.shared_pool.specs.Seating.{IsSeatLeft}
use Rattle.shared_pool.proofs.opening.passes_of.Given as goal

pub record Splitting (A B C : Type 0) : Type 0 where
  pub left : A
  pub few : B
  pub passes : C

abbrev pub invariant-loop-left : goal.invariant-loop-left
invariant-loop-left g l = Splitting (IsSeatLeft l.lock.id l.initial.seat.origin l.left l.seat) (l.left ≤ length l.counts) (l.passes.items ≡ passes_from l.lock.id l.initial.seat.origin l.left (length l.counts - l.left))

abbrev pub decreases-loop-left : goal.decreases-loop-left
decreases-loop-left g l = l.left
