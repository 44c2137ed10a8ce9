use Rattle.std.proofs.Common.{◌+◌}
use Rattle.shared_pool.specs.Passes.{IsSamePass, GrowsByOthers}
use Rattle.shared_pool.specs.Submits.{IsPassTicket}
use Rattle.shared_pool.proofs.opening.SharedPool.collect.Given as goal

pub record Waiting (A B C : Type 0) : Type 0 where
  pub same : A
  pub later : B
  pub ticket : C

abbrev pub invariant-loop : goal.invariant-loop
invariant-loop g l = Waiting (IsSamePass l.initial.pass l.pass) (GrowsByOthers (l.initial.pass.session + 1) l.initial.pass.front l.pass.front) (IsPassTicket g.O.Stated.means l.pass l.ticket)
