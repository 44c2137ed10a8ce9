use Rattle.std.proofs.Common.{◌≡◌}
use Rattle.shared_pool.specs.Passes.{PassView}
use Rattle.shared_pool.proofs.Joining.{joined-more, all-last}
use Rattle.shared_pool.proofs.closing.join_passes.Goals as goal

pub join_pass-requires-clause-pass : goal.join_pass-requires-clause-pass
join_pass-requires-clause-pass g c = let j = c.loop-pass.invariant in
    all-last (λ (p : PassView g.row.O.Denot g.row.O-Call.Denot). p.pool ≡ c.args.lock.now.id) c.args.passes.items c.loop-pass.passes.items j.done c.pop.new.self.items c.in-Some.pass j.parts c.in-Some.ensures.items c.requires.passes

pub loop-pass-preserved : goal.loop-pass-preserved
loop-pass-preserved g c = joined-more c.args.seat.now c.loop-pass.seat c.join_pass.new.seat c.args.passes.items c.loop-pass.passes.items c.pop.new.self.items c.in-Some.pass c.in-Some.ensures.items c.loop-pass.invariant c.join_pass.ensures
