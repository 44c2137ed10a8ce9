use Rattle.std.proofs.Common.{◌<◌, ◌≤◌, length, arith}
use Rattle.zp_tree.specs.ShortNames.{short_name_if}
use Rattle.zp_checks.proofs.Naming.{names-from}
use Rattle.zp_checks.proofs.short_names.names_of.Goals as goal

pub loop-place-preserved : goal.loop-place-preserved
loop-place-preserved g c =
    let rs = (g.T.Datasets.tree c.args.tree.now).records in
    let f = short_name_if (g.P.Passing.passes c.args.passing.now) in
    let some : 0 < c.loop-place.place = c.loop-place-test.true in
    let within : c.loop-place.place ≤ length rs = c.loop-place.invariant.0 in
    (omega arith, names-from f rs c.loop-place.place _ _ _ some c.nth.ensures c.loop-place.invariant.1 c.in_ok-note.ensures)
