use Rattle.std.proofs.Common.{◌≡◌, false, true, sym, rules}
use Rattle.std.specs.Prelude.{slice_get}
use Rattle.std.specs.Option.{option_map_or}
use Rattle.zp_tree.specs.Rename.{would_outgrow}
use Rattle.zp_checks.proofs.Walking.{any-at-place, none-up-to}
use Rattle.zp_checks.proofs.rename.any_would_outgrow.Goals as goal

pub returns-then-nth_would_outgrow : goal.returns-then-nth_would_outgrow
returns-then-nth_would_outgrow g c =
    let rs = (g.T.Datasets.tree c.args.tree.now).records in
    let would = would_outgrow rs c.args.name.now c.args.to.now in
    let there : option_map_or would (slice_get rs c.loop-place.place) false ≡ true = search rules in
    sym (any-at-place would rs c.loop-place.place there)

pub loop-place-preserved : goal.loop-place-preserved
loop-place-preserved g c =
    let rs = (g.T.Datasets.tree c.args.tree.now).records in
    let would = would_outgrow rs c.args.name.now c.args.to.now in
    let none : option_map_or would (slice_get rs c.loop-place.place) false ≡ false = search rules in
    none-up-to would rs c.loop-place.place c.loop-place.invariant none
