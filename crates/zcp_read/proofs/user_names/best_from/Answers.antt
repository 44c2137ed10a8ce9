use Rattle.std.proofs.Common.{ℕ, List, [], take, fold, Option, ap, ◌∙◌, option_map}
use Rattle.std.specs.Option.{option_map_or}
use Rattle.zp_tree.specs.declared.item.Item.{Item}
use Rattle.zcp_read.specs.Lists.{better_setting, settings_for, settings_from}
use Rattle.zcp_read.proofs.Going.{fold-place}
use Rattle.zcp_read.proofs.user_names.best_from.Goals as goal

pub loop-place-preserved : goal.loop-place-preserved
loop-place-preserved g c =
    let rs = (g.T.Datasets.tree c.args.tree.now).records in
    let f = better_setting c.args.after.now in
    let name = c.args.name.now in
    let place = c.loop-place.place in
    let first = option_map (λ n. n.now) c.args.found in
    c.best_for-next.ensures
    ∙ ap (λ (o : Option (List ℕ)). fold f o (option_map_or (settings_for name) (option_map (λ r. r.now) c.nth.result) [])) c.loop-place.invariant
    ∙ ap (λ (r : Option Item). fold f (fold f first (settings_from (take place rs) name)) (option_map_or (settings_for name) r [])) c.nth.ensures
    ∙ fold-place f first (settings_for name) rs place
