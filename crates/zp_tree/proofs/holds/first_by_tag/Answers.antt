use Rattle.std.proofs.Common.{◌+◌, take, List, Option, sym, subst, option_map}
use Rattle.zp_tree.specs.declared.item.Hold.{Hold}
use Rattle.zp_tree.specs.FirstByKey.{FirstBy, first_of}
use Rattle.zp_tree.specs.NextTag.{tag_of, is_tag_above}
use Rattle.zp_tree.proofs.FirstFound.{first-more, up-to}
use Rattle.zp_tree.proofs.holds.first_by_tag.Goals as goal

pub loop-hold-preserved : goal.loop-hold-preserved
loop-hold-preserved c =
    let hs = c.args.holds.now in
    let i = c.loop-hold.hold-index in
    let may = is_tag_above c.args.after.now in
    let x = c.hold-item.result in
    let found = option_map (λ h. h.now) c.loop-hold.found in
    let h = first-more tag_of (take i hs) may found x c.loop-hold.invariant in
    subst (λ (o : Option Hold). FirstBy tag_of (take (i + 1) hs) may o) (sym c.better-found.ensures) (subst (λ (ys : List Hold). FirstBy tag_of ys may (first_of tag_of (may x) found x)) (sym (up-to hs i x c.loop-hold-test.true c.hold-item.is)) h)
