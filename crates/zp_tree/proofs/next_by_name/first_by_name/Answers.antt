use Rattle.std.proofs.Common.{◌+◌, take, List, Option, Bool, sym, ap, ◌∙◌, subst, option_map}
use Rattle.zp_tree.specs.declared.item.Item.{Item}
use Rattle.zp_tree.specs.NextByName.{Comes, better}
use Rattle.zp_tree.proofs.Coming.{comes-more}
use Rattle.zp_tree.proofs.Latest.{one-more}
use Rattle.zp_tree.proofs.next_by_name.first_by_name.Goals as goal

pub loop-item-preserved : goal.loop-item-preserved
loop-item-preserved g c =
    let rs = c.args.records.now in
    let i = c.loop-item.item-index in
    let may = g.W.Wanted.wants c.args.wanted.now in
    let x = c.item-item.result in
    let found = option_map (λ r. r.now) c.loop-item.found in
    let h = comes-more (take i rs) may found x c.loop-item.invariant in
    subst (λ (o : Option Item). Comes (take (i + 1) rs) may o) (sym (c.better-found.ensures ∙ ap (λ (b : Bool). better b found x) c.wants.ensures)) (subst (λ (ys : List Item). Comes ys may (better (may x) found x)) (sym (one-more rs i x c.loop-item-test.true c.item-item.is)) h)
