use Rattle.std.proofs.Common.{take, sym, ap, ◌∙◌}
use Rattle.std.specs.Option.{option_or}
use Rattle.zp_tree.specs.Rollback.{own_snapshot, latest}
use Rattle.zp_tree.proofs.Latest.{latest-more, one-more}
use Rattle.zp_tree.proofs.plain.latest_snapshot.Goals as goal

pub loop-item-preserved : goal.loop-item-preserved
loop-item-preserved c =
    let rs = c.args.records.now in
    let i = c.loop-item.item-index in
    let x = c.item-item.result in
    c.later-found.ensures ∙ ap (option_or (own_snapshot c.args.owner x)) c.loop-item.invariant ∙ sym (latest-more c.args.owner (take i rs) x) ∙ sym (ap (latest c.args.owner) (one-more rs i x c.loop-item-test.true c.item-item.is))
