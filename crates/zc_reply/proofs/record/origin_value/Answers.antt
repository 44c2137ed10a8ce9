use Rattle.std.proofs.Common.{◌≡◌, Some}
use Rattle.zp_tree.specs.Tree.{at}
use Rattle.zp_tree.specs.declared.item.Item.TheVariants.{Snap}
use Rattle.zc_reply.proofs.record.origin_value.Goals as goal

pub snapshot_name-requires-clause-short : goal.snapshot_name-requires-clause-short
snapshot_name-requires-clause-short g c =
    let snapshot = c.in-Some-Snap.snapshot in
    let there : at (g.T.Datasets.tree c.args.tree.now).records c.in-Some.id ≡ Some (Snap snapshot) = cc (c.in-Some-Snap.ensures, c.in-Some-Snap.field-0-is) in
    (c.requires.agrees.records c.in-Some.id (Snap snapshot) there).short
