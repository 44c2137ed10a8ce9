use Rattle.std.proofs.Common.{◌≡◌, Some, sym, subst, rules}
use Rattle.zp_tree.specs.declared.item.Item.TheVariants as item
use Rattle.zp_tree.specs.Tree.{snapshot_named, replaced}
use Rattle.zp_tree.specs.WellFormed.{AreRecords, IsWellFormed}
use Rattle.zp_tree.specs.ReleaseHold.{release_change, without_hold}
use Rattle.zp_changes.proofs.ReleaseLaw.{records_released, release-well}
use Rattle.zp_changes.proofs.release.apply.Goals as goal

pub returns-clause-well : goal.returns-clause-well
returns-clause-well g c =
    let t = g.T.Datasets.tree c.args.tree.now in
    let is : g.T.Datasets.tree c.remove_released.new.tree ≡ release_change t c.args.name.now c.args.tag.now = search rules in
    subst IsWellFormed (sym is) (release-well t c.args.name.now c.args.tag.now c.requires.well)

pub remove_released-requires : goal.remove_released-requires
remove_released-requires g c =
    let t = g.T.Datasets.tree c.args.tree.now in
    let s = c.in-Some-Snap.snapshot in
    let found : snapshot_named t c.args.name.now ≡ Some s = search rules in
    let is : g.T.Datasets.tree c.replace.new.self ≡ replaced t (item.Snap (without_hold c.args.tag.now s)) = search rules in
    subst AreRecords (sym is) (records_released t c.args.name.now c.args.tag.now s c.requires.well found)
