use Rattle.std.proofs.Common.{◌≡◌, sym, subst, rules}
use Rattle.zp_tree.specs.WellFormed.{IsWellFormed}
use Rattle.zp_tree.specs.RenameSnapshot.{rename_snapshot_change}
use Rattle.zp_changes.proofs.RenameSnapshotLaw.{rename-snapshot-well}
use Rattle.zp_changes.proofs.rename_snapshot.apply.Goals as goal

pub returns-clause-well : goal.returns-clause-well
returns-clause-well g c =
    let t = g.T.Datasets.tree c.args.tree.now in
    let is : g.T.Datasets.tree c.replace.new.self ≡ rename_snapshot_change t c.args.name.now c.args.old.now c.args.new.now = search rules in
    subst IsWellFormed (sym is) (rename-snapshot-well t c.args.name.now c.args.old.now c.args.new.now c.requires.well c.requires.passed)
