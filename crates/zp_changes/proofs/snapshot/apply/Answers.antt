use Rattle.std.proofs.Common.{◌≡◌, sym, subst, rules}
use Rattle.zp_tree.specs.WellFormed.{IsWellFormed}
use Rattle.zp_tree.specs.TakeSnapshot.{snapshot_change}
use Rattle.zp_changes.proofs.SnapshotLaw.{snapshot-well}
use Rattle.zp_changes.proofs.snapshot.apply.Goals as goal

pub returns-clause-well : goal.returns-clause-well
returns-clause-well g c =
    let t = g.T.Datasets.tree c.args.tree.now in
    let is : g.T.Datasets.tree c.add.new.self ≡ snapshot_change t c.args.name.now c.args.txg = search rules in
    subst IsWellFormed (sym is) (snapshot-well t c.args.name.now c.args.txg c.requires.well c.short.ensures.valid c.requires.passed)
