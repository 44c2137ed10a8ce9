use Rattle.std.proofs.Common.{◌≡◌, sym, subst, rules}
use Rattle.zp_tree.specs.WellFormed.{IsWellFormed}
use Rattle.zp_tree.specs.CreateVolume.{create_volume_change}
use Rattle.zp_changes.proofs.CreateVolumeLaw.{create-volume-well}
use Rattle.zp_changes.proofs.create_volume.apply.Goals as goal

pub returns-clause-well : goal.returns-clause-well
returns-clause-well g c =
    let t = g.T.Datasets.tree c.args.tree.now in
    let is : g.T.Datasets.tree c.add.new.self ≡ create_volume_change t c.args.name.now c.args.volsize c.args.txg = search rules in
    subst IsWellFormed (sym is) (create-volume-well t c.args.name.now c.args.volsize c.args.txg c.requires.well c.copy.ensures.valid c.requires.passed)
