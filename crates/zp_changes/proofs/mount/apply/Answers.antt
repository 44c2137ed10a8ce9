use Rattle.std.proofs.Common.{◌≡◌, sym, subst, rules}
use Rattle.zp_tree.specs.WellFormed.{IsWellFormed}
use Rattle.zp_tree.specs.Mount.{mount_change}
use Rattle.zp_changes.proofs.MountLaw.{mount-well}
use Rattle.zp_changes.proofs.mount.apply.Goals as goal

pub returns-clause-well : goal.returns-clause-well
returns-clause-well g c =
    let t = g.T.Datasets.tree c.args.tree.now in
    let is : g.T.Datasets.tree c.replace.new.self ≡ mount_change t c.args.name.now = search rules in
    subst IsWellFormed (sym is) (mount-well t c.args.name.now c.requires.well)
