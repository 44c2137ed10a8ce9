use Rattle.std.proofs.Common.{◌≡◌, sym, subst, rules}
use Rattle.zp_tree.specs.WellFormed.{IsWellFormed}
use Rattle.zp_tree.specs.WriteStamp.{stamp_change}
use Rattle.zp_changes.proofs.StampLaw.{stamp-well}
use Rattle.zp_changes.proofs.stamp.apply.Goals as goal

pub returns-clause-well : goal.returns-clause-well
returns-clause-well g c =
    let t = g.T.Datasets.tree c.args.tree.now in
    let is : g.T.Datasets.tree c.replace.new.self ≡ stamp_change t c.args.name.now c.args.value = search rules in
    subst IsWellFormed (sym is) (stamp-well t c.args.name.now c.args.value c.requires.well)
