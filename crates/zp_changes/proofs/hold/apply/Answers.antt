use Rattle.std.proofs.Common.{◌≡◌, sym, subst, rules}
use Rattle.zp_tree.specs.WellFormed.{IsWellFormed}
use Rattle.zp_tree.specs.PlaceHold.{hold_change}
use Rattle.zp_changes.proofs.HoldLaw.{hold-well}
use Rattle.zp_changes.proofs.hold.apply.Goals as goal

pub returns-clause-well : goal.returns-clause-well
returns-clause-well g c =
    let t = g.T.Datasets.tree c.args.tree.now in
    let is : g.T.Datasets.tree c.replace.new.self ≡ hold_change t c.args.name.now c.args.tag.now c.args.now = search rules in
    subst IsWellFormed (sym is) (hold-well t c.args.name.now c.args.tag.now c.args.now c.requires.well c.requires.passed)
