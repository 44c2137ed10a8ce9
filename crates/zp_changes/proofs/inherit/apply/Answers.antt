use Rattle.std.proofs.Common.{◌≡◌, sym, subst, rules}
use Rattle.zp_tree.specs.WellFormed.{IsWellFormed}
use Rattle.zp_tree.specs.InheritProperty.{inherit_change}
use Rattle.zp_changes.proofs.SettingsLaw.{inherit-well}
use Rattle.zp_changes.proofs.inherit.apply.Goals as goal

pub returns-clause-well : goal.returns-clause-well
returns-clause-well g c =
    let t = g.T.Datasets.tree c.args.tree.now in
    let is : g.T.Datasets.tree c.replace.new.self ≡ inherit_change t c.args.name.now c.args.property.now = search rules in
    subst IsWellFormed (sym is) (inherit-well t c.args.name.now c.args.property.now c.requires.well c.requires.passed)
