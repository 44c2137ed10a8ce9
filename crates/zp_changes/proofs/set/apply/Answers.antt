use Rattle.std.proofs.Common.{◌≡◌, sym, subst, rules}
use Rattle.zp_tree.specs.WellFormed.{IsWellFormed}
use Rattle.zp_tree.specs.SetProperty.{set_change}
use Rattle.zp_changes.proofs.SettingsLaw.{set-well}
use Rattle.zp_changes.proofs.set.apply.Goals as goal

pub returns-clause-well : goal.returns-clause-well
returns-clause-well g c =
    let t = g.T.Datasets.tree c.args.tree.now in
    let is : g.T.Datasets.tree c.replace.new.self ≡ set_change t c.args.name.now c.args.property.now c.args.value.now = search rules in
    subst IsWellFormed (sym is) (set-well t c.args.name.now c.args.property.now c.args.value.now c.requires.well c.requires.passed)
