use Rattle.std.proofs.Common.{◌≡◌, sym, subst, rules}
use Rattle.zp_tree.specs.WellFormed.{IsWellFormed}
use Rattle.zp_tree.specs.Create.{create_change}
use Rattle.zp_changes.proofs.CreateLaw.{create-well}
use Rattle.zp_changes.proofs.create.apply.Goals as goal

pub returns-clause-well : goal.returns-clause-well
returns-clause-well g c =
    let t = g.T.Datasets.tree c.args.tree.now in
    let is : g.T.Datasets.tree c.add.new.self ≡ create_change t c.args.name.now c.args.txg = search rules in
    subst IsWellFormed (sym is) (create-well t c.args.name.now c.args.txg c.requires.well c.copy.ensures.valid c.requires.passed)
