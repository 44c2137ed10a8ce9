use Rattle.std.proofs.Common.{◌≡◌, sym, subst, rules}
use Rattle.zp_tree.specs.WellFormed.{IsWellFormed}
use Rattle.zp_tree.specs.MakeClone.{clone_change}
use Rattle.zp_changes.proofs.CloneLaw.{clone-well}
use Rattle.zp_changes.proofs.clone.apply.Goals as goal

pub returns-clause-well : goal.returns-clause-well
returns-clause-well g c =
    let t = g.T.Datasets.tree c.args.tree.now in
    let is : g.T.Datasets.tree c.add.new.self ≡ clone_change t c.args.source.now c.args.name.now c.args.txg = search rules in
    subst IsWellFormed (sym is) (clone-well t c.args.source.now c.args.name.now c.args.txg c.requires.well c.copy.ensures.valid c.requires.passed)
