use Rattle.std.proofs.Common.{◌≡◌, sym, subst, rules}
use Rattle.zp_tree.specs.WellFormed.{IsWellFormed}
use Rattle.zp_tree.specs.Rollback.{rollback_change}
use Rattle.zp_changes.proofs.RollbackLaw.{rollback-well}
use Rattle.zp_changes.proofs.rollback.apply.Goals as goal

pub returns-clause-well : goal.returns-clause-well
returns-clause-well g c =
    let t = g.T.Datasets.tree c.args.tree.now in
    let is : g.T.Datasets.tree c.replace.new.self ≡ rollback_change t c.args.name.now = search rules in
    subst IsWellFormed (sym is) (rollback-well t c.args.name.now c.requires.well)
