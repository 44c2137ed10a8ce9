use Rattle.std.proofs.Common.{◌≡◌, OnOk, rules}
use Rattle.zp_tree.specs.WellFormed.{IsWellFormed}
use Rattle.zp_tree.specs.Promote.{promote_change}
use Rattle.zp_changes.proofs.Whole.{either-way}
use Rattle.zp_changes.proofs.PromoteLaw.{promote-well}
use Rattle.zp_changes.proofs.promote.apply.Goals as goal

pub returns-clause-well : goal.returns-clause-well
returns-clause-well g c =
    let t = g.T.Datasets.tree c.args.tree.now in
    let next = promote_change t c.args.name.now in
    let ok : OnOk c.change_all.result (g.T.Datasets.tree c.change_all.new.tree ≡ next) = search rules in
    either-way IsWellFormed c.change_all.result t next (g.T.Datasets.tree c.change_all.new.tree) ok c.change_all.ensures.err (promote-well t c.args.name.now c.requires.well c.requires.passed) c.requires.well
