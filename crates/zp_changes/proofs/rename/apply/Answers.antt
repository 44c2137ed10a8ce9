use Rattle.std.proofs.Common.{◌≡◌, OnOk, rules}
use Rattle.zp_tree.specs.WellFormed.{IsWellFormed}
use Rattle.zp_tree.specs.Rename.{rename_change}
use Rattle.zp_changes.proofs.RenameFacts.{passed-rename, each-fits}
use Rattle.zp_changes.proofs.RenameLaw.{rename-well}
use Rattle.zp_changes.proofs.Whole.{either-way}
use Rattle.zp_changes.proofs.rename.apply.Goals as goal

pub change_all-requires-clause-relies : goal.change_all-requires-clause-relies
change_all-requires-clause-relies g c =
    let t = g.T.Datasets.tree c.args.tree.now in
    each-fits t c.args.name.now c.args.to.now (passed-rename t c.args.name.now c.args.to.now c.requires.well c.requires.passed)

pub returns-clause-well : goal.returns-clause-well
returns-clause-well g c =
    let t = g.T.Datasets.tree c.args.tree.now in
    let next = rename_change t c.args.name.now c.args.to.now in
    let ok : OnOk c.change_all.result (g.T.Datasets.tree c.change_all.new.tree ≡ next) = search rules in
    either-way IsWellFormed c.change_all.result t next (g.T.Datasets.tree c.change_all.new.tree) ok c.change_all.ensures.err (rename-well t c.args.name.now c.args.to.now c.requires.well c.text.ensures.valid c.requires.passed) c.requires.well
