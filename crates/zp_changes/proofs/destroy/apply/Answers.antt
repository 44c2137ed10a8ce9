use Rattle.std.proofs.Common.{◌≡◌, sym, subst, OnOk, rules}
use Rattle.zp_tree.specs.WellFormed.{IsWellFormed}
use Rattle.zp_tree.specs.Destroy.{destroy_change}
use Rattle.zp_changes.proofs.Whole.{either-way}
use Rattle.zp_changes.proofs.DestroyLaw.{destroy-well}
use Rattle.zp_changes.proofs.destroy.apply.Goals as goal

pub returns-in-Head-clause-well : goal.returns-in-Head-clause-well
returns-in-Head-clause-well g c =
    let t = g.T.Datasets.tree c.args.tree.now in
    let is : g.T.Datasets.tree c.destroy_head.new.tree ≡ destroy_change t c.args.name.now c.args.defer = search rules in
    subst IsWellFormed (sym is) (destroy-well t c.args.name.now c.args.defer c.requires.well c.requires.passed)

pub returns-in-Snap-clause-well : goal.returns-in-Snap-clause-well
returns-in-Snap-clause-well g c =
    let t = g.T.Datasets.tree c.args.tree.now in
    let next = destroy_change t c.args.name.now c.args.defer in
    let ok : OnOk c.destroy_snapshot.result (g.T.Datasets.tree c.destroy_snapshot.new.tree ≡ next) = search rules in
    either-way IsWellFormed c.destroy_snapshot.result t next (g.T.Datasets.tree c.destroy_snapshot.new.tree) ok c.destroy_snapshot.ensures.err (destroy-well t c.args.name.now c.args.defer c.requires.well c.requires.passed) c.requires.well

pub returns-in-Bookmark-clause-well : goal.returns-in-Bookmark-clause-well
returns-in-Bookmark-clause-well g c =
    let t = g.T.Datasets.tree c.args.tree.now in
    let is : g.T.Datasets.tree c.destroy_bookmark.new.tree ≡ destroy_change t c.args.name.now c.args.defer = search rules in
    subst IsWellFormed (sym is) (destroy-well t c.args.name.now c.args.defer c.requires.well c.requires.passed)
