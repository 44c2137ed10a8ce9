use Rattle.std.proofs.Common.{◌≡◌, sym, subst, rules}
use Rattle.zp_tree.specs.WellFormed.{IsWellFormed}
use Rattle.zp_tree.specs.MakeBookmark.{bookmark_change}
use Rattle.zp_changes.proofs.BookmarkLaw.{bookmark-well}
use Rattle.zp_changes.proofs.bookmark.apply.Goals as goal

pub returns-clause-well : goal.returns-clause-well
returns-clause-well g c =
    let t = g.T.Datasets.tree c.args.tree.now in
    let is : g.T.Datasets.tree c.add.new.self ≡ bookmark_change t c.args.source.now c.args.name.now = search rules in
    subst IsWellFormed (sym is) (bookmark-well t c.args.source.now c.args.name.now c.requires.well c.short.ensures.valid c.requires.passed)
