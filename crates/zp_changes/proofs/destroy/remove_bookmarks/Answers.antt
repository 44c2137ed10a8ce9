use Rattle.std.proofs.Common.{ℕ, [], ◌<◌, Option, is_some, sym, ap, subst, length}
use Rattle.zp_tree.specs.Tree.{Tree, removed}
use Rattle.zp_tree.specs.NextByName.{IsNext, is_bookmark_above}
use Rattle.zp_changes.proofs.LosingBookmarks.{Rest, rest-first, rest-less, rest-done, some-there, fewer-left}
use Rattle.zp_changes.proofs.destroy.remove_bookmarks.Goals as goal

pub loop-bookmark-init : goal.loop-bookmark-init
loop-bookmark-init g c = rest-first (g.T.Datasets.tree c.args.tree.now) c.args.owner c.requires.records.rises c.requires.there

pub remove-requires : goal.remove-requires
remove-requires g c =
    let t = g.T.Datasets.tree c.args.tree.now in
    let u = g.T.Datasets.tree c.loop-bookmark.tree in
    let i = c.args.owner in
    let first = subst (λ (o : Option ℕ). IsNext u.records (is_bookmark_above u.records i []) o) c.in-Some.is c.marks_after.ensures in
    ap is_some (some-there t u i c.in-Some.bookmark c.loop-bookmark.invariant first)

pub loop-bookmark-smaller : goal.loop-bookmark-smaller
loop-bookmark-smaller g c =
    let t = g.T.Datasets.tree c.args.tree.now in
    let u = g.T.Datasets.tree c.loop-bookmark.tree in
    let i = c.args.owner in
    let first = subst (λ (o : Option ℕ). IsNext u.records (is_bookmark_above u.records i []) o) c.in-Some.is c.marks_after.ensures in
    subst (λ (v : Tree). length v.records < length u.records) {x = removed u c.in-Some.bookmark} (sym c.remove.ensures.tree) (fewer-left t u i c.in-Some.bookmark c.loop-bookmark.invariant first)

pub loop-bookmark-preserved : goal.loop-bookmark-preserved
loop-bookmark-preserved g c =
    let t = g.T.Datasets.tree c.args.tree.now in
    let u = g.T.Datasets.tree c.loop-bookmark.tree in
    let i = c.args.owner in
    let first = subst (λ (o : Option ℕ). IsNext u.records (is_bookmark_above u.records i []) o) c.in-Some.is c.marks_after.ensures in
    subst (λ (v : Tree). Rest t v i) {x = removed u c.in-Some.bookmark} (sym c.remove.ensures.tree) (rest-less t u i c.in-Some.bookmark c.loop-bookmark.invariant first)

pub returns : goal.returns
returns g c =
    let t = g.T.Datasets.tree c.args.tree.now in
    let u = g.T.Datasets.tree c.loop-bookmark.tree in
    let i = c.args.owner in
    rest-done t u i c.loop-bookmark.invariant (subst (λ (o : Option ℕ). IsNext u.records (is_bookmark_above u.records i []) o) c.in_default.is c.marks_after.ensures)
