use Rattle.std.proofs.Common.{◌≡◌, ℕ, ◌-◌, IsSome, List, [], ◌++◌, take, subst, sym, ◌∙◌, ap}
use Rattle.zp_tree.specs.declared.item.Item.{Item}
use Rattle.zp_tree.specs.Tree.{at}
use Rattle.zp_changes.proofs.Whole.{Putting, putting-starts, putting-goes, putting-ends, last-there}
use Rattle.zp_changes.proofs.change.change_all.Goals as goal

pub loop-item-init : goal.loop-item-init
loop-item-init g c = putting-starts (g.C.Change.gives c.args.change.now) (g.met.C.Change.keeps c.args.change.now) (g.T.Datasets.tree c.args.tree.now) _ c.requires.rises c.in_ok-items.ensures

pub replace-requires-clause-there : goal.replace-requires-clause-there
replace-requires-clause-there g c =
    subst (λ (i : ℕ). IsSome (at (g.T.Datasets.tree c.loop-item.tree).records i)) (sym c.id-id.ensures)
    (last-there (g.C.Change.gives c.args.change.now) (g.T.Datasets.tree c.args.tree.now) (g.T.Datasets.tree c.loop-item.tree) _ c.pop.new.self.items c.in-Some.item c.in-Some.ensures.items c.loop-item.invariant)

pub loop-item-preserved : goal.loop-item-preserved
loop-item-preserved g c = putting-goes (g.C.Change.gives c.args.change.now) (g.T.Datasets.tree c.args.tree.now) (g.T.Datasets.tree c.loop-item.tree) (g.T.Datasets.tree c.replace.new.self) _ c.pop.new.self.items c.in-Some.item c.in-Some.ensures.items c.replace.ensures.tree c.loop-item.invariant

pub returns-clause-ok : goal.returns-clause-ok
returns-clause-ok g c =
    let left : c.pop.new.self.items ≡ [] = c.in_default.ensures.rest ∙ ap (λ (n : ℕ). take (n - 1) c.loop-item.items.items) c.in_default.ensures.cases.0 in
    let none : c.loop-item.items.items ≡ [] = c.in_default.ensures.items ∙ ap (λ (xs : List Item). xs ++ []) left in
    putting-ends (g.C.Change.gives c.args.change.now) (g.T.Datasets.tree c.args.tree.now) (g.T.Datasets.tree c.loop-item.tree) (subst (Putting (g.C.Change.gives c.args.change.now) (g.T.Datasets.tree c.args.tree.now) (g.T.Datasets.tree c.loop-item.tree)) none c.loop-item.invariant)
