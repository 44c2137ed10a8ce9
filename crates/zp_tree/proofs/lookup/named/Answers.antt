use Rattle.std.proofs.Common.{ℕ, Option, ◌∙◌, subst}
use Rattle.zp_tree.specs.Tree.{Finds}
use Rattle.zp_tree.proofs.FullNames.{finds-named}
use Rattle.zp_tree.proofs.Looks.{lent-there}
use Rattle.zp_tree.proofs.lookup.named.Goals as goal

pub returns-clause-named : goal.returns-clause-named
returns-clause-named g c =
    let t = g.T.Datasets.tree c.args.tree.now in
    c.item.ensures ∙ finds-named t c.args.name.now c.in_ok-id.id c.requires (subst (λ (o : Option ℕ). Finds t.records c.args.name.now o) c.in_ok-id.was c.find.ensures)

pub returns-clause-there : goal.returns-clause-there
returns-clause-there g c =
    let t = g.T.Datasets.tree c.args.tree.now in
    lent-there c.in_ok-id.id t.records c.item.result c.item.ensures
