use Rattle.std.proofs.Common.{◌∙◌}
use Rattle.zp_tree.proofs.Looks.{finds-some}
use Rattle.zp_tree.proofs.lookup.exists.Goals as goal

pub returns : goal.returns
returns g c = c.is_some.ensures ∙ finds-some (g.T.Datasets.tree c.args.tree.now).records c.args.name.now c.find.result c.find.ensures
