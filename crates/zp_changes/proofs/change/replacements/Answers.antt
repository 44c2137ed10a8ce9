use Rattle.zp_changes.proofs.Whole.{changed-up-to, lent-relied}
use Rattle.zp_changes.proofs.change.replacements.Goals as goal

pub push_changed-requires : goal.push_changed-requires
push_changed-requires g c = lent-relied (g.C.Change.relies c.args.change.now) (g.T.Datasets.tree c.args.tree.now).records c.loop-place.place _ c.nth.ensures c.requires

pub loop-place-preserved : goal.loop-place-preserved
loop-place-preserved g c = changed-up-to (g.C.Change.gives c.args.change.now) (g.T.Datasets.tree c.args.tree.now).records c.loop-place.place _ _ _ c.nth.ensures c.loop-place.invariant c.in_ok-push_changed.ensures
