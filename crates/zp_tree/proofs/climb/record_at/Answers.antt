use Rattle.zp_tree.proofs.Looks.{lent-there}
use Rattle.zp_tree.proofs.climb.record_at.Goals as goal

pub returns-clause-there : goal.returns-clause-there
returns-clause-there c = lent-there c.args.id c.args.records.now c.item_at.result c.item_at.ensures
