use Rattle.std.proofs.Common.{◌≡◌, sym, subst, rules}
use Rattle.zp_tree.specs.Destroy.{without_head}
use Rattle.zp_tree.specs.WellFormed.{AreRecords}
use Rattle.zp_changes.proofs.WithoutHead.{records_left}
use Rattle.zp_changes.proofs.destroy.remove_head.Goals as goal

pub returns-clause-records : goal.returns-clause-records
returns-clause-records g c =
    let t = g.T.Datasets.tree c.args.tree.now in
    let is : g.T.Datasets.tree c.remove.new.self ≡ without_head t c.args.id = search rules in
    subst AreRecords (sym is) (records_left t c.args.id c.requires.records)
