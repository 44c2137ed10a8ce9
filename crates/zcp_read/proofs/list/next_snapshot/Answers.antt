use Rattle.zp_tree.specs.Dependents.{is_snapshot_of}
use Rattle.zcp_read.specs.Lists.{names_where, IsNextName}
use Rattle.zcp_read.proofs.NextNames.{ok-as, next_snapshot}
use Rattle.zcp_read.proofs.list.next_snapshot.Goals as goal

pub returns : goal.returns
returns g c =
    let t = g.T.Datasets.tree c.args.tree.now in
    let next = next_snapshot t c.args.head.now c.args.after.now c.snaps_after.result c.requires.well c.requires.there c.snaps_after.ensures in
    ok-as c.name_of_found.result (IsNextName (names_where t.records (is_snapshot_of c.args.head.now.id)) c.args.after.now) _ c.name_of_found.ensures next
