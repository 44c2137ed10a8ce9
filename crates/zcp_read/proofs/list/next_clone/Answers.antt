use Rattle.zp_tree.specs.Dependents.{is_clone_of}
use Rattle.zcp_read.specs.Lists.{names_where, IsNextName}
use Rattle.zcp_read.proofs.NextNames.{ok-as, next_clone}
use Rattle.zcp_read.proofs.list.next_clone.Goals as goal

pub returns : goal.returns
returns g c =
    let t = g.T.Datasets.tree c.args.tree.now in
    let next = next_clone t c.args.snapshot.now c.args.after.now c.clones_after.result c.requires c.clones_after.ensures in
    ok-as c.name_of_found.result (IsNextName (names_where t.records (is_clone_of c.args.snapshot.now.id)) c.args.after.now) _ c.name_of_found.ensures next
