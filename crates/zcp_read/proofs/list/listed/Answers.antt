use Rattle.std.proofs.Common.{◌≡◌, [], ◌∷◌, ◌++◌, None, ◌∙◌, rules}
use Rattle.zcp_read.specs.Lists.{names_in, names_listed, ComesNext, IsNextName}
use Rattle.zcp_read.proofs.Stepping.{all-given, one-given}
use Rattle.zcp_read.proofs.list.listed.Goals as goal

pub returns-in-None : goal.returns-in-None
returns-in-None g c =
    let all = names_in (g.T.Datasets.tree c.args.tree.now) c.args.kind c.args.item.now in
    let none : IsNextName all c.loop-left.last None = search rules in
    c.from_vec.ensures ∙ all-given all c.loop-left.names.items (names_listed c.args.after.now c.args.limit all) c.loop-left.last c.loop-left.left c.loop-left.invariant none

pub loop-left-preserved : goal.loop-left-preserved
loop-left-preserved g c =
    let all = names_in (g.T.Datasets.tree c.args.tree.now) c.args.kind c.args.item.now in
    let next : ComesNext all c.loop-left.last c.in-Some.name = search rules in
    let more : c.push.new.self.items ≡ c.loop-left.names.items ++ c.in-Some.name ∷ [] = search rules in
    one-given all c.loop-left.names.items c.push.new.self.items (names_listed c.args.after.now c.args.limit all) c.loop-left.last c.in-Some.name c.loop-left.left c.loop-left-test.true c.loop-left.invariant next more
