use Rattle.std.proofs.Common.{◌≡◌, sym, subst, rules}
use Rattle.zp_tree.specs.Tree.{Tree}
use Rattle.zp_tree.specs.NewPool.{new_pool}
use Rattle.zp_tree.specs.WellFormed.{IsWellFormed}
use Rattle.zp_tree.proofs.NewPoolLaw.{new-pool-well}
use Rattle.zp_tree.proofs.plain.PlainTree.new.Goals as goal

pub returns-clause-well : goal.returns-clause-well
returns-clause-well c =
    let is : ◌≡◌ {A = Tree} (record { records = c.push.new.self.items; next = 2 }) (new_pool c.args.pool.now) = search rules in
    subst IsWellFormed (sym is) (new-pool-well c.args.pool.now c.copy.ensures.valid c.requires)
