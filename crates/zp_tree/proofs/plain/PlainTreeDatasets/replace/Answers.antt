use Rattle.std.proofs.Common.{List, sym, subst}
use Rattle.zp_tree.specs.Tree.{Rises}
use Rattle.zp_tree.specs.declared.item.Item.{Item}
use Rattle.zp_tree.proofs.Rising.{rises-put}
use Rattle.zp_tree.proofs.plain.PlainTreeDatasets.replace.Goals as goal

pub invariant_of-self : goal.invariant_of-self
invariant_of-self c = subst (λ (rs : List Item). Rises 0 rs c.self.inside.next) (sym c.replace_record.ensures.items) (rises-put 0 c.self.inside.next c.args.item c.self.inside.records.items c.self.invariant)
