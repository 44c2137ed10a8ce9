use Rattle.std.proofs.Common.{List, ap, ◌∙◌, sym, subst, ◌+◌}
use Rattle.zp_tree.specs.Tree.{Rises}
use Rattle.zp_tree.specs.Kept.{Kept}
use Rattle.zp_tree.specs.declared.item.Item.{Item}
use Rattle.zp_tree.proofs.Rising.{rises-added}
use Rattle.zp_tree.proofs.plain.PlainTreeDatasets.add.Goals as goal

pub invariant_of-self : goal.invariant_of-self
invariant_of-self c =
    subst (λ (rs : List Item). Rises 0 rs (c.self.inside.next + 1)) (sym c.push_reserved.ensures.items)
    (rises-added 0 c.self.inside.next c.self.inside.records.items c.args.item c.self.invariant (c.requires.next ∙ sym (ap (λ (k : Kept). k.tree.next) c.self.view_is)))
