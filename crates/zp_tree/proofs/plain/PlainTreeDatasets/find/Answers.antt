use Rattle.std.proofs.Common.{ℕ, Some, List, ap, ◌∙◌, sym, subst}
use Rattle.zp_tree.specs.Tree.{Finds, Rises, named}
use Rattle.zp_tree.specs.Kept.{Kept}
use Rattle.zp_tree.specs.declared.item.Item.{Item}
use Rattle.zp_tree.proofs.Looks.{finds-first}
use Rattle.zp_tree.proofs.plain.PlainTreeDatasets.find.Goals as goal

pub returns-in-Some : goal.returns-in-Some
returns-in-Some c =
    let t = c.args.self.now.tree in
    let name = c.args.name.now in
    let rises = subst (λ (k : Kept). Rises 0 k.tree.records k.tree.next) c.self.view_is c.self.invariant in
    let is = c.in-Some.ensures ∙ ap (λ (rs : List Item). named rs c.as_bytes.result.now) (c.as_slice.ensures.value ∙ ap (λ (k : Kept). k.tree.records) c.self.view_is) ∙ ap (named t.records) (c.as_bytes.ensures.value ∙ c.text.ensures.text) in
    subst (λ (i : ℕ). Finds t.records name (Some i)) (sym c.id.ensures) (finds-first t.records name t.next (Some c.in-Some.item.now) rises is)

pub returns-in-None : goal.returns-in-None
returns-in-None c =
    let t = c.args.self.now.tree in
    sym (c.in-None.ensures ∙ ap (λ (rs : List Item). named rs c.as_bytes.result.now) (c.as_slice.ensures.value ∙ ap (λ (k : Kept). k.tree.records) c.self.view_is) ∙ ap (named t.records) (c.as_bytes.ensures.value ∙ c.text.ensures.text))
