use Rattle.std.proofs.Common.{◌∙◌, ◌∷◌}
use Rattle.zp_tree.proofs.Places.{none-joined, some-joined}
use Rattle.zp_tree.proofs.plain.is_joined.Goals as goal

pub returns-in-Some : goal.returns-in-Some
returns-in-Some c = c.is_marked.ensures ∙ some-joined c.args.owner.now (c.args.mark ∷ c.args.short.now) c.args.name.now c.in-Some.rest.now c.in-Some.ensures.cases.0 c.in-Some.ensures.cases.1

pub returns-in-None : goal.returns-in-None
returns-in-None c = none-joined c.args.owner.now (c.args.mark ∷ c.args.short.now) c.args.name.now c.in-None.ensures.cases
