use Rattle.std.proofs.Common.{◌∷◌, [], ◌∙◌}
use Rattle.zp_names.proofs.Places.{no_start, start_and_rest}
use Rattle.zp_names.proofs.name.goes_on.Goals as goal

pub returns-in-Some : goal.returns-in-Some
returns-in-Some c = c.starts_with.ensures.value ∙ start_and_rest c.args.start.now (47 ∷ []) c.args.text.now c.in-Some.rest.now c.in-Some.ensures.cases.0 c.in-Some.ensures.cases.1

pub returns-in-None : goal.returns-in-None
returns-in-None c = no_start c.args.start.now (47 ∷ []) c.args.text.now c.in-None.ensures.cases
