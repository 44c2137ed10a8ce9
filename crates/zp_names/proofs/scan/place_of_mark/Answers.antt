use Rattle.std.proofs.Common.{length, ap, ◌∙◌}
use Rattle.std.specs.Prelude.{unwrap_or}
use Rattle.zp_names.specs.Names.{is_mark}
use Rattle.zp_names.proofs.Places.{first_place}
use Rattle.zp_names.proofs.scan.place_of_mark.Goals as goal

pub returns-clause-place : goal.returns-clause-place
returns-clause-place c = c.unwrap_or.ensures ∙ ap (λ o. unwrap_or o (length c.args.text.now)) c.find_mark.ensures ∙ first_place is_mark c.args.text.now
