use Rattle.std.proofs.Common.{refl, ◌∙◌}
use Rattle.zc_doc.specs.declared.document.Need.TheVariants.{Any}
use Rattle.zc_offline.specs.declared.words.Asked.TheVariants.{Check}
use Rattle.zc_offline.proofs.Answer.{whole, answered}
use Rattle.zc_online.proofs.running.read_input.Goals as goal

pub returns-in-Ok-clause-document : goal.returns-in-Ok-clause-document
returns-in-Ok-clause-document c = whole Any c.args.bytes.now c.requires ∙ c.in-Ok.ensures.document

pub returns-in-Err-clause-refused : goal.returns-in-Err-clause-refused
returns-in-Err-clause-refused c =
    answered Check Any c.args.bytes.now c.in-Err.error c.refusal_status.result refl c.requires c.refusal_status.ensures c.in-Err.ensures.document
