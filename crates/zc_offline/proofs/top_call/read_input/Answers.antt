use Rattle.std.proofs.Common.{ap, sym, ◌∙◌}
use Rattle.zc_doc.specs.declared.document.Need.{Need}
use Rattle.zc_doc.specs.Document.{document_of}
use Rattle.zc_offline.specs.Headline.{need_of}
use Rattle.zc_offline.proofs.Answer.{whole, answered}
use Rattle.zc_offline.proofs.top_call.read_input.Goals as goal

pub returns-in-Ok-clause-document : goal.returns-in-Ok-clause-document
returns-in-Ok-clause-document c =
    whole (need_of c.args.asked.now) c.args.bytes.now c.requires
    ∙ ap (λ (n : Need). document_of n c.args.bytes.now) (sym c.need.ensures)
    ∙ c.in-Ok.ensures.document

pub returns-in-Err-clause-refused : goal.returns-in-Err-clause-refused
returns-in-Err-clause-refused c =
    answered c.args.asked.now c.need.result c.args.bytes.now c.in-Err.error c.refusal_status.result (sym c.need.ensures) c.requires c.refusal_status.ensures c.in-Err.ensures.document
