use Rattle.std.proofs.Common.{◌≡◌, ◌∙◌, ◌+◌, List, ℕ, None, ap, sym, inl, inr}
use Rattle.zc_doc.specs.declared.error.DocError.{DocError}
use Rattle.zc_doc.specs.declared.error.DocError.TheVariants.{TooLong}
use Rattle.zc_doc.specs.Document.{most_bytes}
use Rattle.zc_offline.specs.declared.status.Status.TheVariants as status
use Rattle.zc_offline.specs.declared.words.Asked.TheVariants.{Check}
use Rattle.zc_online.proofs.RunAt.{run-refused}
use Rattle.zc_offline.specs.Headline.{need_of, IsRefusedFor}
use Rattle.zc_offline.proofs.Answer.{refused-long, refused-so, one-error, there, no-output, explained, refused-explained, stopped-does, took-one-more}
use Rattle.zc_online.proofs.top_call.run.Goals as goal

pub returns-in-Err-TooLong-clause-document : goal.returns-in-Err-TooLong-clause-document
returns-in-Err-TooLong-clause-document g c = λ e same.
    let is = c.in-Err-TooLong.field-0-is in
    let long = c.in-Err-TooLong.ensures.too_long c.in-Err-TooLong.field-0-0 cc in
    refused-so (need_of Check) e (TooLong (most_bytes + 1)) _ same (refused-long (need_of Check) c.in-Err-TooLong.field-0-0 _ _ long.0 long.1)

pub returns-in-Err-TooLong-clause-refused : goal.returns-in-Err-TooLong-clause-refused
returns-in-Err-TooLong-clause-refused g c = λ input e left refused read.
    let is = c.in-Err-TooLong.field-0-is in
    let long = c.in-Err-TooLong.ensures.too_long c.in-Err-TooLong.field-0-0 cc in
    let n = need_of Check in
    let so = there (λ (x : List ℕ). IsRefusedFor n x (TooLong (most_bytes + 1))) _ input left (refused-long n c.in-Err-TooLong.field-0-0 _ _ long.0 long.1) in
    inl (ap (λ (d : DocError). status.BadDocument d) (one-error n input e (TooLong (most_bytes + 1)) refused so))

pub returns-in-Err-TooLong-clause-complete : goal.returns-in-Err-TooLong-clause-complete
returns-in-Err-TooLong-clause-complete g c = λ input left out read write.
    let is = c.in-Err-TooLong.field-0-is in
    let long = c.in-Err-TooLong.ensures.too_long c.in-Err-TooLong.field-0-0 cc in
    let n = need_of Check in
    let so = there (λ (x : List ℕ). IsRefusedFor n x (TooLong (most_bytes + 1))) _ input left (refused-long n c.in-Err-TooLong.field-0-0 _ _ long.0 long.1) in
    absurd (no-output Check input (TooLong (most_bytes + 1)) so out)

pub returns-in-Err-clause-complete : goal.returns-in-Err-clause-complete
returns-in-Err-clause-complete g c = λ input left out read write.
    let all = there (λ (x : List ℕ). c.in-Ok.bytes.items ≡ x) _ input left c.in-Ok.ensures.all in
    explained Check input c.as_slice.result.now c.in-Err.status (c.as_slice.ensures.value ∙ all) out c.in-Err.ensures

pub returns-in-Err-TooLong-clause-ended : goal.returns-in-Err-TooLong-clause-ended
returns-in-Err-TooLong-clause-ended g c =
    let is = c.in-Err-TooLong.field-0-is in
    let long = c.in-Err-TooLong.ensures.too_long c.in-Err-TooLong.field-0-0 cc in
    inr (took-one-more c.in-Err-TooLong.field-0-0 _ _ long.0 long.1)

pub returns-in-Err-clause-refused : goal.returns-in-Err-clause-refused
returns-in-Err-clause-refused g c = λ input e left refused read.
    let all = there (λ (x : List ℕ). c.in-Ok.bytes.items ≡ x) _ input left c.in-Ok.ensures.all in
    refused-explained Check input c.as_slice.result.now e c.in-Err.status (c.as_slice.ensures.value ∙ all) refused c.in-Err.ensures

pub returns-in-Ok-write_all-clause-refused : goal.returns-in-Ok-write_all-clause-refused
returns-in-Ok-write_all-clause-refused g c = λ input e left refused read.
    let all = there (λ (x : List ℕ). c.in-Ok.bytes.items ≡ x) _ input left c.in-Ok.ensures.all in
    absurd (run-refused input c.as_slice.result.now _ e (c.as_slice.ensures.value ∙ all) refused c.in-Ok-run_document.ensures)

pub returns-clause-refused : goal.returns-clause-refused
returns-clause-refused g c = λ input e left refused read.
    let all = there (λ (x : List ℕ). c.in-Ok.bytes.items ≡ x) _ input left c.in-Ok.ensures.all in
    absurd (run-refused input c.as_slice.result.now _ e (c.as_slice.ensures.value ∙ all) refused c.in-Ok-run_document.ensures)

pub returns-in-Err-clause-schedule : goal.returns-in-Err-clause-schedule
returns-in-Err-clause-schedule g c = λ i same. stopped-does Check c.as_slice.result.now c.in-Err.status i c.in-Err.ensures same
