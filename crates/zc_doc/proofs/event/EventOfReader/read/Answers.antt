use Rattle.std.proofs.Common.{List, ℕ, Some, Err, ap, sym, ◌∙◌, subst, arith}
use Rattle.serde_json.specs.View.{view, items_view}
use Rattle.serde_json.specs.declared.value.Value.{Value}
use Rattle.txg_core.specs.declared.event.Event.{Event}
use Rattle.zc_doc.specs.declared.error.DocError.{DocError}
use Rattle.zc_doc.specs.declared.error.DocError.TheVariants.{BadType}
use Rattle.zc_doc.specs.Reading.{Fails}
use Rattle.zc_doc.specs.Document.{event_at}
use Rattle.zc_doc.proofs.Items.{event-bad}
use Rattle.zc_doc.proofs.event.EventOfReader.read.Goals as goal

pub returns-in_default-as_slice-clause-gives : goal.returns-in_default-as_slice-clause-gives
returns-in_default-as_slice-clause-gives c =
    let is = ap (λ (ws : List Value). Some (items_view ws)) c.as_slice.ensures.value ∙ c.in-Some.ensures in
    let long = c.in_default-as_slice.len_at_least in
    subst (λ (e : DocError). Fails e (event_at c.args.self.now.sessions (view c.args.value.now))) (sym c.bad_type-in_default-as_slice.ensures)
    (event-bad c.args.self.now.sessions (view c.args.value.now) c.as_slice.result.now is (λ e. omega arith) (λ e. omega arith))
