use Rattle.std.proofs.Common.{List, [], ℕ, Some, Err, ap, sym, subst, ◌∙◌, cond, length}
use Rattle.std.proofs.lemmas.Bool.{lt-ltb, le-ltb}
use Rattle.serde_json.specs.View.{view, items_view}
use Rattle.serde_json.specs.declared.value.Value.{Value}
use Rattle.zc_doc.specs.declared.error.DocError.TheVariants.{TooMany}
use Rattle.zc_doc.specs.Reading.{Gives, items_from}
use Rattle.zc_doc.proofs.Items.{array-is}
use Rattle.zc_doc.proofs.reading.ArrayOfReader.read.Goals as goal

pub returns-then-self-count-clause-gives : goal.returns-then-self-count-clause-gives
returns-then-self-count-clause-gives g c =
    let reads = g.R.Reader.reads c.args.self.now.item in
    let vs = c.as_slice-list.result.now in
    let is = ap (λ (ws : List Value). Some (items_view ws)) c.as_slice-list.ensures.value ∙ c.in-Some.ensures in
    array-is c.args.self.now.limit reads (view c.args.value.now) vs is
    ∙ ap (λ b. cond b (Err (TooMany [] (length vs))) (items_from reads 0 (items_view vs))) (lt-ltb c.args.self.now.limit (length vs) c.if-self-count.true)
    ∙ ap (λ (path : List ℕ). Err (TooMany path (length vs))) (sym c.whole.ensures)

pub returns-clause-gives : goal.returns-clause-gives
returns-clause-gives g c =
    let reads = g.R.Reader.reads c.args.self.now.item in
    let vs = c.as_slice-list.result.now in
    let is = ap (λ (ws : List Value). Some (items_view ws)) c.as_slice-list.ensures.value ∙ c.in-Some.ensures in
    subst (Gives c.read_items.result)
    (sym (array-is c.args.self.now.limit reads (view c.args.value.now) vs is
    ∙ ap (λ b. cond b (Err (TooMany [] (length vs))) (items_from reads 0 (items_view vs))) (le-ltb c.args.self.now.limit (length vs) c.if-self-count.false)))
    c.read_items.ensures.gives
