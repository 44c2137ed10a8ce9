use Rattle.std.proofs.Common.{◌∙◌, sym, ap, map, option_map, Bor, arith}
use Rattle.zp_tree.specs.declared.item.Item.{Item}
use Rattle.serde_json.specs.Data.{array}
use Rattle.serde_json.specs.View.{view, items_of}
use Rattle.serde_json.proofs.Views.{view-Array}
use Rattle.zc_reply.specs.Records.{record_data}
use Rattle.zc_reply.proofs.Ordered.{none_below, all_below, found_there, passed, passed_none}
use Rattle.zc_reply.proofs.record.records_value.Goals as goal
use Rattle.zc_reply.proofs.record.records_value.Goals.{in-Some+in_ok-record_value+in_ok-push, in_default}

pub loop-id-init : goal.loop-id-init
loop-id-init g c =
    let records = (g.T.Datasets.tree c.args.tree.now).records in
    ap (map view) c.new-values.ensures.items ∙ sym (ap (map (record_data records)) (none_below 0 0 _ records (omega arith) c.requires.rises))

pub record_value-requires-clause-there : goal.record_value-requires-clause-there
record_value-requires-clause-there g c =
    found_there c.loop-id.id (g.T.Datasets.tree c.args.tree.now).records c.in-Some.item.now c.in-Some.ensures

pub loop-id-preserved : goal.loop-id-preserved
loop-id-preserved g c =
    let records = (g.T.Datasets.tree c.args.tree.now).records in
    elim c.match-item.branch [
      | in-Some+in_ok-record_value+in_ok-push w ↦
          ap (λ v. map view v.items) w.values-is ∙ ap (map view) w.in_ok-push.ensures.items ∙
          passed (record_data records) c.loop-id.values.items _ c.loop-id.id _ records w.in-Some.item.now c.requires.rises w.in-Some.ensures c.loop-id.invariant w.in_ok-record_value.ensures
      | in_default w ↦
          ap (λ v. map view v.items) w.values-is ∙ c.loop-id.invariant ∙ ap (map (record_data records)) (passed_none c.loop-id.id _ records c.requires.rises (sym c.item.ensures ∙ ap (option_map (λ (r : Bor Item). r.now)) w.in_default.is))
    ]

pub returns : goal.returns
returns g c =
    let t = g.T.Datasets.tree c.args.tree.now in
    view-Array c.loop-id.values ∙ ap (λ ds. array (items_of ds)) (c.loop-id.invariant ∙ ap (map (record_data t.records)) (all_below c.loop-id.id 0 t.next t.records (omega arith) c.requires.rises))
