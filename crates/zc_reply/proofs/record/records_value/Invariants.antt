use Rattle.std.proofs.Common.{◌≡◌, map, filter}
use Rattle.serde_json.specs.View.{view}
use Rattle.zc_reply.specs.Records.{record_data}
use Rattle.zc_reply.proofs.Ordered.{is_below}
use Rattle.zc_reply.proofs.record.records_value.Given as goal

abbrev pub invariant-loop-id : goal.invariant-loop-id
invariant-loop-id g l =
    let records = (g.T.Datasets.tree l.tree).records in
    map view l.values.items ≡ map (record_data records) (filter (is_below l.id) records)
