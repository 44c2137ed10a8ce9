use Rattle.std.proofs.Common.{◌≡◌, All, drop, length}
use Rattle.serde_json.specs.View.{items_view}
use Rattle.zc_doc.specs.Reading.{items_from}
use Rattle.zc_doc.proofs.Items.{with_front}
use Rattle.zc_doc.proofs.reading.read_items.Given as goal

-- what was found so far, before what is left
abbrev pub invariant-loop-place : goal.invariant-loop-place
invariant-loop-place g l =
    let reads = g.R.Reader.reads l.item in
    (with_front l.found.items (items_from reads l.place (items_view (drop l.place l.values))) ≡ items_from reads 0 (items_view l.values))
    × (length l.found.items ≡ l.place)
    × All (g.R.Reader.Holds l.item) l.found.items
