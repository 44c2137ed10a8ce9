use Rattle.std.proofs.Common.{sym, ap, ◌∙◌, slice_set}
use Rattle.std.specs.List.{position, position_or_len}
use Rattle.zp_tree.specs.Tree.{has_id}
use Rattle.zp_tree.proofs.Places.{put-set, some-place, no-place}
use Rattle.zp_tree.proofs.plain.replace_record.Goals as goal

pub returns-in-Some-clause-items : goal.returns-in-Some-clause-items
returns-in-Some-clause-items c =
    let rs = c.args.records.now.items in
    let x = c.args.item in
    let place = some-place (has_id c.args.id) rs c.in-Some.place (sym c.in-Some.is ∙ c.place_of.ensures ∙ ap (position (has_id c.args.id)) c.as_slice.ensures.value) in
    ap (λ i. slice_set rs i x) (place ∙ ap (λ i. position_or_len (has_id i) rs) (sym c.requires.same)) ∙ sym (put-set x rs)

pub returns-in_default-clause-items : goal.returns-in_default-clause-items
returns-in_default-clause-items c =
    absurd (no-place c.args.id c.args.records.now.items c.place_of.result (c.place_of.ensures ∙ ap (position (has_id c.args.id)) c.as_slice.ensures.value) c.in_default.is c.requires.there)
