use Rattle.std.proofs.Common.{sym, ap, ◌∙◌}
use Rattle.std.specs.List.{remove, position}
use Rattle.zp_tree.specs.Tree.{has_id}
use Rattle.zp_tree.proofs.Places.{without-remove, some-place, no-place}
use Rattle.zp_tree.proofs.plain.remove_record.Goals as goal

pub returns-in-Some-clause-items : goal.returns-in-Some-clause-items
returns-in-Some-clause-items c =
    let rs = c.args.records.now.items in
    let place = some-place (has_id c.args.id) rs c.in-Some.place (sym c.in-Some.is ∙ c.place_of.ensures ∙ ap (position (has_id c.args.id)) c.as_slice.ensures.value) in
    c.remove.ensures.items ∙ ap (remove rs) place ∙ sym (without-remove c.args.id rs c.requires)

pub returns-in_default-clause-items : goal.returns-in_default-clause-items
returns-in_default-clause-items c =
    absurd (no-place c.args.id c.args.records.now.items c.place_of.result (c.place_of.ensures ∙ ap (position (has_id c.args.id)) c.as_slice.ensures.value) c.in_default.is c.requires)
