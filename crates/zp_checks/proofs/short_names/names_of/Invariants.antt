use Rattle.std.proofs.Common.{◌≡◌, ◌≤◌, length, drop}
use Rattle.std.specs.List.{filter_map}
use Rattle.zp_tree.specs.ShortNames.{short_name_if, in_byte_order}
use Rattle.zp_checks.proofs.short_names.names_of.Given as goal

-- the names of the records from this place on
abbrev pub invariant-loop-place : goal.invariant-loop-place
invariant-loop-place g l =
    let rs = (g.T.Datasets.tree l.tree).records in
    (l.place ≤ length rs) × (l.names ≡ in_byte_order (filter_map (short_name_if (g.P.Passing.passes l.passing)) (drop l.place rs)))

abbrev pub decreases-loop-place : goal.decreases-loop-place
decreases-loop-place g l = l.place
