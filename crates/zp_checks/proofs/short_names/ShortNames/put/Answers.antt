use Rattle.std.proofs.Common.{◌∙◌, ap, map, ℕ, List}
use Rattle.std.specs.Ordering.{nat_cmp}
use Rattle.std.specs.Cmp.Lexicographic.{slice_cmp}
use Rattle.std.specs.BTreeSet.{insert_key}
use Rattle.zp_checks.proofs.Naming.{named-more}
use Rattle.zp_checks.proofs.short_names.ShortNames.put.Goals as goal

pub returns : goal.returns
returns c =
    ap (map (λ k. k.items)) c.in_ok-insert.ensures.keys ∙ named-more c.self.inside.names.keys c.in_ok-name.name
    ∙ ap (λ (names : List (List ℕ)). insert_key (slice_cmp nat_cmp) names c.in_ok-name.name.items) c.self.view_is
    ∙ ap (insert_key (slice_cmp nat_cmp) c.args.self.now) c.in_ok-name.ensures.items
