use Rattle.std.proofs.Common.{List, None, fold, sym, ap, subst, ◌∙◌}
use Rattle.zp_tree.specs.declared.item.Hold.{Hold}
use Rattle.zcp_read.specs.Lists.{tags_of, better_hold, IsNextName}
use Rattle.zcp_read.proofs.NextNames.{ok-as}
use Rattle.zcp_read.proofs.Going.{next_hold}
use Rattle.zcp_read.proofs.user_names.next_tag.Goals as goal

pub returns : goal.returns
returns c =
    let next = IsNextName (tags_of c.args.snapshot.now) c.args.after.now in
    let is = c.best_tag.ensures ∙ ap (λ (hs : List Hold). fold (better_hold c.args.after.now) None hs) c.as_slice.ensures in
    ok-as c.copied.result next _ c.copied.ensures (subst next (sym is) (next_hold c.args.snapshot.now.holds c.args.after.now))
