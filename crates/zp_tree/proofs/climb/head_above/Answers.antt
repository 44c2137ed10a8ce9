use Rattle.std.proofs.Common.{ℕ, List, sym, ap, ◌∙◌, find, option_and_then}
use Rattle.zp_tree.specs.Tree.{as_head}
use Rattle.zp_tree.specs.Climbing.{is_head_called}
use Rattle.zp_tree.proofs.Nearest.{above_is}
use Rattle.zp_tree.proofs.climb.head_above.Goals as goal

pub returns : goal.returns
returns c =
    let rs = c.args.records.now in
    above_is rs c.requires.tree c.args.head.now c.requires.there c.in_ok-parent.parent.now (sym c.in_ok-parent.ensures.parent) c.head_called.result
    (c.head_called.ensures ∙ ap (λ (n : List ℕ). option_and_then as_head (find (is_head_called n) rs)) c.as_bytes.ensures.value)
