use Rattle.std.proofs.Common.{◌≡◌, ℕ, ap, ◌∙◌, refl, Option, Some, None, IfSome}
use Rattle.std.specs.Prelude.{option_and_then}
use Rattle.zp_tree.specs.Tree.{as_head}
use Rattle.zp_tree.specs.declared.item.Item.TheVariants.{Head, Snap, Mark}
use Rattle.zc_reply.proofs.record.record_value.Goals as goal

-- what holds of each value that is there
each : (o : Option ℕ) (P : ℕ → Type 0) → ((i : ℕ) → o ≡ Some i → P i) → IfSome o P
each None P h = tt
each (Some i) P h = h i refl

pub origin_value-requires-clause-there : goal.origin_value-requires-clause-there
origin_value-requires-clause-there g c =
    each _ _ (λ o is. c.requires.agrees.origins _ o c.in-Head.head (ap (option_and_then as_head) (c.requires.there ∙ ap Some c.in-Head.is)) is)

pub head_value-requires : goal.head_value-requires
head_value-requires g c = (c.requires.agrees.records _ (Head c.in-Head.head) (c.requires.there ∙ ap Some c.in-Head.is)).settings

pub snapshot_name-requires-clause-short : goal.snapshot_name-requires-clause-short
snapshot_name-requires-clause-short g c = (c.requires.agrees.records _ (Snap c.in-Snap.snapshot) (c.requires.there ∙ ap Some c.in-Snap.is)).short

pub snapshot_value-requires : goal.snapshot_value-requires
snapshot_value-requires g c = c.requires.agrees.records _ (Snap c.in-Snap.snapshot) (c.requires.there ∙ ap Some c.in-Snap.is)

pub bookmark_name-requires-clause-short : goal.bookmark_name-requires-clause-short
bookmark_name-requires-clause-short g c = c.requires.agrees.records _ (Mark c.in-Mark.bookmark) (c.requires.there ∙ ap Some c.in-Mark.is)
