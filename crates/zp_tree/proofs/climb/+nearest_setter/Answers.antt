use Rattle.std.proofs.Common.{sym, ◌∙◌, arith}
use Rattle.zp_tree.proofs.Nearest.{nearest_here, nearest_above, nearest_top, shorter_above}
use Rattle.zp_tree.proofs.climb.+nearest_setter.Goals as goal

pub returns-then-holds_property : goal.returns-then-holds_property
returns-then-holds_property t c = sym (nearest_here c.args.records.now c.requires.tree c.args.property.now c.args.head.now c.requires.there (sym c.if-holds_property.ensures))

pub nearest_setter-requires : goal.nearest_setter-requires
nearest_setter-requires t c = let less = shorter_above c.args.head.now.name c.in-Some.above.now.name c.in-Some.ensures.0 in (omega arith, (c.requires.tree, c.in-Some.ensures.1))

pub returns-in-Some : goal.returns-in-Some
returns-in-Some t c = c.nearest_setter.ensures ∙ sym (nearest_above c.args.records.now c.requires.tree c.args.property.now c.args.head.now c.in-Some.above.now.name c.requires.there (sym c.if-holds_property.ensures) c.in-Some.ensures.0)

pub returns-in-None : goal.returns-in-None
returns-in-None t c = sym (nearest_top c.args.records.now c.requires.tree c.args.property.now c.args.head.now c.requires.there (sym c.if-holds_property.ensures) c.in-None.ensures)
