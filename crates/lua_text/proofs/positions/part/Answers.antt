use Rattle.std.proofs.Common.{rules}
use Rattle.lua_text.proofs.Parts.{part_is, part_is_none}
use Rattle.lua_text.proofs.positions.part.Goals as goal

pub returns-then-start-end : goal.returns-then-start-end
returns-then-start-end c = part_is c.args.text.now c.args.first c.args.last _ _ c.bytes_before-start.result c.bytes_up_to-end.result (search rules) (search rules) c.bytes_before-start.ensures.places c.bytes_up_to-end.ensures.places

pub returns-else-start-end : goal.returns-else-start-end
returns-else-start-end c = part_is_none c.args.text.now c.args.first c.args.last _ _ c.bytes_before-start.result c.bytes_up_to-end.result (search rules) (search rules) c.bytes_before-start.ensures.places c.bytes_up_to-end.ensures.places c.if-start-end.false
