use Rattle.std.proofs.Common.{sym}
use Rattle.lua_text.proofs.Repeats.{length_repeated, no_time}
use Rattle.lua_text.proofs.repeating.repeated_bytes.Goals as goal

pub returns-then-count-eq0 : goal.returns-then-count-eq0
returns-then-count-eq0 c = no_time c.args.count c.args.text.now c.args.separator.now c.if-count-eq0.true

pub returns : goal.returns
returns c = sym (length_repeated c.args.count c.args.text.now c.args.separator.now)
