use Rattle.std.proofs.Common.{rules}
use Rattle.lua_text.specs.Repeating.{repeated}
use Rattle.lua_text.proofs.Repeats.{first_time, next_time}
use Rattle.lua_text.proofs.repeating.repeated.Goals as goal
use Rattle.lua_text.proofs.repeating.repeated.Goals.{then-turn-gt0+in_ok-extend_from_slice, else-turn-gt0}

pub loop-turn-init : goal.loop-turn-init
unfolding repeated
loop-turn-init c = c.new-made.ensures.items

pub loop-turn-preserved : goal.loop-turn-preserved
loop-turn-preserved c = elim c.if-turn-gt0.branch [
  | then-turn-gt0+in_ok-extend_from_slice w ↦ search (rules, next_time c.loop-turn.turn c.args.text.now c.args.separator.now c.loop-turn.made.items)
  | else-turn-gt0 w ↦ search (rules, first_time c.loop-turn.turn c.args.text.now c.args.separator.now c.loop-turn.made.items)
]
