use Rattle.std.proofs.Common.{◌≡◌}
use Rattle.lua_text.specs.Repeating.{repeated}
use Rattle.lua_text.proofs.repeating.repeated.Given as goal

abbrev pub invariant-loop-turn : goal.invariant-loop-turn
invariant-loop-turn l = l.made.items ≡ repeated l.turn l.text l.separator
