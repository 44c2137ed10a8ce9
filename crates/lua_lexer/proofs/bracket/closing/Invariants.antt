use Rattle.std.proofs.Common.{◌≡◌, drop}
use Rattle.lua_lexer.specs.Scan.{closing}
use Rattle.lua_lexer.proofs.BracketSteps.{shifted}
use Rattle.lua_lexer.proofs.bracket.closing.Given as goal

abbrev pub invariant-loop-i : goal.invariant-loop-i
invariant-loop-i l = shifted l.i (closing l.level (drop l.i l.text)) ≡ closing l.level l.text
