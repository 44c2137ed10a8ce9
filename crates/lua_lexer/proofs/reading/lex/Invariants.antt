use Rattle.std.proofs.Common.{◌-◌, length}
use Rattle.lua_lexer.proofs.LexSteps.{SoFar}
use Rattle.lua_lexer.proofs.reading.lex.Given as goal

abbrev pub invariant-pieces : goal.invariant-pieces
invariant-pieces l = SoFar l.text l.at l.tokens.items l.line

abbrev pub decreases-pieces : goal.decreases-pieces
decreases-pieces l = length l.text - l.at
