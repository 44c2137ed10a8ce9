use Rattle.std.proofs.Common.{◌≡◌, ◌≤◌, drop}
use Rattle.lua_lexer.specs.Numerals.{value_from}
use Rattle.lua_lexer.proofs.numeral.value_of.Given as goal

abbrev pub invariant-loop-b : goal.invariant-loop-b
invariant-loop-b l = (value_from l.base l.value (drop l.b-index l.digits) ≡ value_from l.base 0 l.digits) × (l.value ≤ 9223372036854775807)
