use Rattle.std.proofs.Common.{◌≡◌, ◌≤◌, drop}
use Rattle.lua_meaning.specs.Numbers.{number_behind}
use Rattle.lua_ops.proofs.numbers.number_of.Given as goal

abbrev pub invariant-loop-byte : goal.invariant-loop-byte
invariant-loop-byte l = (number_behind l.base l.number (drop l.byte-index l.digits) ≡ number_behind l.base 0 l.digits) × (l.number ≤ 9223372036854775807)
