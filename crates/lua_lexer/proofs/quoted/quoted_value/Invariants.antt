use Rattle.std.proofs.Common.{◌≡◌, ◌≤◌, ◌<◌, ◌+◌, ◌-◌, ◌++◌, length, get_or}
use Rattle.lua_lexer.specs.Values.{bytes_from}
use Rattle.lua_lexer.proofs.quoted.quoted_value.Given as goal

abbrev pub invariant-loop-part : goal.invariant-loop-part
invariant-loop-part l = (l.out.items ++ bytes_from (length l.text + 1 - l.part) (get_or l.text 0 0) l.text l.at ≡ bytes_from (length l.text + 1) (get_or l.text 0 0) l.text 1) × (0 < l.at) × (l.at ≤ length l.text) × (l.quote ≡ get_or l.text 0 0)
