use Rattle.std.proofs.Common.{◌≡◌, ◌≤◌, ◌<◌, ◌+◌, ◌-◌, length}
use Rattle.lua_lexer.specs.Scan.{quoted_from}
use Rattle.lua_lexer.proofs.quoted.quoted.Given as goal

abbrev pub invariant-loop-part : goal.invariant-loop-part
invariant-loop-part l = (quoted_from (length l.text + 1 - l.part) l.quote l.text l.at ≡ quoted_from (length l.text + 1) l.quote l.text 1) × (0 < l.at) × (l.at ≤ length l.text)
