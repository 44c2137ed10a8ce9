use Rattle.std.proofs.Common.{◌≡◌, map, take}
use Rattle.lua_text.specs.Letters.{lower_of}
use Rattle.lua_text.proofs.letters.lower.Given as goal

abbrev pub invariant-loop-byte : goal.invariant-loop-byte
invariant-loop-byte l = l.made.items ≡ map lower_of (take l.byte-index l.text)
