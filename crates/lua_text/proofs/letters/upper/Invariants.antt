use Rattle.std.proofs.Common.{◌≡◌, map, take}
use Rattle.lua_text.specs.Letters.{upper_of}
use Rattle.lua_text.proofs.letters.upper.Given as goal

abbrev pub invariant-loop-byte : goal.invariant-loop-byte
invariant-loop-byte l = l.made.items ≡ map upper_of (take l.byte-index l.text)
