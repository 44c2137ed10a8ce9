use Rattle.std.proofs.Common.{◌≡◌, take}
use Rattle.lua_coroutines.proofs.call.all_copied.Given as goal

abbrev pub invariant-loop-local : goal.invariant-loop-local
invariant-loop-local l = l.copies.items ≡ take l.local-index l.locals
