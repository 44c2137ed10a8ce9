use Rattle.std.proofs.Common.{◌≡◌, take}
use Rattle.lua_values.proofs.list.ValueList.from_slice.Given as goal

abbrev pub invariant-loop-value : goal.invariant-loop-value
invariant-loop-value l = l.items.items ≡ take l.value-index l.values
