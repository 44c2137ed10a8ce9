use Rattle.std.proofs.Common.{◌≡◌, drop}
use Rattle.lua_values.specs.Start.{named_numbers, with_pairs}
use Rattle.lua_values.proofs.start.put_numbers.Given as goal

-- the numbers that are left, put behind those so far, give all
abbrev pub invariant-loop-name : goal.invariant-loop-name
invariant-loop-name l = record {
  told : with_pairs l.table.pairs (named_numbers (drop l.name-index l.values)) ≡ with_pairs l.fn.table.pairs (named_numbers l.values);
  meta : l.table.meta ≡ l.fn.table.meta;
}
