use Rattle.std.proofs.Common.{◌≡◌, drop}
use Rattle.lua_values.specs.Start.{functions, with_pairs}
use Rattle.lua_values.proofs.start.put_functions.Given as goal

-- the functions that are left, put behind those so far, give all
abbrev pub invariant-loop-builtin : goal.invariant-loop-builtin
invariant-loop-builtin l = record {
  told : with_pairs l.table.pairs (functions l.name (drop l.builtin-index l.builtins)) ≡ with_pairs l.fn.table.pairs (functions l.name l.builtins);
  meta : l.table.meta ≡ l.fn.table.meta;
}
