-- A walk of a table, a pair at a time (`next` of the Lua 5.2 manual, 6.1). This project's own: each place that is skipped is one instruction.
use Rattle.std.specs.Prelude.{◌≡◌, ℕ, ◌+◌, ◌<◌, ◌≤◌, Bool, false, Option, Some, None}
use Rattle.zc_budget.specs.Used.{Used}
use Rattle.zc_budget.specs.declared.budget.Stop.TheVariants as stop
use Rattle.lua_meaning.specs.declared.value.Value.{Value}
use Rattle.lua_meaning.specs.Values.{is_nil}
use Rattle.lua_meaning.specs.Tables.{Pairs, pairs_behind, skipped, next_pair}
use Rattle.lua_values.specs.declared.fault.HeapFault.{HeapFault}
use Rattle.lua_values.specs.declared.fault.HeapFault.TheVariants as fault

-- nil stands at the place where this pair is
abbrev pub is_gap_at : Option (Value × Value) → Bool
is_gap_at None = false
is_gap_at (Some p) = is_nil p.1

-- n instructions more
abbrev pub ticked_by : ℕ → Used → Used
ticked_by n u = record u { instructions = u.instructions + n }

-- all instructions
abbrev pub spent : Used → Used
spent u = record u { instructions = u.most_instructions }

-- The walk came from a key to this pair, or to the end.
pub record WalksTo (ps : Pairs) (k : Value) (before : Used) (found : Option (Value × Value)) (after : Used) : Type 0 where
  pub rest : Pairs
  pub behind : pairs_behind ps k ≡ Some rest
  pub pair : found ≡ next_pair rest
  pub enough : before.instructions + skipped rest ≤ before.most_instructions
  pub used : after ≡ ticked_by (skipped rest) before

-- It ran out of instructions among the places that it skips.
pub record WalkStops (ps : Pairs) (k : Value) (before after : Used) : Type 0 where
  pub rest : Pairs
  pub behind : pairs_behind ps k ≡ Some rest
  pub short : before.most_instructions < before.instructions + skipped rest
  pub used : after ≡ spent before

-- It had no answer: the instructions ran out, the key was never put, or memory was wanting for what it found.
abbrev pub WalkFails : (ps : Pairs) (k : Value) (before : Used) → HeapFault → (after : Used) → Type 0
WalkFails ps k before (fault.Stop s) after = (s ≡ stop.Instructions) × WalkStops ps k before after
WalkFails ps k before fault.UnknownKey after = (pairs_behind ps k ≡ None) × (after ≡ before)
WalkFails ps k before fault.NoMemory after = (found : Option (Value × Value)) × WalksTo ps k before found after
WalkFails ps k before fault.NilKey after = ⊥
