-- From weights to the work that is left.
use Rattle.std.proofs.Common.{◌≡◌, List, ℕ, ◌+◌, ◌-◌, ◌*◌, ◌≤◌, ◌<◌, arith, inl, inr, mul-le-mul_right, add-mul}
use Rattle.lua_ast.specs.declared.node.LinedNode.{LinedNode}
use Rattle.lua_steps.specs.Configuration.{Next}
use Rattle.lua_runs.specs.Weights.{weight, most_added, work_left}
use Rattle.lua_runs.proofs.Lowering.{Falls}

-- less of a measure, where w and v are what is beside it
same_turn : (a b m w v : ℕ) → a ≤ b → w < v → a * m + w < b * m + v
same_turn a b m w v le lt = omega (arith, mul-le-mul_right m le, lt)

next_turn : (a b m w v : ℕ) → a + 1 ≤ b → w < v + m → a * m + w < b * m + v
next_turn a b m w v le lt = (let one : 1 * m ≡ m = omega arith in omega (arith, mul-le-mul_right m le, add-mul a 1 m, one, lt))

module _ (nodes : List LinedNode) (y z : Next) (same : z.1.heap.used.most_instructions ≡ y.1.heap.used.most_instructions) where
  -- an instruction was left, and is used
  pub work_turns : y.1.heap.used.instructions + 1 ≤ y.1.heap.used.most_instructions → y.1.heap.used.instructions + 1 ≤ z.1.heap.used.instructions → weight nodes z < weight nodes y + most_added nodes → work_left nodes z < work_left nodes y
  work_turns left one lighter = next_turn (z.1.heap.used.most_instructions - z.1.heap.used.instructions) (y.1.heap.used.most_instructions - y.1.heap.used.instructions) (most_added nodes) (weight nodes z) (weight nodes y) (omega (arith, same, left, one)) lighter

  pub work_falls : z.1.heap.used.instructions ≤ z.1.heap.used.most_instructions → Falls nodes y.1.heap (weight nodes y) z → work_left nodes z < work_left nodes y
  work_falls within (inl f) = same_turn (z.1.heap.used.most_instructions - z.1.heap.used.instructions) (y.1.heap.used.most_instructions - y.1.heap.used.instructions) (most_added nodes) (weight nodes z) (weight nodes y) (omega (arith, same, f.counts.instructions)) f.lighter
  work_falls within (inr f) = work_turns (omega (arith, same, within, f.counts.instructions)) f.counts.instructions f.lighter
