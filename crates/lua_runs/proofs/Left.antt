-- How many parts of a node are left: one fewer behind each, and never more than the text has.
use Rattle.std.proofs.Common.{◌≡◌, ℕ, zero, suc, ◌+◌, ◌≤◌, List, [], ◌∷◌, length, drop, Some, slice_get, refl, ap, arith}
use Rattle.lua_ast.specs.declared.node.Node.{Node}
use Rattle.lua_ast.specs.declared.node.LinedNode.{LinedNode}
use Rattle.lua_steps.specs.Parts.{of_node, list_in, targets_in, blocks_in, fields_in, list_at, targets_at, blocks_at, fields_at}
use Rattle.lua_steps.proofs.NodeTrees.{next_there}
use Rattle.lua_runs.specs.Weights.{parts_in, part_count}

pub one_left : {X : Type 0} (xs : List X) (place : ℕ) (i : X) → slice_get xs place ≡ Some i → length (drop place xs) ≡ length (drop (place + 1) xs) + 1
one_left xs place i e = (let there : length (drop place xs) ≡ length (i ∷ drop (place + 1) xs) = ap length (next_there xs place i e) in omega (arith, there))

pub whole_left : {X : Type 0} (xs : List X) → length (drop 0 xs) ≡ length xs
whole_left [] = refl
whole_left (x ∷ xs) = refl

pub fewer_left : {X : Type 0} (place : ℕ) (xs : List X) → length (drop place xs) ≤ length xs
fewer_left zero [] = omega arith
fewer_left zero (x ∷ xs) = omega arith
fewer_left (suc place) [] = omega arith
fewer_left (suc place) (x ∷ xs) = omega (arith, fewer_left place xs)

module _ {X : Type 0} (has : Node → List X) (in_node : (n : Node) → length (has n) ≤ parts_in n) where
  counted : (nodes : List LinedNode) (i : ℕ) → length (of_node [] has (slice_get nodes i)) ≤ part_count nodes
  counted [] i = omega arith
  counted (l ∷ nodes) zero = omega (arith, in_node l.node)
  counted (l ∷ nodes) (suc i) = omega (arith, counted nodes i)

module _ (nodes : List LinedNode) (i : ℕ) where
  pub list_counted : length (list_at nodes i) ≤ part_count nodes
  list_counted = counted list_in (λ n. omega arith) nodes i

  pub targets_counted : length (targets_at nodes i) ≤ part_count nodes
  targets_counted = counted targets_in (λ n. omega arith) nodes i

  pub blocks_counted : length (blocks_at nodes i) ≤ part_count nodes
  blocks_counted = counted blocks_in (λ n. omega arith) nodes i

  pub fields_counted : length (fields_at nodes i) ≤ part_count nodes
  fields_counted = counted fields_in (λ n. omega arith) nodes i
