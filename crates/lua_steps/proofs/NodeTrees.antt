-- A node as the list of nodes has it.
use Rattle.std.proofs.Common.{◌≡◌, ℕ, ◌+◌, ◌≤◌, List, [], ◌∷◌, length, drop, Option, Some, None, slice_get, option_map, refl, ap, ◌∙◌, arith, zero, suc}
use Rattle.lua_ast.specs.declared.node.Node.{Node}
use Rattle.lua_ast.specs.declared.node.LinedNode.{LinedNode}
use Rattle.lua_ast.specs.Tree.{Missing}
use Rattle.lua_ast.specs.Decode.{node_at, line_at, node_tree, tree_at, tree_to, tree, own_number}
use Rattle.lua_steps.specs.Parts.{part}
use Rattle.lua_steps.specs.Starts.{IsNode}

pub is_there : (nodes : List LinedNode) (i : ℕ) (node : Node) → node_at nodes i ≡ Some node → ((number : ℕ → ℕ) (line : ℕ) → line_at nodes i ≡ Some line → tree number nodes i ≡ node_tree (tree number nodes) (number i) line node) → IsNode nodes i node
is_there nodes i node e h = by (slice_get nodes i) refl e
  where
    by : (o : Option LinedNode) → slice_get nodes i ≡ o → option_map (λ l. l.node) o ≡ Some node → IsNode nodes i node
    by None e f = absurd (none_some f)
      where
        none_some : None ≡ Some node → ⊥
        none_some f = cc
    by (Some l) e f = record { line = l.line; there = e ∙ ap Some (ap (λ n. record { line = l.line; node = n }) (same f)); tree = h own_number l.line (ap (option_map (λ l. l.line)) e) }
      where
        same : Some l.node ≡ Some node → l.node ≡ node
        same f = cc

pub tree_missing : (nodes : List LinedNode) (i : ℕ) → slice_get nodes i ≡ None → part nodes i ≡ Missing
unfolding tree
tree_missing nodes i e = ap (λ o. tree_at (tree_to own_number nodes i) i o) e

never : {X : Type 0} (i : X) → None ≡ Some i → ⊥
never i e = cc

never_none : {X : Type 0} (i : X) → Some i ≡ None → ⊥
never_none i e = cc

inner : {X : Type 0} (x y : X) → Some x ≡ Some y → x ≡ y
inner x y e = cc

pub next_there : {X : Type 0} (xs : List X) (place : ℕ) (i : X) → slice_get xs place ≡ Some i → drop place xs ≡ i ∷ drop (place + 1) xs
next_there [] zero i e = absurd (never i e)
next_there [] (suc place) i e = absurd (never i e)
next_there (x ∷ []) zero i e = ap (λ y. y ∷ []) (inner x i e)
next_there (x ∷ y ∷ ys) zero i e = ap (λ z. z ∷ y ∷ ys) (inner x i e)
next_there (x ∷ xs) (suc place) i e = let more : suc (place + 1) ≡ suc place + 1 = omega arith in next_there xs place i e ∙ ap (λ n. i ∷ drop n (x ∷ xs)) more

pub none_there : {X : Type 0} (xs : List X) (place : ℕ) → slice_get xs place ≡ None → drop place xs ≡ []
none_there [] zero e = refl
none_there [] (suc place) e = refl
none_there (x ∷ xs) zero e = absurd (never_none x e)
none_there (x ∷ xs) (suc place) e = none_there xs place e

pub none_left : (xs : List ℕ) (place : ℕ) → length xs ≤ place → drop place xs ≡ []
none_left [] zero le = refl
none_left [] (suc place) le = refl
none_left (x ∷ xs) zero le = absurd (omega (arith, le))
none_left (x ∷ xs) (suc place) le = none_left xs place (omega (arith, le))

pub past_end : (nodes : List LinedNode) (i : ℕ) → length nodes ≤ i → slice_get nodes i ≡ None
past_end [] i le = refl
past_end (n ∷ nodes) zero le = absurd (omega (arith, le))
past_end (n ∷ nodes) (suc i) le = past_end nodes i (omega (arith, le))
