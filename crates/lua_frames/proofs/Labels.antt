-- The label of a goto among statements that are left.
use Rattle.std.proofs.Common.{◌≡◌, ◌+◌, ℕ, zero, suc, List, [], ◌∷◌, drop, length, ◌≤◌, slice_get, Some, None, true, false, refl, ap, sym, ◌∙◌, arith}
use Rattle.lua_ast.specs.declared.node.LinedNode.{LinedNode}
use Rattle.lua_steps.specs.Parts.{of_part}
use Rattle.lua_steps.specs.Passed.{is_label_of, locals_left, label_by, label_from}

same_some : (i j : ℕ) → Some i ≡ Some j → i ≡ j
same_some i j e = cc

none_there : (i : ℕ) → None ≡ Some i → ⊥
none_there i e = let no : None ≡ Some i = e in cc

-- what is left from a place on
pub left_there : (is : List ℕ) (place i : ℕ) → slice_get is place ≡ Some i → drop place is ≡ i ∷ drop (place + 1) is
left_there [] zero i e = absurd (none_there i e)
left_there [] (suc place) i e = absurd (none_there i e)
left_there (j ∷ is) zero i e = ap (λ k. k ∷ is) (same_some j i e)
left_there (j ∷ is) (suc place) i e = let one : suc place + 1 ≡ suc (place + 1) = omega arith in rw one (left_there is place i e)

pub place_within : (is : List ℕ) (place i : ℕ) → slice_get is place ≡ Some i → place + 1 ≤ length is
place_within [] zero i e = absurd (none_there i e)
place_within [] (suc place) i e = absurd (none_there i e)
place_within (j ∷ is) zero i e = omega arith
place_within (j ∷ is) (suc place) i e = let one = place_within is place i e in omega (arith, one)

pub nothing_left : (is : List ℕ) (place : ℕ) → slice_get is place ≡ None → drop place is ≡ []
nothing_left [] zero e = refl
nothing_left [] (suc place) e = refl
nothing_left (j ∷ is) zero e = absurd (none_there j (sym e))
nothing_left (j ∷ is) (suc place) e = nothing_left is place e

module _ (nodes : List LinedNode) (x : List ℕ) where
  pub label_there : (is : List ℕ) (place locals i : ℕ) → slice_get is place ≡ Some i → of_part nodes false (is_label_of x) i ≡ true →
      label_from nodes x place locals (drop place is) ≡ Some (place, locals)
  label_there is place locals i e is_label =
      ap (λ js. label_from nodes x place locals js) (left_there is place i e)
      ∙ ap (λ b. label_by nodes b place locals (label_from nodes x (place + 1) (locals + of_part nodes 0 locals_left i) (drop (place + 1) is))) is_label

  pub label_further : (is : List ℕ) (place locals i : ℕ) → slice_get is place ≡ Some i → of_part nodes false (is_label_of x) i ≡ false →
      label_from nodes x place locals (drop place is) ≡ label_from nodes x (place + 1) (locals + of_part nodes 0 locals_left i) (drop (place + 1) is)
  label_further is place locals i e no_label =
      ap (λ js. label_from nodes x place locals js) (left_there is place i e)
      ∙ ap (λ b. label_by nodes b place locals (label_from nodes x (place + 1) (locals + of_part nodes 0 locals_left i) (drop (place + 1) is))) no_label

  pub no_label : (is : List ℕ) (place locals : ℕ) → slice_get is place ≡ None → label_from nodes x place locals (drop place is) ≡ None
  no_label is place locals e = ap (λ js. label_from nodes x place locals js) (nothing_left is place e)
