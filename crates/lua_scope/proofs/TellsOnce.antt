-- Walks that tell of no node twice.
use Rattle.std.specs.Prelude.{◌≡◌, ℕ, ◌==◌, Bool, true, List, Option, Some, None, refl}
use Rattle.std.specs.List.{IsDistinct, filter_map}
use Rattle.std.proofs.Common.{inl, inr}
use Rattle.std.proofs.lemmas.Bool.Decides.{eqb_tells}
use Rattle.lua_scope.specs.declared.occurrence.Occurrence.{Occurrence}
use Rattle.lua_scope.specs.declared.occurrence.Occurrence.TheVariants as occurrence

-- the node that an occurrence tells of: it names variables, or is a Name
abbrev pub node_of : Occurrence → Option ℕ
node_of (occurrence.Declare i _) = Some i
node_of (occurrence.Use i _) = Some i
node_of _ = None

abbrev pub nodes_of : List Occurrence → List ℕ
nodes_of h = filter_map node_of h

abbrev pub same_number : ℕ → ℕ → Bool
same_number i j = i == j

abbrev pub TellsOnce : List Occurrence → Type 0
TellsOnce h = IsDistinct same_number (nodes_of h)

pub same_itself : (i : ℕ) → (i == i) ≡ true
same_itself i = elim (eqb_tells i i) [
  | inl e ↦ e.0
  | inr e ↦ absurd (e.1 refl)
]
