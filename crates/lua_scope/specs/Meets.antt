-- What a walk through a text meets, and what it has met until then.
use Rattle.std.specs.Prelude.{◌≡◌, ℕ, List, ◌∷◌, ◌++◌, length, Option, Some, None}
use Rattle.lua_ast.specs.declared.node.Node.{Node}
use Rattle.lua_ast.specs.declared.node.Node.TheVariants as node
use Rattle.lua_scope.specs.declared.occurrence.Occurrence.{Occurrence}
use Rattle.lua_scope.specs.declared.occurrence.Occurrence.TheVariants as occurrence

-- the walk that meets all of `whole` meets the occurrence, and `before` is what it has met until then
pub record Meets (whole before : List Occurrence) (e : Occurrence) : Type 0 where
  pub after : List Occurrence
  pub joined : after ++ e ∷ before ≡ whole

-- what a walk meets at a node of its own: that it names variables, or is a Name
abbrev pub occurrence_at : ℕ → Node → Option Occurrence
occurrence_at i (node.Local names _) = Some (occurrence.Declare i (length names))
occurrence_at i (node.NumFor _ _ _ _ _) = Some (occurrence.Declare i 1)
occurrence_at i (node.GenFor names _ _) = Some (occurrence.Declare i (length names))
occurrence_at i (node.LocalFunction _ _) = Some (occurrence.Declare i 1)
occurrence_at i (node.Function params _ _) = Some (occurrence.Declare i (length params))
occurrence_at i (node.Name text) = Some (occurrence.Use i text)
occurrence_at i _ = None
