-- A block's statements, read from left to right.
use Rattle.std.specs.Prelude.{◌≡◌, ℕ, ◌≤◌, List}
use Rattle.lua_ast.specs.declared.node.Node.{Node}
use Rattle.lua_ast.specs.declared.node.Node.TheVariants as node
use Rattle.lua_ast.specs.Tree.{Tree, Block, Trees, none}
use Rattle.lua_scope.specs.declared.occurrence.Occurrence.{Occurrence}
use Rattle.lua_scope.specs.declared.block.Statements.{Statements}
use Rattle.lua_scope.specs.Labels.{labels_of, inside_of, locals_left}
use Rattle.lua_scope.specs.Walk.{stats_walked}
use Rattle.lua_scope.specs.Tasks.{walks}
use Rattle.lua_scope.specs.Walking.{weights, list_size, TasksBelow}
use Rattle.std.specs.Prelude.{length, Option, Some, None}

-- what these statements say of their block
pub record Scanned (part : ℕ → Tree) (n : ℕ) (ts : Trees) (s : Statements) : Type 0 where
  pub labels : s.labels ≡ labels_of ts
  pub inside : s.inside ≡ inside_of ts
  pub locals : s.locals ≡ locals_left ts
  pub walk : (seen : List Occurrence) → walks part seen s.tasks ≡ stats_walked seen ts
  pub less : weights part s.tasks ≤ list_size ts
  pub below : TasksBelow n s.tasks

-- a node that is a label, and its name
abbrev pub label_name : Node → Option (List ℕ)
label_name (node.Label x) = Some x
label_name _ = None

-- how many locals a node leaves in scope behind it
abbrev pub locals_in : Node → ℕ
locals_in (node.Local names _) = length names
locals_in (node.LocalFunction _ _) = 1
locals_in _ = 0

-- the statements of a node that is a block
abbrev pub block_stats : Node → Option (List ℕ)
block_stats (node.Block stats) = Some stats
block_stats _ = None

abbrev pub stats_in : Tree → Trees
stats_in (Block _ _ stats) = stats
stats_in _ = none
