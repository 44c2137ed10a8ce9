-- A text as its meaning needs it: the trees of its functions, what its names mean (Lua 5.2 manual, 3.2 and 3.5), and the places of its labels (3.3.4).
use Rattle.std.specs.Prelude.{ℕ, ◌+◌, Bool, false, List, length, bytes_eq, if◌then◌else◌, Option, Some, None}
use Rattle.lua_ast.specs.Tree.{Tree, Local, LocalFunction, Label, Trees, none, snoc}

-- Nodes are named by number.
pub record Code : Type 0 where
  -- the tree of a Function node
  pub function : ℕ → Tree
  -- the variable that a Name node means; none: a field of the globals
  pub variable : ℕ → Option ℕ
  -- the first variable that a node declares; its others follow in order
  pub first_variable : ℕ → ℕ
  -- a function inside the one that declares the variable uses it
  pub is_captured : ℕ → Bool
  -- the variables that a Function node captures
  pub captured : ℕ → List ℕ

abbrev pub is_label : List ℕ → Tree → Bool
is_label x (Label _ _ y) = bytes_eq y x
is_label x _ = false

abbrev pub label_next : List ℕ → Option Trees → Tree → Option Trees
label_next x (Some part) t = Some (snoc part t)
label_next x None t = if is_label x t then Some (snoc none t) else None

-- the statements of a block from the first label of this name on
abbrev pub from_label : List ℕ → Trees → Option Trees
from_label x none = None
from_label x (snoc ts t) = label_next x (from_label x ts) t

-- how many locals a statement leaves in scope behind it
abbrev pub locals_declared : Tree → ℕ
locals_declared (Local _ _ names _) = length names
locals_declared (LocalFunction _ _ _ _) = 1
locals_declared _ = 0

abbrev pub locals_next : List ℕ → Option Trees → ℕ → Tree → ℕ
locals_next x (Some _) before t = before
locals_next x None before t = if is_label x t then before else (before + locals_declared t)

-- how many locals the statements before the first label of this name leave in scope
abbrev pub locals_before : List ℕ → Trees → ℕ
locals_before x none = 0
locals_before x (snoc ts t) = locals_next x (from_label x ts) (locals_before x ts) t
