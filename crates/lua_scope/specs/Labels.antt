-- The labels of a block (Lua 5.2 manual, 3.3.4 and 3.5).
use Rattle.std.specs.Prelude.{ℕ, ◌+◌, Bool, List, [], ◌∷◌, ◌++◌, length, bytes_eq}
use Rattle.std.specs.List.{list_any}
use Rattle.lua_ast.specs.Tree.{Tree, Label, Local, LocalFunction, Trees, none, snoc}
use Rattle.lua_scope.specs.declared.occurrence.Label.{Label as BlockLabel}

-- how many locals a statement leaves in scope behind it
abbrev pub locals_at : Tree → ℕ
locals_at (Local _ _ names _) = length names
locals_at (LocalFunction _ _ _ _) = 1
locals_at _ = 0

abbrev pub locals_left : Trees → ℕ
locals_left none = 0
locals_left (snoc ts t) = locals_left ts + locals_at t

abbrev pub has_name : List ℕ → BlockLabel → Bool
has_name x l = bytes_eq l.name x

-- the labels of these statements, in order, each with the locals that are declared before it
abbrev pub with_labels : List BlockLabel → ℕ → Tree → List BlockLabel
with_labels before locals (Label _ _ x) = before ++ record { name = x; locals = locals } ∷ []
with_labels before locals _ = before

unfoldable pub labels_of : Trees → List BlockLabel
labels_of none = []
labels_of (snoc ts t) = with_labels (labels_of ts) (locals_left ts) t

-- A label is a void statement, as `;` is, which is no node. How many labels have other statements behind them.
abbrev pub inside_with : ℕ → ℕ → Tree → ℕ
inside_with inside labels (Label _ _ _) = inside
inside_with inside labels _ = labels

unfoldable pub inside_of : Trees → ℕ
inside_of none = 0
inside_of (snoc ts t) = inside_with (inside_of ts) (length (labels_of ts)) t

-- a label of this name is among these statements
abbrev pub has_label : List ℕ → Trees → Bool
has_label x ts = list_any (has_name x) (labels_of ts)
