-- What is in scope and what is open behind a part of a text (Lua 5.2 manual, 3.5).
use Rattle.std.specs.Prelude.{ℕ, ◌+◌, ◌-◌, ◌==◌, if◌then◌else◌, List, [], ◌∷◌, ◌++◌, length, take, Option, Some, None, slice_get}
use Rattle.lua_scope.specs.declared.occurrence.Occurrence.{Occurrence}
use Rattle.lua_scope.specs.declared.occurrence.Occurrence.TheVariants as occurrence
use Rattle.lua_scope.specs.declared.occurrence.ScopeKind.{ScopeKind}
use Rattle.lua_scope.specs.declared.frame.Variable.{Variable}
use Rattle.lua_scope.specs.declared.frame.Frame.{Frame}

-- what a walk has left in scope and open: the last is last
pub record ScopeState : Type 0 where
  pub variables : List Variable
  pub frames : List Frame

-- how many variables a walk has named
unfoldable pub declared : List Occurrence → ℕ
declared [] = 0
declared (occurrence.Declare _ count ∷ seen) = declared seen + count
declared (_ ∷ seen) = declared seen

-- The number of the first variable that a node has named. A function without parameters has the number at which its own variables begin, a node that has declared nothing 0.
unfoldable pub first_variable : List Occurrence → ℕ → ℕ
first_variable [] i = 0
first_variable (occurrence.Declare j _ ∷ seen) i = if j == i then declared seen else first_variable seen i
first_variable (_ ∷ seen) i = first_variable seen i

abbrev pub variables_from : ℕ → List (List ℕ) → List Variable
variables_from n [] = []
variables_from n (x ∷ xs) = record { name = x; number = n } ∷ variables_from (n + 1) xs

abbrev pub scope_opened : ScopeKind → ScopeState → ScopeState
scope_opened o s = record { variables = s.variables; frames = s.frames ++ record { kind = o; begins = length s.variables } ∷ [] }

abbrev pub cut_to : Option Frame → ScopeState → ScopeState
cut_to None s = s
cut_to (Some f) s = record { variables = take f.begins s.variables; frames = take (length s.frames - 1) s.frames }

-- what came into scope since the last kind goes
abbrev pub scope_closed : ScopeState → ScopeState
scope_closed s = cut_to (slice_get s.frames (length s.frames - 1)) s

abbrev pub entered : ℕ → List (List ℕ) → ScopeState → ScopeState
entered n names s = record { variables = s.variables ++ variables_from n names; frames = s.frames }

unfoldable pub scope : List Occurrence → ScopeState
scope [] = record { variables = []; frames = [] }
scope (occurrence.Open o ∷ seen) = scope_opened o (scope seen)
scope (occurrence.Close ∷ seen) = scope_closed (scope seen)
scope (occurrence.Enter i names ∷ seen) = entered (first_variable seen i) names (scope seen)
scope (_ ∷ seen) = scope seen
