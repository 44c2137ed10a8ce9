-- Which variable a name means, and which functions capture it (Lua 5.2 manual, 3.2, 3.4.10 and 3.5).
use Rattle.std.specs.Prelude.{ℕ, ◌==◌, ◌&&◌, ◌||◌, Bool, false, if◌then◌else◌, nat_lt, List, [], ◌∷◌, length, reverse, take_while, insert, bytes_eq, find, Option, Some, None, option_map}
use Rattle.std.specs.List.{list_any}
use Rattle.lua_scope.specs.declared.occurrence.Occurrence.{Occurrence}
use Rattle.lua_scope.specs.declared.occurrence.Occurrence.TheVariants as occurrence
use Rattle.lua_scope.specs.declared.occurrence.ScopeKind.{ScopeKind}
use Rattle.lua_scope.specs.declared.occurrence.ScopeKind.TheVariants as kind
use Rattle.lua_scope.specs.declared.frame.Variable.{Variable}
use Rattle.lua_scope.specs.declared.frame.Frame.{Frame}
use Rattle.lua_scope.specs.declared.place.Place.{Place}
use Rattle.lua_scope.specs.declared.place.Place.TheVariants.{Local, Captured, Global}
use Rattle.lua_scope.specs.Scope.{first_variable, scope}

-- the number of the first variable of a name
abbrev pub first_named : List ℕ → List Variable → Option ℕ
first_named x vs = option_map (λ v. v.number) (find (λ v. bytes_eq v.name x) vs)

-- the variable that a name means: the last of this name that came into scope
abbrev pub variable_named : List ℕ → List Variable → Option ℕ
variable_named x vs = first_named x (reverse vs)

abbrev pub meaning : List Occurrence → List ℕ → Option ℕ
meaning seen x = variable_named x (scope seen).variables

-- the variable that a Name node means
unfoldable pub variable_of : List Occurrence → ℕ → Option ℕ
variable_of [] i = None
variable_of (occurrence.Use j x ∷ seen) i = if j == i then meaning seen x else variable_of seen i
variable_of (_ ∷ seen) i = variable_of seen i

-- A function captures a variable that was named before its own. `first` gives the number of a function's first variable.
abbrev pub captures : (first : ℕ → ℕ) → ℕ → ScopeKind → Bool
captures first v (kind.Function f _) = nat_lt v (first f)
captures first v _ = false

abbrev pub is_scope_of : ℕ → ScopeKind → Bool
is_scope_of f (kind.Function g _) = g == f
is_scope_of f _ = false

-- some function around captures the variable
abbrev pub captured_in : (first : ℕ → ℕ) → ℕ → List Frame → Bool
captured_in first v [] = false
captured_in first v (frame ∷ frames) = captures first v frame.kind || captured_in first v frames

abbrev pub also : Bool → Option ℕ → ℕ → Bool
also here None v = false
also here (Some w) v = w == v && here

-- a variable is captured if it is used inside a function that captures it
unfoldable pub is_captured : List Occurrence → ℕ → Bool
is_captured [] v = false
is_captured (occurrence.Use _ x ∷ seen) v = also (captured_in (first_variable seen) v (scope seen).frames) (meaning seen x) v || is_captured seen v
is_captured (_ ∷ seen) v = is_captured seen v

-- a number put into a rising list, unless it is there
abbrev pub place_in : ℕ → List ℕ → ℕ
place_in v ws = length (take_while (λ w. nat_lt w v) ws)

abbrev pub with_number : ℕ → List ℕ → List ℕ
with_number v ws = if list_any (λ w. w == v) ws then ws else insert ws (place_in v ws) v

-- what a function captures, with a use of a variable inside these frames: each of them that is this function and captures the variable has it
abbrev pub with_use : (first : ℕ → ℕ) → ℕ → ℕ → List ℕ → List Frame → List ℕ
with_use first f v vs [] = vs
with_use first f v vs (frame ∷ frames) = with_use first f v (if is_scope_of f frame.kind && captures first v frame.kind then with_number v vs else vs) frames

abbrev pub with_meaning : (first : ℕ → ℕ) → ℕ → Option ℕ → List ℕ → List Frame → List ℕ
with_meaning first f None vs frames = vs
with_meaning first f (Some v) vs frames = with_use first f v vs frames

-- the variables that a function captures, rising: those named before its own that it or a function in it uses
unfoldable pub captured_by : List Occurrence → ℕ → List ℕ
captured_by [] f = []
captured_by (occurrence.Use _ x ∷ seen) f = with_meaning (first_variable seen) f (meaning seen x) (captured_by seen f) (scope seen).frames
captured_by (_ ∷ seen) f = captured_by seen f

abbrev pub place_by : List Occurrence → Option ℕ → Place
place_by seen None = Global
place_by seen (Some v) = if is_captured seen v then Captured v else Local v

-- the place of a Name node
abbrev pub place_of_name : List Occurrence → ℕ → Place
place_of_name seen i = place_by seen (variable_of seen i)
