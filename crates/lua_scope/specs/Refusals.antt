-- The first refusal in text order (Lua 5.2 manual, 3.3.4 and 3.4.10).
use Rattle.std.specs.Prelude.{ℕ, ◌-◌, Bool, true, false, if◌then◌else◌, nat_lt, List, [], ◌∷◌, length, reverse, Option, Some, None}
use Rattle.lua_scope.specs.declared.occurrence.Occurrence.{Occurrence}
use Rattle.lua_scope.specs.declared.occurrence.Occurrence.TheVariants as occurrence
use Rattle.lua_scope.specs.declared.occurrence.ScopeKind.{ScopeKind}
use Rattle.lua_scope.specs.declared.occurrence.ScopeKind.TheVariants as kind
use Rattle.lua_scope.specs.declared.occurrence.Label.{Label}
use Rattle.lua_scope.specs.declared.frame.Frame.{Frame}
use Rattle.lua_scope.specs.declared.load_error.LoadError.{LoadError}
use Rattle.lua_scope.specs.declared.load_error.LoadError.TheVariants.{NoLabel, TwoLabels, JumpsIntoLocal, BreakOutside, VarargOutside}
use Rattle.lua_scope.specs.Labels.{has_name}
use Rattle.lua_scope.specs.Scope.{ScopeState, scope}

-- how many of its block's locals are in scope at the first label of a name: none where it lies outside them
abbrev pub target : List ℕ → ℕ → List Label → Option ℕ
target x inside [] = None
target x inside (l ∷ ls) = if has_name x l then Some (if nat_lt 0 inside then l.locals else 0) else target x (inside - 1) ls

-- a goto to a label at which `there` locals of the block are in scope, from a place where `here` are
abbrev pub landing : ℕ → (here : ℕ) → (there : Option ℕ) → (outer : Option LoadError) → Option LoadError
landing l here None outer = outer
landing l here (Some there) outer = if nat_lt here there then Some (JumpsIntoLocal l) else None

abbrev pub jump_in : ℕ → List ℕ → ℕ → ScopeKind → Option LoadError → Option LoadError
jump_in l x here (kind.Block labels inside) outer = landing l here (target x inside labels) outer
jump_in l x here kind.Loop outer = outer
jump_in l x here (kind.Function _ _) outer = Some (NoLabel l)

-- a goto on line l to label x, from a place with this many variables in scope: the innermost block that has the label decides
abbrev pub jump : ℕ → List ℕ → ℕ → List Frame → Option LoadError
jump l x here [] = Some (NoLabel l)
jump l x here (f ∷ outer) = jump_in l x (here - f.begins) f.kind (jump l x f.begins outer)

-- a break ends a loop of its function
abbrev pub in_loop_of : ScopeKind → Bool → Bool
in_loop_of (kind.Block _ _) outer = outer
in_loop_of kind.Loop outer = true
in_loop_of (kind.Function _ _) outer = false

abbrev pub in_loop : List Frame → Bool
in_loop [] = false
in_loop (f ∷ outer) = in_loop_of f.kind (in_loop outer)

-- `...` are the varargs of its function; the chunk is a vararg function
abbrev pub has_varargs_of : ScopeKind → Bool → Bool
has_varargs_of (kind.Block _ _) outer = outer
has_varargs_of kind.Loop outer = outer
has_varargs_of (kind.Function _ vararg) outer = vararg

abbrev pub has_varargs : List Frame → Bool
has_varargs [] = true
has_varargs (f ∷ outer) = has_varargs_of f.kind (has_varargs outer)

-- what an occurrence is refused for, from where it stands
abbrev pub refusal_in : ScopeState → Occurrence → Option LoadError
refusal_in s (occurrence.Goto l x) = jump l x (length s.variables) (reverse s.frames)
refusal_in s (occurrence.SecondLabel l) = Some (TwoLabels l)
refusal_in s (occurrence.Break l) = if in_loop (reverse s.frames) then None else Some (BreakOutside l)
refusal_in s (occurrence.Vararg l) = if has_varargs (reverse s.frames) then None else Some (VarargOutside l)
refusal_in s _ = None

abbrev pub earlier : Option LoadError → Option LoadError → Option LoadError
earlier None later = later
earlier (Some r) later = Some r

-- the first refusal in what a walk has met
unfoldable pub first_refusal : List Occurrence → Option LoadError
first_refusal [] = None
first_refusal (e ∷ seen) = earlier (first_refusal seen) (refusal_in (scope seen) e)
