-- Where a text uses a variable inside a function (Lua 5.2 manual, 3.5).
use Rattle.std.specs.Prelude.{◌≡◌, ℕ, ◌<◌, true, List, Some}
use Rattle.std.specs.List.{list_any}
use Rattle.lua_scope.specs.declared.occurrence.Occurrence.{Occurrence}
use Rattle.lua_scope.specs.declared.occurrence.Occurrence.TheVariants as occurrence
use Rattle.lua_scope.specs.declared.frame.Frame.{Frame}
use Rattle.lua_scope.specs.Scope.{scope, first_variable}
use Rattle.lua_scope.specs.Variables.{meaning, is_scope_of}
use Rattle.lua_scope.specs.Meets.{Meets}

-- a Name inside the function means the variable, which was named before the function's own
pub record UsesInside (whole : List Occurrence) (f v : ℕ) : Type 0 where
  pub node : ℕ
  pub name : List ℕ
  pub before : List Occurrence
  pub met : Meets whole before (occurrence.Use node name)
  pub means : meaning before name ≡ Some v
  pub inside : list_any (λ (frame : Frame). is_scope_of f frame.kind) (scope before).frames ≡ true
  pub outer : v < first_variable before f
