-- The variables in scope, and a table of what names mean.
use Rattle.std.specs.Prelude.{◌≡◌, ℕ, List, [], ◌∷◌, map, Option, Vec}
use Rattle.std.specs.Option.{option_flatten}
use Rattle.std.specs.BTreeMap.{BTreeMap}
use Rattle.lua_scope.specs.declared.frame.Variable.{Variable}
use Rattle.lua_scope.specs.declared.frame.Entered.{Entered}
use Rattle.lua_scope.specs.ByName.{at_name}
use Rattle.lua_scope.specs.Variables.{first_named}

abbrev pub variables_of : List Entered → List Variable
variables_of es = map (λ e. e.variable) es

-- each variable hides what its name meant before it
abbrev pub HideThose : List Entered → Type 0
HideThose [] = Unit {0}
HideThose (e ∷ es) = (e.hidden ≡ first_named e.variable.name (variables_of es)) × HideThose es

-- of variables, the last first, the table has what each name means
pub record IsIndexed {Z : Type 0} (es : List Entered) (table : BTreeMap (Vec ℕ Z) (Option ℕ)) : Type 0 where
  pub meaning_is : (x : List ℕ) → option_flatten (at_name x table) ≡ first_named x (variables_of es)
  pub hide_those : HideThose es
