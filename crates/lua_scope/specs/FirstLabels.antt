-- The labels of a block, and a table of the first label of each name.
use Rattle.std.specs.Prelude.{◌≡◌, ℕ, ◌+◌, List, [], ◌∷◌, if◌then◌else◌, Option, Some, None, option_map, Vec}
use Rattle.std.specs.BTreeMap.{BTreeMap}
use Rattle.lua_scope.specs.declared.occurrence.Label.{Label}
use Rattle.lua_scope.specs.declared.labels.FirstLabel.{FirstLabel}
use Rattle.lua_scope.specs.Labels.{has_name}
use Rattle.lua_scope.specs.ByName.{at_name}

abbrev pub one_label_further : FirstLabel → FirstLabel
one_label_further f = record { place = f.place + 1; locals = f.locals }

abbrev pub first_label : List ℕ → List Label → Option FirstLabel
first_label x [] = None
first_label x (l ∷ ls) = if has_name x l then Some (record { place = 0; locals = l.locals }) else option_map one_label_further (first_label x ls)

-- the table has the first label of each name
abbrev pub HasFirstLabels : {Z : Type 0} → List Label → BTreeMap (Vec ℕ Z) FirstLabel → Type 0
HasFirstLabels ls table = (x : List ℕ) → at_name x table ≡ first_label x ls
