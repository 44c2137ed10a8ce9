-- What names mean behind a variable that comes into scope or goes out of it.
use Rattle.std.proofs.Common.{◌≡◌, ℕ, List, [], ◌∷◌, ◌++◌, refl, sym, ap, subst, ◌∙◌}
use Rattle.std.specs.Prelude.{Bool, true, false, cond, reverse, bytes_eq, find, Option, Some, None, option_map, IsSome, Vec}
use Rattle.std.specs.Option.{option_flatten}
use Rattle.std.specs.BTreeMap.{BTreeMap}
use Rattle.std.specs.Cmp.Lexicographic.{bytes_decides, nat_list_eq_equiv}
use Rattle.std.proofs.lemmas.List.{reverse-append, map-append}
use Rattle.lua_scope.specs.declared.frame.Variable.{Variable}
use Rattle.lua_scope.specs.declared.frame.Entered.{Entered}
use Rattle.lua_scope.specs.Variables.{first_named, variable_named}
use Rattle.lua_scope.specs.ByName.{at_name}
use Rattle.lua_scope.specs.Visible.{variables_of, IsIndexed}
use Rattle.lua_scope.proofs.Reversed.{reverse_push}

reverse_variables : (es : List Entered) → reverse (variables_of es) ≡ variables_of (reverse es)
reverse_variables [] = refl
reverse_variables (e ∷ es) =
    reverse-append (e.variable ∷ []) (variables_of es) ∙
    (ap (λ (vs : List Variable). vs ++ e.variable ∷ []) (reverse_variables es) ∙
    sym (ap variables_of (reverse-append (e ∷ []) es) ∙ map-append (λ (e : Entered). e.variable) (reverse es) (e ∷ [])))

pub first_is_named : (x : List ℕ) (es : List Entered) → first_named x (variables_of (reverse es)) ≡ variable_named x (variables_of es)
first_is_named x es = sym (ap (first_named x) (reverse_variables es))

newest : (b : Bool) (v : Variable) (o : Option (Option ℕ)) (rest : Option Variable) → option_flatten o ≡ option_map (λ (w : Variable). w.number) rest
    → option_flatten (cond b (Some (Some v.number)) o) ≡ option_map (λ (w : Variable). w.number) (cond b (Some v) rest)
newest true v o rest e = refl
newest false v o rest e = e

-- the first variable of a name
abbrev found_in : List ℕ → List Variable → Option Variable
found_in x vs = find (λ (v : Variable). bytes_eq v.name x) vs

module _ {Z : Type 0} (es : List Entered) (m new : BTreeMap (Vec ℕ Z) (Option ℕ)) where
  pub entered_next : (name : List ℕ) (number : ℕ) (hidden : Option ℕ) → IsIndexed (reverse es) m → hidden ≡ option_flatten (at_name name m)
      → ((x : List ℕ) → at_name x new ≡ cond (bytes_eq name x) (Some (Some number)) (at_name x m))
      → IsIndexed (reverse (es ++ record { variable = record { name = name; number = number }; hidden = hidden } ∷ [])) new
  entered_next name number hidden i h put =
      let e : Entered = record { variable = record { name = name; number = number }; hidden = hidden }
      in subst (λ (fs : List Entered). IsIndexed fs new) (sym (reverse_push es e)) (record {
        meaning_is = λ x. ap option_flatten (put x) ∙ newest (bytes_eq name x) (record { name = name; number = number }) (at_name x m) (found_in x (variables_of (reverse es))) (i.meaning_is x);
        hide_those = (h ∙ i.meaning_is name, i.hide_those);
      })

  restored : (e : Entered) → IsIndexed (e ∷ reverse es) m → (x : List ℕ) (b : Bool) → bytes_eq e.variable.name x ≡ b
      → option_flatten (cond b (Some e.hidden) (at_name x m)) ≡ first_named x (variables_of (reverse es))
  restored e i x true is = i.hide_those.0 ∙ ap (λ (y : List ℕ). first_named y (variables_of (reverse es))) ((bytes_decides e.variable.name x).0 is)
  restored e i x false is = i.meaning_is x ∙ ap (λ (b : Bool). option_map (λ (w : Variable). w.number) (cond b (Some e.variable) (found_in x (variables_of (reverse es))))) is

  pub left_last : (e : Entered) → IsIndexed (reverse (es ++ e ∷ [])) m
      → ((x : List ℕ) → at_name x new ≡ cond (bytes_eq e.variable.name x) (Some e.hidden) (at_name x m))
      → IsIndexed (reverse es) new
  left_last e i put =
      let j : IsIndexed (e ∷ reverse es) m = subst (λ (fs : List Entered). IsIndexed fs m) (reverse_push es e) i
      in record {
        meaning_is = λ x. ap option_flatten (put x) ∙ restored e j x (bytes_eq e.variable.name x) refl;
        hide_those = j.hide_those.1;
      }

some_inside : (o : Option (Option ℕ)) (n : ℕ) → option_flatten o ≡ Some n → IsSome o
some_inside None n e = absurd cc
some_inside (Some o) n e = refl

pub has_last : {Z : Type 0} (es : List Entered) (e : Entered) (m : BTreeMap (Vec ℕ Z) (Option ℕ)) → IsIndexed (reverse (es ++ e ∷ [])) m → IsSome (at_name e.variable.name m)
has_last es e m i =
    let j : IsIndexed (e ∷ reverse es) m = subst (λ (fs : List Entered). IsIndexed fs m) (reverse_push es e) i
    in some_inside (at_name e.variable.name m) e.variable.number (j.meaning_is e.variable.name ∙ ap (λ (b : Bool). option_map (λ (w : Variable). w.number) (cond b (Some e.variable) (found_in e.variable.name (variables_of (reverse es))))) (nat_list_eq_equiv.refl e.variable.name))
