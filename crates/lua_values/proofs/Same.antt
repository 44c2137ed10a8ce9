-- The derived `==` is the definition's.
use Rattle.std.proofs.Common.{◌≡◌, true, false, refl, ap, sym, ◌∙◌, Some, List, [], ◌∷◌, cond}
use Rattle.lua_meaning.specs.declared.value.Value.{Value}
use Rattle.lua_meaning.specs.declared.value.Value.TheVariants as value
use Rattle.lua_meaning.specs.contracts.value.ValuePartialEq.TheImpl.{eq-value}
use Rattle.lua_meaning.specs.Values.{same}
use Rattle.lua_meaning.specs.Tables.{with_pair}
use Rattle.std.specs.Map.{lookup}
use Rattle.indexmap.specs.IndexMap.{insert_entry}

pub eq_is_same : (a b : Value) → eq-value.it a b ≡ same a b
eq_is_same value.Nil value.Nil = refl
eq_is_same (value.Int x) (value.Int y) = refl
eq_is_same (value.Text x) (value.Text y) = refl
eq_is_same (value.Bool true) (value.Bool true) = refl
eq_is_same (value.Bool true) (value.Bool false) = refl
eq_is_same (value.Bool false) (value.Bool true) = refl
eq_is_same (value.Bool false) (value.Bool false) = refl
eq_is_same (value.Table x) (value.Table y) = refl
eq_is_same (value.Closure x) (value.Closure y) = refl
eq_is_same (value.Builtin x) (value.Builtin y) = refl
eq_is_same (value.Iter x) (value.Iter y) = refl
eq_is_same (value.Thread x) (value.Thread y) = refl
eq_is_same _ _ = refl

pub lookup_same : (ps : List (Value × Value)) (k : Value) → lookup (eq-value.it k) ps ≡ lookup (same k) ps
lookup_same [] k = refl
lookup_same (p ∷ ps) k = ap (λ b. cond b (Some p.1) (lookup (eq-value.it k) ps)) (eq_is_same k p.0) ∙ ap (cond (same k p.0) (Some p.1)) (lookup_same ps k)

pub insert_same : (ps : List (Value × Value)) (k v : Value) → insert_entry eq-value.it ps k v ≡ with_pair ps k v
insert_same [] k v = refl
insert_same (p ∷ ps) k v = ap (λ b. cond b ((p.0, v) ∷ ps) (p ∷ insert_entry eq-value.it ps k v)) (eq_is_same k p.0) ∙ ap (λ x. cond (same k p.0) ((p.0, v) ∷ ps) (p ∷ x)) (insert_same ps k v)

-- what a put leaves at each key
pub updates_same : (old new : List (Value × Value)) (k v : Value) → ((q : Value) → lookup (eq-value.it q) new ≡ cond (eq-value.it k q) (Some v) (lookup (eq-value.it q) old)) → (q : Value) → lookup (same q) new ≡ cond (same k q) (Some v) (lookup (same q) old)
updates_same old new k v put q = sym (lookup_same new q) ∙ put q ∙ ap (λ b. cond b (Some v) (lookup (eq-value.it q) old)) (eq_is_same k q) ∙ ap (cond (same k q) (Some v)) (lookup_same old q)
