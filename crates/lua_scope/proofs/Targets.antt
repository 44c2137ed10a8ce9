-- The first label of a name in its block.
use Rattle.std.proofs.Common.{◌≡◌, ℕ, ◌+◌, ◌-◌, ◌≤◌, List, [], ◌∷◌, ◌++◌, length, refl, sym, ap, subst, ◌∙◌, arith}
use Rattle.std.proofs.lemmas.Bool.Decides.{nat_tests}
use Rattle.std.specs.Prelude.{Bool, true, false, cond, nat_lt, bytes_eq, Option, Some, None, option_map, is_some, if◌then◌else◌, ◌||◌, Vec}
use Rattle.std.specs.Option.{option_or}
use Rattle.std.specs.List.{list_any}
use Rattle.std.specs.BTreeMap.{BTreeMap}
use Rattle.std.specs.Cmp.Lexicographic.{bytes_decides}
use Rattle.lua_scope.specs.declared.occurrence.Label.{Label}
use Rattle.lua_scope.specs.declared.labels.FirstLabel.{FirstLabel}
use Rattle.lua_scope.specs.Labels.{has_name}
use Rattle.lua_scope.specs.Refusals.{target}
use Rattle.lua_scope.specs.ByName.{at_name}
use Rattle.lua_scope.specs.FirstLabels.{one_label_further, first_label, HasFirstLabels}

some_later : (b : Bool) (f : FirstLabel) (o : Option FirstLabel) (r : Bool) → is_some o ≡ r → is_some (cond b (Some f) (option_map one_label_further o)) ≡ (b || r)
some_later true f o r e = refl
some_later false f None r e = e
some_later false f (Some g) r e = e

pub first_tells : (x : List ℕ) (ls : List Label) → is_some (first_label x ls) ≡ list_any (has_name x) ls
first_tells x [] = refl
first_tells x (l ∷ ls) = some_later (has_name x l) (record { place = 0; locals = l.locals }) (first_label x ls) (list_any (has_name x) ls) (first_tells x ls)

one_more : (b c : Bool) (f new : FirstLabel) (o p : Option FirstLabel) → p ≡ option_or o (cond c (Some new) None)
    → cond b (Some f) (option_map one_label_further p) ≡ option_or (cond b (Some f) (option_map one_label_further o)) (cond c (Some (one_label_further new)) None)
one_more true c f new o p e = refl
one_more false true f new None p e = ap (option_map one_label_further) e
one_more false false f new None p e = ap (option_map one_label_further) e
one_more false c f new (Some g) p e = ap (option_map one_label_further) e

first_alone : (b : Bool) (f : FirstLabel) → cond b (Some f) (option_map one_label_further None) ≡ option_or None (cond b (Some f) None)
first_alone true f = refl
first_alone false f = refl

pub first_pushed : (x : List ℕ) (ls : List Label) (l : Label)
    → first_label x (ls ++ l ∷ []) ≡ option_or (first_label x ls) (cond (has_name x l) (Some (record { place = length ls; locals = l.locals })) None)
first_pushed x [] l = first_alone (has_name x l) (record { place = 0; locals = l.locals })
first_pushed x (k ∷ ks) l =
    let next : length ks + 1 ≡ length (k ∷ ks) = omega arith
    in subst (λ (n : ℕ). first_label x (k ∷ (ks ++ l ∷ [])) ≡ option_or (first_label x (k ∷ ks)) (cond (has_name x l) (Some (record { place = n; locals = l.locals })) None)) next
    (one_more (has_name x k) (has_name x l) (record { place = 0; locals = k.locals }) (record { place = length ks; locals = l.locals }) (first_label x ks) (first_label x (ks ++ l ∷ [])) (first_pushed x ks l))

-- how many of its block's locals are in scope at a label
abbrev pub locals_there : ℕ → FirstLabel → ℕ
locals_there inside f = if nat_lt f.place inside then f.locals else 0

pub not_below : (i inside : ℕ) → inside ≤ i → nat_lt i inside ≡ false
not_below i inside h = grind (arith, nat_tests)

less_one : (i inside : ℕ) → nat_lt i (inside - 1) ≡ nat_lt (i + 1) inside
less_one i inside = grind (arith, nat_tests)

target_case : (b : Bool) (inside locals : ℕ) (t : Option ℕ) (o : Option FirstLabel) → t ≡ option_map (locals_there (inside - 1)) o
    → cond b (Some (cond (nat_lt 0 inside) locals 0)) t ≡ option_map (locals_there inside) (cond b (Some (record { place = 0; locals = locals })) (option_map one_label_further o))
target_case true inside locals t o e = refl
target_case false inside locals t None e = e
target_case false inside locals t (Some f) e = e ∙ ap (λ (b : Bool). Some (cond b f.locals 0)) (less_one f.place inside)

pub target_is : (x : List ℕ) (inside : ℕ) (ls : List Label) → target x inside ls ≡ option_map (locals_there inside) (first_label x ls)
target_is x inside [] = refl
target_is x inside (l ∷ ls) = target_case (has_name x l) inside l.locals (target x (inside - 1) ls) (first_label x ls) (target_is x (inside - 1) ls)

pub aimed : (x : List ℕ) (inside : ℕ) (ls seen : List Label) (o : Option FirstLabel) → o ≡ first_label x ls → ls ≡ seen → option_map (locals_there inside) o ≡ target x inside seen
aimed x inside ls seen o e same = ap (option_map (locals_there inside)) e ∙ (sym (target_is x inside ls) ∙ ap (target x inside) same)

module _ {Z : Type 0} (ls : List Label) (m new : BTreeMap (Vec ℕ Z) FirstLabel) where
  pub pushed_next : (name : List ℕ) (locals : ℕ) → HasFirstLabels ls m
      → ((x : List ℕ) → at_name x new ≡ option_or (at_name x m) (cond (bytes_eq name x) (Some (record { place = length ls; locals = locals })) None))
      → HasFirstLabels (ls ++ record { name = name; locals = locals } ∷ []) new
  pushed_next name locals has noted =
      let l : Label = record { name = name; locals = locals }
      in λ x. noted x ∙ (ap (λ (o : Option FirstLabel). option_or o (cond (bytes_eq name x) (Some (record { place = length ls; locals = locals })) None)) (has x) ∙ sym (first_pushed x ls l))

-- a label is noted where the table had none of its name
pub noted_new : {X : Type 0} (b : Bool) (old : Option X) (w : X) → (b ≡ true → old ≡ None) → cond b (Some w) old ≡ option_or old (cond b (Some w) None)
noted_new true old w none = sym (ap (λ o. option_or o (Some w)) (none refl))
noted_new false None w none = refl
noted_new false (Some v) w none = refl

nothing : {X : Type 0} (o : Option X) → is_some o ≡ false → o ≡ None
nothing None e = refl
nothing (Some x) e = absurd cc

pub noted : {Z X : Type 0} (name : List ℕ) (m new : BTreeMap (Vec ℕ Z) X) (w : X) → is_some (at_name name m) ≡ false
    → ((x : List ℕ) → at_name x new ≡ cond (bytes_eq name x) (Some w) (at_name x m))
    → (x : List ℕ) → at_name x new ≡ option_or (at_name x m) (cond (bytes_eq name x) (Some w) None)
noted name m new w none put x =
    put x ∙ noted_new (bytes_eq name x) (at_name x m) w (λ e. nothing (at_name x m) (ap (λ (y : List ℕ). is_some (at_name y m)) (sym ((bytes_decides name x).0 e)) ∙ none))
