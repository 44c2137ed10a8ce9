-- Values put in turn: the first, and what follows it.
use Rattle.std.proofs.Common.{◌≡◌, ◌+◌, ℕ, List, [], ◌∷◌, drop, Option, Some, None, true, false, refl, ap, sym, ◌∙◌}
use Rattle.std.specs.Prelude.{pos}
use Rattle.std.specs.Option.{is_some}
use Rattle.lua_meaning.specs.declared.value.Value.{Value}
use Rattle.lua_meaning.specs.declared.value.Value.TheVariants as value
use Rattle.lua_meaning.specs.Values.{first}
use Rattle.lua_meaning.specs.Heap.{HeapOf}
use Rattle.lua_values.specs.Ids.{ids_of, AreLater}
use Rattle.lua_steps.specs.declared.mode.Mode.{Mode}
use Rattle.lua_steps.specs.Configuration.{Configuration, with_heap}
use Rattle.lua_steps.specs.Own.{AreOf}
use Rattle.lua_steps.specs.Effects.{PutAll, put_in, put_all, put_then}
use Rattle.lua_steps.proofs.OwnGiven.{drop_own}
use Rattle.lua_steps.proofs.Later.{values_later}

first_put : (lines : List ℕ) (t n : ℕ) (vs : List Value) (h : HeapOf) → (vs ≡ [] → ⊥) →
    put_all lines t n vs h ≡ put_then (put_in lines t (value.Int (pos n)) (first vs) h) n (λ h. put_all lines t (n + 1) (drop 1 vs) h)
first_put lines t n [] h more = absurd (more refl)
first_put lines t n (v ∷ vs) h more = refl

then_on : (p : Option Mode × HeapOf) (n : ℕ) (further : HeapOf → PutAll) → is_some p.0 ≡ false → put_then p n further ≡ further p.1
then_on (None, h) n further e = refl
then_on (Some b, h) n further e = absurd (let no : true ≡ false = e in cc)

then_stops : (p : Option Mode × HeapOf) (n : ℕ) (further : HeapOf → PutAll) → is_some p.0 ≡ true → put_then p n further ≡ record { fault = p.0; heap = p.1; count = n }
then_stops (Some b, h) n further e = refl
then_stops (None, h) n further e = absurd (let no : false ≡ true = e in cc)

module _ (lines : List ℕ) (t n : ℕ) (vs : List Value) (h : HeapOf) (more : vs ≡ [] → ⊥) where
  abbrev pub put_first : Option Mode × HeapOf
  put_first = put_in lines t (value.Int (pos n)) (first vs) h

  pub goes_on : is_some put_first.0 ≡ false → put_all lines t n vs h ≡ put_all lines t (n + 1) (drop 1 vs) put_first.1
  goes_on e = rw (first_put lines t n vs h more) (then_on put_first n (λ h. put_all lines t (n + 1) (drop 1 vs) h) e)

  pub stops : is_some put_first.0 ≡ true → put_all lines t n vs h ≡ record { fault = put_first.0; heap = put_first.1; count = n }
  stops e = rw (first_put lines t n vs h more) (then_stops put_first n (λ h. put_all lines t (n + 1) (drop 1 vs) h) e)

-- what is left of values is of a later heap
pub left_own : (h k : HeapOf) (vs : List Value) → AreLater (ids_of h) (ids_of k) → AreOf (ids_of h) vs → AreOf (ids_of k) (drop 1 vs)
left_own h k vs later own = values_later (ids_of h) (ids_of k) later (drop 1 vs) (drop_own (ids_of h) 1 vs own)

-- a change of the heap behind another is one of the heap alone
pub others : (x y z : Configuration) (h : HeapOf) → y ≡ with_heap y.heap x → z ≡ with_heap h y → z ≡ with_heap z.heap x
others x y z h e f = f ∙ ap (λ w. with_heap h w) e ∙ ap (λ w. with_heap w.heap x) (sym f)
