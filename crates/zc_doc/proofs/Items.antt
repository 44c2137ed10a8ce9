-- Arrays that are read item by item.
use Rattle.std.proofs.Common.{◌≡◌, ℕ, List, [], ◌∷◌, ◌++◌, length, cond, nat_lt, Option, Some, Result, Ok, Err, refl, sym, ap, ◌∙◌}
use Rattle.serde_json.specs.Data.{Data, null, boolean, number, string, array, object, Items, no_items, item}
use Rattle.serde_json.specs.Find.{as_array}
use Rattle.serde_json.specs.View.{view, items_view}
use Rattle.serde_json.specs.Events.{items_len}
use Rattle.serde_json.proofs.Views.{items_len-items_view}
use Rattle.serde_json.specs.declared.value.Value.{Value}
use Rattle.zc_doc.specs.declared.error.DocError.{DocError}
use Rattle.zc_doc.specs.declared.error.DocError.TheVariants.{TooMany, BadType}
use Rattle.zc_doc.specs.Reading.{◌>>=◌, items_from, items_within, array_at}
use Rattle.zc_doc.specs.Document.{event_at, event_of}

-- what was found before, and what is read of the rest
abbrev pub with_front : {A : Type 0} → List A → Result (List A) DocError → Result (List A) DocError
with_front front read = read >>= λ xs. Ok (front ++ xs)

-- an array is read in its limit
array-some : {A : Type 0} (limit : ℕ) (reads : Data → Result A DocError) (d : Data) (ds : Items) → Some ds ≡ as_array d → array_at limit reads d ≡ items_within limit reads ds
array-some limit reads (array es) ds e = let is : ds ≡ es = cc in ap (items_within limit reads) (sym is)
array-some limit reads null ds e = cc
array-some limit reads (boolean b) ds e = cc
array-some limit reads (number n) ds e = cc
array-some limit reads (string s) ds e = cc
array-some limit reads (object ms) ds e = cc

pub array-is : {A : Type 0} (limit : ℕ) (reads : Data → Result A DocError) (d : Data) (vs : List Value) → Some (items_view vs) ≡ as_array d →
    array_at limit reads d ≡ cond (nat_lt limit (length vs)) (Err (TooMany [] (length vs))) (items_from reads 0 (items_view vs))
array-is limit reads d vs e = array-some limit reads d (items_view vs) e ∙ ap (λ n. cond (nat_lt limit n) (Err (TooMany [] n)) (items_from reads 0 (items_view vs))) (items_len-items_view vs)

-- ---- an array of many items is no event

long-bad : (sessions : ℕ) (a b c : Data) (ds : Items) → event_of sessions (item a (item b (item c ds))) ≡ Err (BadType [])
long-bad n (string s) b c ds = refl
long-bad n null b c ds = refl
long-bad n (boolean x) b c ds = refl
long-bad n (number x) b c ds = refl
long-bad n (array x) b c ds = refl
long-bad n (object x) b c ds = refl

event-some : (sessions : ℕ) (d : Data) (ds : Items) → Some ds ≡ as_array d → event_at sessions d ≡ event_of sessions ds
event-some n (array es) ds e = let is : ds ≡ es = cc in ap (event_of n) (sym is)
event-some n null ds e = cc
event-some n (boolean b) ds e = cc
event-some n (number x) ds e = cc
event-some n (string s) ds e = cc
event-some n (object ms) ds e = cc

pub event-bad : (sessions : ℕ) (d : Data) (vs : List Value) → Some (items_view vs) ≡ as_array d → (length vs ≡ 1 → ⊥) → (length vs ≡ 2 → ⊥) → event_at sessions d ≡ Err (BadType [])
event-bad n d [] e one two = event-some n d no_items e
event-bad n d (a ∷ []) e one two = absurd (one refl)
event-bad n d (a ∷ b ∷ []) e one two = absurd (two refl)
event-bad n d (a ∷ b ∷ c ∷ vs) e one two = event-some n d (items_view (a ∷ b ∷ c ∷ vs)) e ∙ long-bad n (view a) (view b) (view c) (items_view vs)
