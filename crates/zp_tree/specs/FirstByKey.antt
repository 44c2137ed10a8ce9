-- What comes first by a key, in byte order, among the elements of a list that pass a test.
use Rattle.std.specs.Prelude.{ℕ, ◌≡◌, Bool, true, false, List, Option, Some, None, slice_get, MatchOption, if◌then◌else◌}
use Rattle.zp_tree.specs.NextByName.{is_above}

-- no element passes
pub record NonePasses {A : Type 0} (xs : List A) (may : A → Bool) : Type 0 where
  pub none : (k : ℕ) (x : A) → slice_get xs k ≡ Some x → may x ≡ false

-- it is in the list and passes, and no other that passes has a lesser key
pub record IsLeastBy {A : Type 0} (key : A → List ℕ) (xs : List A) (may : A → Bool) (x : A) : Type 0 where
  pub place : ℕ
  pub there : slice_get xs place ≡ Some x
  pub passes : may x ≡ true
  pub least : (k : ℕ) (y : A) → slice_get xs k ≡ Some y → may y ≡ true → is_above (key x) (key y) ≡ false

abbrev pub FirstBy : {A : Type 0} → (A → List ℕ) → List A → (A → Bool) → Option A → Type 0
FirstBy key xs may found = MatchOption found (NonePasses xs may) (IsLeastBy key xs may)

-- what is new, where it passes and has a lesser key than what was found
abbrev pub sooner : {A : Type 0} → (A → List ℕ) → A → Option A → Option A
sooner key x None = Some x
sooner key x (Some old) = if is_above (key old) (key x) then Some x else Some old

abbrev pub first_of : {A : Type 0} → (A → List ℕ) → Bool → Option A → A → Option A
first_of key may found x = if may then sooner key x found else found
