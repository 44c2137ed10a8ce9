-- How far a table is filled from key 1 on: what makes its border quick to find.
use Rattle.std.specs.Prelude.{◌≡◌, ℕ, suc, ◌+◌, ◌<◌, ◌≤◌, pos, Bool, true, false, ◌==◌, min, if◌then◌else◌, length}
use Rattle.lua_meaning.specs.declared.value.Value.{Value}
use Rattle.lua_meaning.specs.declared.value.Value.TheVariants as value
use Rattle.lua_meaning.specs.Values.{is_nil}
use Rattle.lua_meaning.specs.Tables.{Pairs, value_at}

-- the number that is one more than the place
abbrev pub item_key : (place : ℕ) → Value
item_key place = value.Int (pos (place + 1))

-- At each key from 1 to n there is a value.
pub record IsFilled (n : ℕ) (ps : Pairs) : Type 0 where
  pub within : n ≤ length ps
  pub at : (place : ℕ) → place < n → is_nil (value_at ps (item_key place)) ≡ false

-- how far it is known to be filled once a value, or nil, is put at the key of a place
abbrev pub filled_at : (nothing : Bool) (filled place : ℕ) → ℕ
filled_at true filled place = min filled place
filled_at false filled place = if place == filled then filled + 1 else filled

abbrev pub filled_by : ℕ → (key v : Value) → ℕ
filled_by filled (value.Int (pos (suc place))) v = filled_at (is_nil v) filled place
filled_by filled key v = filled
