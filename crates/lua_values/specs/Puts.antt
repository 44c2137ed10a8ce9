-- A value put into a table, without metamethods. This project's own: a key that is put for the first time is charged, and nil at a key that was never put puts nothing.
use Rattle.std.specs.Prelude.{◌≡◌, ℕ, Bool, true, false}
use Rattle.zc_budget.specs.Used.{is_over}
use Rattle.lua_meaning.specs.declared.value.Value.{Value}
use Rattle.lua_meaning.specs.declared.value.Value.TheVariants as value
use Rattle.lua_meaning.specs.Values.{is_nil}
use Rattle.lua_meaning.specs.Tables.{was_put}
use Rattle.lua_meaning.specs.Heap.{HeapOf, table_at, with_entry, key_bytes}
use Rattle.lua_values.specs.declared.fault.HeapFault.{HeapFault}
use Rattle.lua_values.specs.declared.fault.HeapFault.TheVariants as fault
use Rattle.lua_values.specs.Charges.{paid, IsNotMade}

-- whether a place is made for the key
abbrev pub IsPutBy : (there nothing : Bool) (before : HeapOf) (t : ℕ) (k v : Value) (after : HeapOf) → Type 0
IsPutBy true nothing before t k v after = after ≡ with_entry before t k v
IsPutBy false true before t k v after = after ≡ before
IsPutBy false false before t k v after = (is_over key_bytes before.used ≡ false) × (after ≡ with_entry (paid key_bytes before) t k v)

-- v was put at the key
abbrev pub IsPutAt : (before : HeapOf) (t : ℕ) (k v : Value) (after : HeapOf) → Type 0
IsPutAt before t k v after = IsPutBy (was_put (table_at before t).pairs k) (is_nil v) before t k v after

-- why nothing was put: the key is nil, or it would have been a new one, which wasn't made
pub record IsNewKey (before : HeapOf) (t : ℕ) (k v : Value) : Type 0 where
  pub new : was_put (table_at before t).pairs k ≡ false
  pub value : is_nil v ≡ false

abbrev pub IsNotPut : (before : HeapOf) (t : ℕ) (k v : Value) → HeapFault → (after : HeapOf) → Type 0
IsNotPut before t k v fault.NilKey after = (k ≡ value.Nil) × (after ≡ before)
IsNotPut before t k v f after = IsNewKey before t k v × IsNotMade key_bytes before f after
