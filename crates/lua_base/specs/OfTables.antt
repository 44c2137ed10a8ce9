-- Basic functions over tables (Lua 5.2 manual, 6.1).
-- This project's own: what they cost and the texts of errors; `ipairs` without `__ipairs` reads without metamethods; a text has no metatable here; a walk goes in the order in which keys were first put.
use Rattle.std.specs.Prelude.{ℕ, pos, ◌+ℤ◌, Bool, true, false, List, [], ◌∷◌, length, codes, Option, Some, None}
use Rattle.lua_meaning.specs.declared.builtin.Builtin.TheVariants as builtin
use Rattle.lua_meaning.specs.declared.value.Value.{Value}
use Rattle.lua_meaning.specs.declared.value.Value.TheVariants as value
use Rattle.lua_meaning.specs.declared.status.After.TheVariants.{FirstThree}
use Rattle.lua_meaning.specs.Values.{is_nil, or_nil}
use Rattle.lua_meaning.specs.Numbers.{wrapped}
use Rattle.lua_meaning.specs.Tables.{Pairs, was_put, border, pairs_behind, skipped, next_pair}
use Rattle.lua_meaning.specs.Heap.{HeapOf, table_at, entry, with_entry, with_meta, metatable, metamethod, key_bytes}
use Rattle.lua_meaning.specs.Jobs.{Values, CallThen}
use Rattle.lua_arguments.specs.Answering.{Calling, gives_values, gives_value, raises_at}
use Rattle.lua_arguments.specs.Spending.{charges, ticks}
use Rattle.lua_arguments.specs.Arguments.{argument, table_in, table_argument, number_argument}
use Rattle.lua_arguments.specs.BadArguments.{with_argument}

-- `getmetatable`: what stands at `__metatable`, or else the metatable
abbrev pub shown_metatable : (protected : Value) → Option ℕ → Value
shown_metatable value.Nil None = value.Nil
shown_metatable value.Nil (Some m) = value.Table m
shown_metatable v m = v

abbrev pub get_metatable_call : List Value → (lines : List ℕ) → Calling
get_metatable_call args lines = with_argument 1 builtin.GetMetatable lines (argument args 0) (λ v h. gives_value (shown_metatable (metamethod h v (codes "__metatable")) (metatable h v)) h)

-- a table, or nil for none
abbrev pub metatable_in : Option Value → Option (Option ℕ)
metatable_in (Some value.Nil) = Some None
metatable_in (Some (value.Table m)) = Some (Some m)
metatable_in v = None

abbrev pub sets_metatable : (protected : Value) → ℕ → Option ℕ → (lines : List ℕ) → Calling
sets_metatable value.Nil t m lines = λ h. (Values (value.Table t ∷ []), with_meta h t m)
sets_metatable v t m lines = raises_at lines (codes "cannot change a protected metatable")

abbrev pub set_metatable_call : List Value → (lines : List ℕ) → Calling
set_metatable_call args lines = with_argument 1 builtin.SetMetatable lines (table_argument args 0) (λ t. with_argument 2 builtin.SetMetatable lines (metatable_in (argument args 1)) (λ m h. sets_metatable (metamethod h (value.Table t) (codes "__metatable")) t m lines h))

-- by a metamethod, of whose results the first three are given, or else in the other way
abbrev pub iterates : (metamethod v : Value) → Calling → Calling
iterates value.Nil v other = other
iterates f v other = λ h. (CallThen f (v ∷ []) FirstThree, h)

abbrev pub ipairs_call : List Value → (lines : List ℕ) → Calling
ipairs_call args lines = with_argument 1 builtin.Ipairs lines (argument args 0) (λ v h. iterates (metamethod h v (codes "__ipairs")) v
    (with_argument 1 builtin.Ipairs lines (table_argument args 0) (λ t. gives_values (value.Builtin builtin.IpairsIterator ∷ value.Table t ∷ value.Int (pos 0) ∷ []))) h)

-- a key and its value, or nil where there is no value
abbrev pub item_at : (key v : Value) → List Value
item_at key value.Nil = value.Nil ∷ []
item_at key v = key ∷ v ∷ []

-- the iterator of `ipairs`: the item at the next number
abbrev pub ipairs_iterator_call : List Value → (lines : List ℕ) → Calling
ipairs_iterator_call args lines = with_argument 1 builtin.IpairsIterator lines (table_argument args 0) (λ t. with_argument 2 builtin.IpairsIterator lines (number_argument args 1) (λ i h.
    gives_values (item_at (value.Int (wrapped (i +ℤ pos 1))) (entry h t (value.Int (wrapped (i +ℤ pos 1))))) h))

abbrev pub pairs_call : List Value → (lines : List ℕ) → Calling
pairs_call args lines = with_argument 1 builtin.Pairs lines (argument args 0) (λ v h. iterates (metamethod h v (codes "__pairs")) v
    (with_argument 1 builtin.Pairs lines (table_argument args 0) (λ t. gives_values (value.Builtin builtin.Next ∷ value.Table t ∷ value.Nil ∷ []))) h)

abbrev pub pair_values : Option (Value × Value) → List Value
pair_values None = value.Nil ∷ []
pair_values (Some p) = p.0 ∷ p.1 ∷ []

-- `next`: each place that is skipped is an instruction
abbrev pub walk_behind : Option Pairs → (lines : List ℕ) → Calling
walk_behind None lines = raises_at lines (codes "invalid key to next")
walk_behind (Some rest) lines = ticks (skipped rest) (gives_values (pair_values (next_pair rest)))

abbrev pub next_call : List Value → (lines : List ℕ) → Calling
next_call args lines = with_argument 1 builtin.Next lines (table_argument args 0) (λ t h. walk_behind (pairs_behind (table_at h t).pairs (or_nil (argument args 1))) lines h)

abbrev pub raw_get_call : List Value → (lines : List ℕ) → Calling
raw_get_call args lines = with_argument 1 builtin.RawGet lines (table_argument args 0) (λ t. with_argument 2 builtin.RawGet lines (argument args 1) (λ key h. gives_value (entry h t key) h))

-- `rawlen`: of a table or a text
abbrev pub raw_length : HeapOf → Option Value → Option ℕ
raw_length h (Some (value.Table t)) = Some (border (table_at h t).pairs)
raw_length h (Some (value.Text s)) = Some (length s)
raw_length h v = None

abbrev pub raw_len_call : List Value → (lines : List ℕ) → Calling
raw_len_call args lines h = with_argument 1 builtin.RawLen lines (raw_length h (argument args 0)) (λ n. gives_value (value.Int (pos n))) h

-- A key that is put for the first time is charged. Nil at a key that was never put puts nothing.
abbrev pub stores_by : (there nothing : Bool) → ℕ → (key v : Value) → Calling → Calling
stores_by true nothing t key v next = λ h. next (with_entry h t key v)
stores_by false true t key v next = next
stores_by false false t key v next = charges key_bytes (λ h. next (with_entry h t key v))

abbrev pub stores : ℕ → (key v : Value) → (lines : List ℕ) → Calling → Calling
stores t value.Nil v lines next = raises_at lines (codes "table index is nil")
stores t key v lines next = λ h. stores_by (was_put (table_at h t).pairs key) (is_nil v) t key v next h

abbrev pub raw_set_call : List Value → (lines : List ℕ) → Calling
raw_set_call args lines = with_argument 1 builtin.RawSet lines (table_argument args 0) (λ t. with_argument 2 builtin.RawSet lines (argument args 1) (λ key. with_argument 3 builtin.RawSet lines (argument args 2) (λ v. stores t key v lines (gives_value (value.Table t)))))
