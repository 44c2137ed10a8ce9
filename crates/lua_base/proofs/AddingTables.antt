-- Basic functions over tables only add to the heap.
use Rattle.std.proofs.Common.{◌≡◌, ℕ, ℤ, pos, ◌+ℤ◌, ◌≤◌, Bool, true, false, refl, sym, subst, List, [], ◌∷◌, length, Option, Some, None}
use Rattle.std.specs.Prelude.{codes, slice_set}
use Rattle.std.proofs.lemmas.List.{length-set}
use Rattle.std.proofs.Math.Nat.{le_refl}
use Rattle.lua_meaning.specs.declared.builtin.Builtin.TheVariants as builtin
use Rattle.lua_meaning.specs.declared.value.Value.{Value}
use Rattle.lua_meaning.specs.declared.value.Value.TheVariants as value
use Rattle.lua_meaning.specs.declared.status.After.TheVariants.{FirstThree}
use Rattle.lua_meaning.specs.Values.{is_nil, or_nil}
use Rattle.lua_meaning.specs.Numbers.{wrapped}
use Rattle.lua_meaning.specs.Tables.{Pairs, was_put, pairs_behind, skipped, next_pair}
use Rattle.lua_meaning.specs.Heap.{HeapOf, TableOf, table_at, entry, with_entry, with_meta, metatable, metamethod, key_bytes}
use Rattle.lua_meaning.specs.Jobs.{Values, CallThen}
use Rattle.lua_values.specs.Ids.{ids_of, AreLater}
use Rattle.lua_arguments.specs.Answering.{Calling, gives_values, gives_value}
use Rattle.lua_arguments.specs.Arguments.{argument, table_argument, number_argument}
use Rattle.lua_arguments.specs.Extending.{Extends, Adds, OnlyAdds}
use Rattle.lua_arguments.proofs.Adding.{later_here, answers_add, adds_on, charges_add, ticks_add, raises_at_adds, with_argument_adds}
use Rattle.lua_base.specs.declared.function.TableFunction.{TableFunction}
use Rattle.lua_base.specs.declared.function.TableFunction.TheVariants as tables
use Rattle.lua_base.specs.OfTables.{shown_metatable, get_metatable_call, metatable_in, sets_metatable, set_metatable_call, iterates, ipairs_call, item_at, ipairs_iterator_call, pairs_call, pair_values, walk_behind, next_call, raw_get_call, raw_length, raw_len_call, stores_by, stores, raw_set_call}
use Rattle.lua_base.specs.BaseCalls.{table_call}
use Rattle.lua_base.proofs.AddingValues.{gives_add}

-- a table in place of another
extends_put : (h : HeapOf) (t : ℕ) (x : TableOf) → Extends h (record h { tables = slice_set h.tables t x })
extends_put h t x = record {
  most_instructions = refl;
  most_bytes = refl;
  instructions = le_refl h.used.instructions;
  bytes = le_refl h.used.bytes;
  within = λ within. within;
  closures = refl;
  threads = refl;
  ids = subst (λ (n : ℕ). AreLater (ids_of h) (record (ids_of h) { tables = n })) (sym (length-set h.tables t x)) (later_here (ids_of h));
}

sets_adds : (protected : Value) (t : ℕ) (m : Option ℕ) (lines : List ℕ) → OnlyAdds (sets_metatable protected t m lines)
sets_adds value.Nil t m lines h = record { extends = extends_put h t (record (table_at h t) { meta = m }); plain = tt }
sets_adds (value.Bool b) t m lines h = raises_at_adds lines (codes "cannot change a protected metatable") h
sets_adds (value.Int z) t m lines h = raises_at_adds lines (codes "cannot change a protected metatable") h
sets_adds (value.Text s) t m lines h = raises_at_adds lines (codes "cannot change a protected metatable") h
sets_adds (value.Table i) t m lines h = raises_at_adds lines (codes "cannot change a protected metatable") h
sets_adds (value.Closure i) t m lines h = raises_at_adds lines (codes "cannot change a protected metatable") h
sets_adds (value.Builtin b) t m lines h = raises_at_adds lines (codes "cannot change a protected metatable") h
sets_adds (value.Iter i) t m lines h = raises_at_adds lines (codes "cannot change a protected metatable") h
sets_adds (value.Thread i) t m lines h = raises_at_adds lines (codes "cannot change a protected metatable") h

iterates_adds : (f v : Value) (other : Calling) → OnlyAdds other → OnlyAdds (iterates f v other)
iterates_adds value.Nil v other adds = adds
iterates_adds (value.Bool b) v other adds = answers_add (CallThen (value.Bool b) (v ∷ []) FirstThree) tt
iterates_adds (value.Int z) v other adds = answers_add (CallThen (value.Int z) (v ∷ []) FirstThree) tt
iterates_adds (value.Text s) v other adds = answers_add (CallThen (value.Text s) (v ∷ []) FirstThree) tt
iterates_adds (value.Table t) v other adds = answers_add (CallThen (value.Table t) (v ∷ []) FirstThree) tt
iterates_adds (value.Closure i) v other adds = answers_add (CallThen (value.Closure i) (v ∷ []) FirstThree) tt
iterates_adds (value.Builtin b) v other adds = answers_add (CallThen (value.Builtin b) (v ∷ []) FirstThree) tt
iterates_adds (value.Iter i) v other adds = answers_add (CallThen (value.Iter i) (v ∷ []) FirstThree) tt
iterates_adds (value.Thread i) v other adds = answers_add (CallThen (value.Thread i) (v ∷ []) FirstThree) tt

get_metatable_adds : (args : List Value) (lines : List ℕ) → OnlyAdds (get_metatable_call args lines)
get_metatable_adds args lines = with_argument_adds 1 builtin.GetMetatable lines (argument args 0) _ (λ v h. gives_add (shown_metatable (metamethod h v (codes "__metatable")) (metatable h v) ∷ []) h)

set_metatable_adds : (args : List Value) (lines : List ℕ) → OnlyAdds (set_metatable_call args lines)
set_metatable_adds args lines = with_argument_adds 1 builtin.SetMetatable lines (table_argument args 0) _ (λ t. with_argument_adds 2 builtin.SetMetatable lines (metatable_in (argument args 1)) _ (λ m h. sets_adds (metamethod h (value.Table t) (codes "__metatable")) t m lines h))

ipairs_adds : (args : List Value) (lines : List ℕ) → OnlyAdds (ipairs_call args lines)
ipairs_adds args lines = with_argument_adds 1 builtin.Ipairs lines (argument args 0) _ (λ v h. iterates_adds (metamethod h v (codes "__ipairs")) v _
    (with_argument_adds 1 builtin.Ipairs lines (table_argument args 0) _ (λ t. gives_add (value.Builtin builtin.IpairsIterator ∷ value.Table t ∷ value.Int (pos 0) ∷ []))) h)

pairs_adds : (args : List Value) (lines : List ℕ) → OnlyAdds (pairs_call args lines)
pairs_adds args lines = with_argument_adds 1 builtin.Pairs lines (argument args 0) _ (λ v h. iterates_adds (metamethod h v (codes "__pairs")) v _
    (with_argument_adds 1 builtin.Pairs lines (table_argument args 0) _ (λ t. gives_add (value.Builtin builtin.Next ∷ value.Table t ∷ value.Nil ∷ []))) h)

iterator_adds : (args : List Value) (lines : List ℕ) → OnlyAdds (ipairs_iterator_call args lines)
iterator_adds args lines = with_argument_adds 1 builtin.IpairsIterator lines (table_argument args 0) _ (λ t. with_argument_adds 2 builtin.IpairsIterator lines (number_argument args 1) _ (λ i h.
    gives_add (item_at (value.Int (wrapped (i +ℤ pos 1))) (entry h t (value.Int (wrapped (i +ℤ pos 1))))) h))

walks_add : (rest : Option Pairs) (lines : List ℕ) → OnlyAdds (walk_behind rest lines)
walks_add None lines = raises_at_adds lines (codes "invalid key to next")
walks_add (Some rest) lines = ticks_add (skipped rest) (gives_values (pair_values (next_pair rest))) (gives_add (pair_values (next_pair rest)))

next_adds : (args : List Value) (lines : List ℕ) → OnlyAdds (next_call args lines)
next_adds args lines = with_argument_adds 1 builtin.Next lines (table_argument args 0) _ (λ t h. walks_add (pairs_behind (table_at h t).pairs (or_nil (argument args 1))) lines h)

raw_get_adds : (args : List Value) (lines : List ℕ) → OnlyAdds (raw_get_call args lines)
raw_get_adds args lines = with_argument_adds 1 builtin.RawGet lines (table_argument args 0) _ (λ t. with_argument_adds 2 builtin.RawGet lines (argument args 1) _ (λ key h. gives_add (entry h t key ∷ []) h))

raw_len_adds : (args : List Value) (lines : List ℕ) → OnlyAdds (raw_len_call args lines)
raw_len_adds args lines h = with_argument_adds 1 builtin.RawLen lines (raw_length h (argument args 0)) (λ n. gives_value (value.Int (pos n))) (λ n. gives_add (value.Int (pos n) ∷ [])) h

puts_add : (t : ℕ) (key v : Value) (next : Calling) → OnlyAdds next → OnlyAdds (λ h. next (with_entry h t key v))
puts_add t key v next adds h = adds_on h (with_entry h t key v) (next (with_entry h t key v)) (extends_put h t _) (adds (with_entry h t key v))

stores_by_adds : (there nothing : Bool) (t : ℕ) (key v : Value) (next : Calling) → OnlyAdds next → OnlyAdds (stores_by there nothing t key v next)
stores_by_adds true nothing t key v next adds = puts_add t key v next adds
stores_by_adds false true t key v next adds = adds
stores_by_adds false false t key v next adds = charges_add key_bytes (λ h. next (with_entry h t key v)) (puts_add t key v next adds)

pub stores_add : (t : ℕ) (key v : Value) (lines : List ℕ) (next : Calling) → OnlyAdds next → OnlyAdds (stores t key v lines next)
stores_add t value.Nil v lines next adds h = raises_at_adds lines (codes "table index is nil") h
stores_add t (value.Bool b) v lines next adds h = stores_by_adds (was_put (table_at h t).pairs (value.Bool b)) (is_nil v) t (value.Bool b) v next adds h
stores_add t (value.Int z) v lines next adds h = stores_by_adds (was_put (table_at h t).pairs (value.Int z)) (is_nil v) t (value.Int z) v next adds h
stores_add t (value.Text s) v lines next adds h = stores_by_adds (was_put (table_at h t).pairs (value.Text s)) (is_nil v) t (value.Text s) v next adds h
stores_add t (value.Table i) v lines next adds h = stores_by_adds (was_put (table_at h t).pairs (value.Table i)) (is_nil v) t (value.Table i) v next adds h
stores_add t (value.Closure i) v lines next adds h = stores_by_adds (was_put (table_at h t).pairs (value.Closure i)) (is_nil v) t (value.Closure i) v next adds h
stores_add t (value.Builtin b) v lines next adds h = stores_by_adds (was_put (table_at h t).pairs (value.Builtin b)) (is_nil v) t (value.Builtin b) v next adds h
stores_add t (value.Iter i) v lines next adds h = stores_by_adds (was_put (table_at h t).pairs (value.Iter i)) (is_nil v) t (value.Iter i) v next adds h
stores_add t (value.Thread i) v lines next adds h = stores_by_adds (was_put (table_at h t).pairs (value.Thread i)) (is_nil v) t (value.Thread i) v next adds h

raw_set_adds : (args : List Value) (lines : List ℕ) → OnlyAdds (raw_set_call args lines)
raw_set_adds args lines = with_argument_adds 1 builtin.RawSet lines (table_argument args 0) _ (λ t. with_argument_adds 2 builtin.RawSet lines (argument args 1) _ (λ key. with_argument_adds 3 builtin.RawSet lines (argument args 2) _ (λ v. stores_add t key v lines (gives_value (value.Table t)) (gives_add (value.Table t ∷ [])))))

pub table_adds : (f : TableFunction) (args : List Value) (lines : List ℕ) → OnlyAdds (table_call f args lines)
table_adds tables.GetMetatable args lines = get_metatable_adds args lines
table_adds tables.SetMetatable args lines = set_metatable_adds args lines
table_adds tables.Ipairs args lines = ipairs_adds args lines
table_adds tables.IpairsIterator args lines = iterator_adds args lines
table_adds tables.Pairs args lines = pairs_adds args lines
table_adds tables.Next args lines = next_adds args lines
table_adds tables.RawGet args lines = raw_get_adds args lines
table_adds tables.RawLen args lines = raw_len_adds args lines
table_adds tables.RawSet args lines = raw_set_adds args lines
