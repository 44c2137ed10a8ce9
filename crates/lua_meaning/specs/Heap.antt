-- What a program makes: tables, captured variables, closures, iterator functions and coroutines. Each is named by its place among those of its kind. Nothing is ever given back.
use Rattle.std.specs.Prelude.{ℕ, suc, ◌+◌, ◌*◌, List, [], ◌∷◌, ◌++◌, length, Option, Some, None, slice_get, slice_set}
use Rattle.std.specs.Option.{unwrap_or}
use Rattle.zc_budget.specs.Used.{Used}
use Rattle.lua_meaning.specs.declared.iter.IterState.{IterState}
use Rattle.lua_meaning.specs.declared.value.Value.{Value}
use Rattle.lua_meaning.specs.declared.value.Value.TheVariants as value
use Rattle.lua_meaning.specs.Values.{or_nil}
use Rattle.lua_meaning.specs.Tables.{Pairs, value_at, with_pair}

-- the pairs, and the number of the metatable (Lua 5.2 manual, 2.4)
pub record TableOf : Type 0 where
  pub pairs : Pairs
  pub meta : Option ℕ

-- the Function node of a closure, and its captured variables in the order in which the node captures them
pub record ClosureOf : Type 0 where
  pub function : ℕ
  pub cells : List ℕ

-- The table of globals is number 0.
pub record HeapOf : Type 0 where
  pub tables : List TableOf
  pub cells : List Value
  pub closures : List ClosureOf
  pub iters : List IterState
  -- how many coroutines were made
  pub threads : ℕ
  pub used : Used

abbrev pub no_table : TableOf
no_table = record { pairs = []; meta = None }

abbrev pub table_at : HeapOf → ℕ → TableOf
table_at h t = unwrap_or (slice_get h.tables t) no_table

-- what stands at a key, without metamethods
abbrev pub entry : HeapOf → ℕ → Value → Value
entry h t k = value_at (table_at h t).pairs k

abbrev pub with_entry : HeapOf → ℕ → Value → Value → HeapOf
with_entry h t k v = record h { tables = slice_set h.tables t (record (table_at h t) { pairs = with_pair (table_at h t).pairs k v }) }

-- This project's own: what each costs, in bytes. A text that is written out in the program costs nothing.
abbrev pub text_bytes : List ℕ → ℕ
text_bytes s = 24 + length s

abbrev pub table_bytes : ℕ
table_bytes = 64

-- a key that is put for the first time
abbrev pub key_bytes : ℕ
key_bytes = 48

abbrev pub closure_bytes : (captured : ℕ) → ℕ
closure_bytes n = 48 + 16 * n

-- a captured variable
abbrev pub cell_bytes : ℕ
cell_bytes = 24

abbrev pub thread_bytes : ℕ
thread_bytes = 256

abbrev pub iter_bytes : ℕ
iter_bytes = 64

abbrev pub with_table : HeapOf → HeapOf
with_table h = record h { tables = h.tables ++ no_table ∷ [] }

abbrev pub with_meta : HeapOf → ℕ → Option ℕ → HeapOf
with_meta h t meta = record h { tables = slice_set h.tables t (record (table_at h t) { meta = meta }) }

abbrev pub with_cell : HeapOf → Value → HeapOf
with_cell h v = record h { cells = h.cells ++ v ∷ [] }

abbrev pub cell_at : HeapOf → ℕ → Value
cell_at h i = or_nil (slice_get h.cells i)

abbrev pub set_cell : HeapOf → ℕ → Value → HeapOf
set_cell h i v = record h { cells = slice_set h.cells i v }

abbrev pub with_closure : HeapOf → ClosureOf → HeapOf
with_closure h c = record h { closures = h.closures ++ c ∷ [] }

abbrev pub with_iter : HeapOf → IterState → HeapOf
with_iter h i = record h { iters = h.iters ++ i ∷ [] }

abbrev pub with_thread : HeapOf → HeapOf
with_thread h = record h { threads = suc h.threads }

-- only tables have metatables; what a text is indexed by is told in `Indexing`
abbrev pub metatable : HeapOf → Value → Option ℕ
metatable h (value.Table t) = (table_at h t).meta
metatable h _ = None

abbrev pub entry_of : HeapOf → Option ℕ → List ℕ → Value
entry_of h None name = value.Nil
entry_of h (Some m) name = entry h m (value.Text name)

-- the metamethod of this name, or nil (Lua 5.2 manual, 2.4)
abbrev pub metamethod : HeapOf → Value → List ℕ → Value
metamethod h v name = entry_of h (metatable h v) name
