-- The numbers of what a program has made. A number is of a heap where the heap has something under it; what a heap holds has such numbers alone.
use Rattle.std.specs.Prelude.{◌≡◌, ℕ, ◌<◌, ◌≤◌, ⊤, length, All, Some}
use Rattle.lua_meaning.specs.declared.iter.IterState.{IterState}
use Rattle.lua_meaning.specs.declared.iter.IterState.TheVariants as iter
use Rattle.lua_meaning.specs.declared.value.Value.{Value}
use Rattle.lua_meaning.specs.declared.value.Value.TheVariants as value
use Rattle.lua_meaning.specs.Heap.{HeapOf, TableOf, ClosureOf}

-- How many there are of each kind; their numbers are those below. Coroutines begin with 1, since the main thread is 0.
pub record Ids : Type 0 where
  pub tables : ℕ
  pub cells : ℕ
  pub closures : ℕ
  pub iters : ℕ
  pub threads : ℕ

abbrev pub ids_of : HeapOf → Ids
ids_of h = record { tables = length h.tables; cells = length h.cells; closures = length h.closures; iters = length h.iters; threads = h.threads }

-- None has become fewer.
pub record AreLater (before after : Ids) : Type 0 where
  pub tables : before.tables ≤ after.tables
  pub cells : before.cells ≤ after.cells
  pub closures : before.closures ≤ after.closures
  pub iters : before.iters ≤ after.iters
  pub threads : before.threads ≤ after.threads

abbrev pub IsOf : Ids → Value → Type 0
IsOf ids (value.Table t) = t < ids.tables
IsOf ids (value.Closure c) = c < ids.closures
IsOf ids (value.Iter i) = i < ids.iters
IsOf ids (value.Thread i) = i ≤ ids.threads
IsOf ids _ = ⊤

-- the key and the value
pub record IsOwnPair (ids : Ids) (p : Value × Value) : Type 0 where
  pub key : IsOf ids p.0
  pub value : IsOf ids p.1

pub record IsOwnTable (ids : Ids) (t : TableOf) : Type 0 where
  pub pairs : All (IsOwnPair ids) t.pairs
  pub meta : (m : ℕ) → t.meta ≡ Some m → m < ids.tables

abbrev pub IsOwnClosure : Ids → ClosureOf → Type 0
IsOwnClosure ids c = All (λ i. i < ids.cells) c.cells

abbrev pub IsOwnIter : Ids → IterState → Type 0
IsOwnIter ids (iter.Wrap i) = i ≤ ids.threads
IsOwnIter ids _ = ⊤

-- how many tables a program starts with: theirs are the first numbers
abbrev pub tables_at_start : ℕ
tables_at_start = 8

-- Every number that the heap holds is its own, and the tables that a program starts with are there.
pub record AreOwn (h : HeapOf) : Type 0 where
  pub start : tables_at_start ≤ length h.tables
  pub tables : All (IsOwnTable (ids_of h)) h.tables
  pub cells : All (IsOf (ids_of h)) h.cells
  pub closures : All (IsOwnClosure (ids_of h)) h.closures
  pub iters : All (IsOwnIter (ids_of h)) h.iters
