-- The steps that runs are made of: going on, instructions, memory, errors, and what comes to be.
-- This project's own: what an instruction is, what memory costs, the texts of errors, and the most values of a list.
use Rattle.std.specs.Prelude.{ℕ, Bool, true, false, nat_lt, List, [], ◌∷◌, ◌++◌, length, if◌then◌else◌, codes, decimal}
use Rattle.zc_budget.specs.Used.{Used, is_spent, ticked, is_over, charged}
use Rattle.zc_budget.specs.declared.budget.Stop.TheVariants as stop
use Rattle.lua_meaning.specs.declared.value.Value.{Value}
use Rattle.lua_meaning.specs.declared.value.Value.TheVariants as value
use Rattle.lua_meaning.specs.Tables.{was_put}
use Rattle.lua_meaning.specs.Values.{type_name, is_nil}
use Rattle.lua_meaning.specs.Heap.{ClosureOf, text_bytes, table_at, with_entry, key_bytes, table_bytes, with_table, cell_bytes, with_cell, closure_bytes, with_closure}
use Rattle.lua_meaning.specs.Store.{Store, Resumptions, Result, Go, Halt, Ending, Raises, Stops, heap_of, with_heap, call_of}

-- what a part of a program does with a store, where a rerun has these resumptions left
abbrev pub Run : Type 0 → Type 0
Run H = Store H → Resumptions H → Result H

-- the line at work
abbrev pub line_at : List ℕ → ℕ
line_at [] = 0
line_at (line ∷ lines) = line

-- an error's text, with the line at work before it
abbrev pub error_text : List ℕ → List ℕ → List ℕ
error_text lines text = codes "[string \"channel program\"]:" ++ decimal (line_at lines) ++ codes ": " ++ text

-- the most values in one list of arguments or results
abbrev pub most_values : ℕ
most_values = 250

-- the text of an error where a value isn't of the type that is wanted
abbrev pub attempt_text : List ℕ → Value → List ℕ
attempt_text what v = codes "attempt to " ++ what ++ codes " a " ++ type_name v ++ codes " value"

module _ {H : Type 0} where
  abbrev pub go : List Value → Run H
  go vs s r = Go vs s r

  abbrev pub halt : Ending → Run H
  halt e s r = Halt e s r

  -- goes on where the first part came to its end
  abbrev pub after : Result H → (List Value → Run H) → Result H
  after (Go vs s r) k = k vs s r
  after (Halt e s r) k = Halt e s r

  abbrev pub used_of : Store H → Used
  used_of s = (heap_of s).used

  abbrev pub with_used : Used → Store H → Store H
  with_used u s = with_heap (record (heap_of s) { used = u }) s

  abbrev pub tick_by : Bool → Run H → Run H
  tick_by true k s r = Halt (Stops stop.Instructions) s r
  tick_by false k s r = k (with_used (ticked (used_of s)) s) r

  -- one instruction, or a stop where none is left
  abbrev pub tick : Run H → Run H
  tick k s r = tick_by (is_spent (used_of s)) k s r

  abbrev pub charge_by : Bool → ℕ → Run H → Run H
  charge_by true n k s r = Halt (Stops stop.Memory) s r
  charge_by false n k s r = k (with_used (charged n (used_of s)) s) r

  -- n bytes, or a stop where they would pass the limit
  abbrev pub charge : ℕ → Run H → Run H
  charge n k s r = charge_by (is_over n (used_of s)) n k s r

  -- the lines of a node of the call in progress: its own, then those at which the calls of its coroutine were made
  abbrev pub at_line : ℕ → Store H → List ℕ
  at_line line s = line ∷ (call_of s).lines

  -- raises a text, with the line at work before it
  abbrev pub fails : List ℕ → List ℕ → Run H
  fails lines text = charge (text_bytes (error_text lines text)) (halt (Raises (value.Text (error_text lines text))))

  abbrev pub fails_on : List ℕ → List ℕ → Value → Run H
  fails_on lines what v = fails lines (attempt_text what v)

  -- where a list of arguments or results has at most 250 values
  abbrev pub if_few : List ℕ → List Value → Run H → Run H
  if_few lines vs k = if nat_lt most_values (length vs) then fails lines (codes "too many values") else k

  -- What comes to be is charged first. A text is handed on as a value, a table or a captured variable by its number.
  abbrev pub new_text : List ℕ → (Value → Run H) → Run H
  new_text text k = charge (text_bytes text) (k (value.Text text))

  abbrev pub new_table : (ℕ → Run H) → Run H
  new_table k = charge table_bytes (λ s. k (length (heap_of s).tables) (with_heap (with_table (heap_of s)) s))

  abbrev pub new_cell : Value → (ℕ → Run H) → Run H
  new_cell v k = charge cell_bytes (λ s. k (length (heap_of s).cells) (with_heap (with_cell (heap_of s) v) s))

  abbrev pub new_closure : ClosureOf → Run H
  new_closure c = charge (closure_bytes (length c.cells)) (λ s. go (value.Closure (length (heap_of s).closures) ∷ []) (with_heap (with_closure (heap_of s) c) s))

  -- A key that is put for the first time is charged. Nil at a key that was never put puts nothing.
  abbrev pub put_by : (was_put nothing : Bool) → ℕ → Value → Value → Run H → Run H
  put_by true nothing t key v k s = λ r. k (with_heap (with_entry (heap_of s) t key v) s) r
  put_by false true t key v k s = λ r. k s r
  put_by false false t key v k s = charge key_bytes (λ s. k (with_heap (with_entry (heap_of s) t key v) s)) s

  -- puts a value into a table, without metamethods
  abbrev pub put : List ℕ → ℕ → Value → Value → Run H → Run H
  put lines t value.Nil v k = fails lines (codes "table index is nil")
  put lines t key v k = λ s. put_by (was_put (table_at (heap_of s) t).pairs key) (is_nil v) t key v k s
