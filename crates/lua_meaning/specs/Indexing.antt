-- `object[key]` and `object[key] = value`, with `__index` and `__newindex` (Lua 5.2 manual, 2.4 and 3.2).
-- This project's own: the call of a metamethod and a further step are one instruction each.
use Rattle.std.specs.Prelude.{ℕ, Bool, true, false, List, [], ◌∷◌, codes}
use Rattle.lua_meaning.specs.declared.value.Value.{Value}
use Rattle.lua_meaning.specs.declared.value.Value.TheVariants as value
use Rattle.lua_meaning.specs.Values.{is_function}
use Rattle.lua_meaning.specs.Heap.{entry, metamethod}
use Rattle.lua_meaning.specs.Store.{heap_of}
use Rattle.lua_meaning.specs.Runs.{Run, go, after, tick, fails_on, put}
use Rattle.lua_meaning.specs.Jobs.{Again, Apply, Look, Put}
use Rattle.lua_meaning.specs.Operators.{by_meta}

-- the number of the table `string`, where texts look their keys up
abbrev pub string_table : ℕ
string_table = 2

module _ {H : Type 0} (again : Again H) where
  -- an `__index` that is no function is the object of a further step
  abbrev pub look_further : Bool → (handler : Value) (t : ℕ) (key : Value) → List ℕ → Run H
  look_further true f t key lines = by_meta again f (value.Table t ∷ key ∷ []) lines (λ v. v)
  look_further false o t key lines = tick (again (Look o key lines))

  abbrev pub look_by : (handler : Value) (t : ℕ) (key : Value) → List ℕ → Run H
  look_by value.Nil t key lines = go (value.Nil ∷ [])
  look_by f t key lines = look_further (is_function f) f t key lines

  abbrev pub look_in : (found : Value) (t : ℕ) (key : Value) → List ℕ → Run H
  look_in value.Nil t key lines = λ s. look_by (metamethod (heap_of s) (value.Table t) (codes "__index")) t key lines s
  look_in v t key lines = go (v ∷ [])

  -- `object[key]`
  abbrev pub look : (object key : Value) → List ℕ → Run H
  look (value.Table t) key lines = λ s. look_in (entry (heap_of s) t key) t key lines s
  look (value.Text x) key lines = λ s. look_in (entry (heap_of s) string_table key) string_table key lines s
  look o key lines = fails_on lines (codes "index") o

  -- a `__newindex` that is no function is the object of a further step
  abbrev pub put_further : Bool → (handler : Value) (t : ℕ) (key x : Value) → List ℕ → Run H
  put_further true f t key x lines = tick (λ s r. after (again (Apply f (value.Table t ∷ key ∷ x ∷ []) lines lines) s r) (λ vs. go []))
  put_further false o t key x lines = tick (again (Put o key x lines))

  abbrev pub put_else : (handler : Value) (t : ℕ) (key x : Value) → List ℕ → Run H
  put_else value.Nil t key x lines = put lines t key x (go [])
  put_else f t key x lines = put_further (is_function f) f t key x lines

  abbrev pub put_over : (found : Value) (t : ℕ) (key x : Value) → List ℕ → Run H
  put_over value.Nil t key x lines = λ s. put_else (metamethod (heap_of s) (value.Table t) (codes "__newindex")) t key x lines s
  put_over v t key x lines = put lines t key x (go [])

  -- `object[key] = value`
  abbrev pub put_at : (object key x : Value) → List ℕ → Run H
  put_at (value.Table t) key x lines = λ s. put_over (entry (heap_of s) t key) t key x lines s
  put_at o key x lines = fails_on lines (codes "index") o
