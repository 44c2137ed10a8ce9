-- What the few functions of a host for tests answer, one for each thing that a machine does with an answer. This project's own.
use Rattle.std.specs.Prelude.{ℕ, Bool, true, false, ⊤, List, [], ◌∷◌, ◌++◌, length, drop, ◌==◌, if◌then◌else◌, codes, Option, Some, None, slice_get, slice_set}
use Rattle.zc_budget.specs.Used.{is_over}
use Rattle.zc_budget.specs.declared.budget.Stop.{Stop}
use Rattle.zc_budget.specs.declared.budget.Stop.TheVariants as stop
use Rattle.zp_names.specs.declared.list_kind.ListKind.TheVariants as list
use Rattle.lua_meaning.specs.declared.builtin.Builtin.{Builtin as BuiltinOf}
use Rattle.lua_meaning.specs.declared.builtin.Builtin.TheVariants as builtin
use Rattle.lua_meaning.specs.declared.iter.IterState.{IterState}
use Rattle.lua_meaning.specs.declared.iter.IterState.TheVariants as iter
use Rattle.lua_meaning.specs.declared.value.Value.{Value}
use Rattle.lua_meaning.specs.declared.value.Value.TheVariants as value
use Rattle.lua_meaning.specs.declared.status.After.{After}
use Rattle.lua_meaning.specs.declared.status.After.TheVariants.{FirstThree, OneText}
use Rattle.lua_meaning.specs.Values.{is_nil, first}
use Rattle.lua_meaning.specs.Heap.{HeapOf, text_bytes, iter_bytes, with_meta, with_iter}
use Rattle.lua_meaning.specs.Runs.{error_text}
use Rattle.lua_meaning.specs.Store.{State}
use Rattle.lua_meaning.specs.Jobs.{Answer, Values, Raise, Stopped, CallThen, HostOf}
use Rattle.lua_values.specs.Charges.{paid}
use Rattle.lua_values.specs.Iters.{moved_to}
use Rattle.lua_values.specs.declared.fault.HeapFault.{HeapFault}
use Rattle.lua_values.specs.declared.fault.HeapFault.TheVariants as fault
use Rattle.lua_values.specs.declared.builtin_result.BuiltinResult.{BuiltinResult}
use Rattle.lua_values.specs.declared.builtin_result.BuiltinResult.TheVariants as result
use Rattle.lua_test_host.specs.declared.row.Row.{Row}
use Rattle.lua_test_host.specs.declared.row.Row.TheVariants as row

-- an answer, and the heap that it leaves
abbrev pub HeapAnswer : Type 0
HeapAnswer = HeapOf → Answer × HeapOf

-- n bytes are charged, or the program stops
abbrev pub costs_by : Bool → ℕ → HeapAnswer → HeapAnswer
costs_by true n k h = (Stopped stop.Memory, h)
costs_by false n k h = k (paid n h)

abbrev pub costs : ℕ → HeapAnswer → HeapAnswer
costs n k h = costs_by (is_over n h.used) n k h

-- raises a text, with the line at work before it
abbrev pub raises_at_line : List ℕ → (lines : List ℕ) → HeapAnswer
raises_at_line text lines = costs (text_bytes (error_text lines text)) (λ h. (Raise (value.Text (error_text lines text)), h))

abbrev pub table_of : Value → Option ℕ
table_of (value.Table t) = Some t
table_of _ = None

abbrev pub plain_text_in : Value → Option (List ℕ)
plain_text_in (value.Text s) = Some s
plain_text_in _ = None

abbrev pub second : List Value → Value
second vs = first (drop 1 vs)

-- `setmetatable(t, m)`: t, with this metatable
abbrev pub metatable_set : Option ℕ → Option ℕ → (lines : List ℕ) → HeapAnswer
metatable_set (Some t) (Some m) lines h = (Values (value.Table t ∷ []), with_meta h t (Some m))
metatable_set (Some t) None lines h = raises_at_line (codes "bad argument 2 to setmetatable") lines h
metatable_set None m lines h = raises_at_line (codes "bad argument 1 to setmetatable") lines h

-- `zfs.list.children(text)`: an iterator function that begins with this text
abbrev pub iterator_of : Option (List ℕ) → (lines : List ℕ) → HeapAnswer
iterator_of (Some s) lines h = costs iter_bytes (λ k. (Values (value.Iter (length k.iters) ∷ []), with_iter k (iter.List list.Children 0 s))) h
iterator_of None lines h = raises_at_line (codes "bad argument 1 to zfs.list.children") lines h

-- calls its first argument with the others
abbrev pub calls : After → List Value → HeapAnswer
calls after args h = (CallThen (first args) (drop 1 args) after, h)

-- the limit that stops a program
abbrev pub stop_by : (is_memory : Bool) → Stop
stop_by true = stop.Memory
stop_by false = stop.Instructions

-- the purpose of each built-in
abbrev pub row_of : BuiltinOf → Row
row_of builtin.SetMetatable = row.SetsMetatable
row_of builtin.Error = row.Raises
row_of builtin.CollectGarbage = row.Stops
row_of builtin.Pairs = row.CallsForThree
row_of builtin.ToString = row.CallsForText
row_of builtin.TableUnpack = row.GivesTwice
row_of builtin.ZfsListChildren = row.MakesIterator
row_of _ = row.IsNone

-- what is answered to these arguments
abbrev pub answers : Row → List Value → (lines : List ℕ) → HeapAnswer
answers row.SetsMetatable args lines = metatable_set (table_of (first args)) (table_of (second args)) lines
answers row.Raises args lines = λ h. (Raise (first args), h)
answers row.Stops args lines = λ h. (Stopped (stop_by (is_nil (first args))), h)
answers row.CallsForThree args lines = calls FirstThree args
answers row.CallsForText args lines = calls OneText args
answers row.GivesTwice args lines = λ h. (Values (args ++ args), h)
answers row.MakesIterator args lines = iterator_of (plain_text_in (first args)) lines
answers row.IsNone args lines = raises_at_line (codes "attempt to call a nil value") lines

-- what is left of the text of an iterator function
abbrev pub text_left : Option IterState → List ℕ
text_left (Some (iter.List kind id last)) = last
text_left _ = []

abbrev pub moved_by : Option IterState → ℕ → (last : List ℕ) → HeapOf → HeapOf
moved_by None i last h = h
moved_by (Some state) i last h = record h { iters = slice_set h.iters i (moved_to last state) }

-- An iterator function gives what is left of its text, from which the first byte falls; in the end nil.
abbrev pub gives_left : (left : List ℕ) → ℕ → HeapAnswer
gives_left left i = costs (text_bytes left) (λ h. (Values (value.Text left ∷ []), moved_by (slice_get h.iters i) i (drop 1 left) h))

abbrev pub steps_by : (left : List ℕ) → ℕ → HeapAnswer
steps_by left i h = if length left == 0 then (Values (value.Nil ∷ []), h) else gives_left left i h

abbrev pub iterator_step : ℕ → HeapAnswer
iterator_step i h = steps_by (text_left (slice_get h.iters i)) i h

-- what changes the heap alone
abbrev pub on_heap : HeapAnswer → State ⊤ → Answer × State ⊤
on_heap f s = ((f s.heap).0, record s { heap = (f s.heap).1 })

-- the meaning of the host, which has no state of its own
abbrev pub few_functions : HostOf ⊤
few_functions = record {
  call = λ b args lines. on_heap (answers (row_of b) args lines);
  step = λ i args lines. on_heap (iterator_step i);
}

-- the answer where something that a program pays for wasn't made
abbrev pub not_made : HeapFault → BuiltinResult
not_made (fault.Stop s) = result.Stop s
not_made _ = result.NoMemory
