-- No answer of the host resumes a coroutine or lets one yield.
use Rattle.std.specs.Prelude.{ℕ, Bool, true, false, List, [], ◌∷◌, length, Option, Some, None, drop, codes, slice_get, ◌==◌, if◌then◌else◌}
use Rattle.zc_budget.specs.Used.{is_over}
use Rattle.lua_meaning.specs.declared.value.Value.{Value}
use Rattle.lua_meaning.specs.declared.value.Value.TheVariants as value
use Rattle.lua_meaning.specs.declared.iter.IterState.TheVariants as iter
use Rattle.zp_names.specs.declared.list_kind.ListKind.TheVariants as list
use Rattle.lua_meaning.specs.Values.{first}
use Rattle.lua_meaning.specs.Heap.{HeapOf, text_bytes, iter_bytes, with_iter}
use Rattle.lua_meaning.specs.Runs.{error_text}
use Rattle.lua_meaning.specs.Jobs.{Values, Raise}
use Rattle.lua_values.specs.Charges.{paid}
use Rattle.lua_runs.specs.Serving.{IsPlain, MakesNoCoroutine}
use Rattle.lua_test_host.specs.declared.row.Row.{Row}
use Rattle.lua_test_host.specs.declared.row.Row.TheVariants as row
use Rattle.lua_test_host.specs.FewFunctions.{HeapAnswer, costs_by, raises_at_line, metatable_set, iterator_of, table_of, plain_text_in, second, row_of, answers, text_left, gives_left, moved_by, few_functions}

charged_plain : (b : Bool) (n : ℕ) (k : HeapAnswer) (h : HeapOf) → IsPlain (k (paid n h)).0 → IsPlain (costs_by b n k h).0
charged_plain true n k h p = tt
charged_plain false n k h p = p

raises_plain : (text lines : List ℕ) (h : HeapOf) → IsPlain (raises_at_line text lines h).0
raises_plain text lines h =
    let n : ℕ = text_bytes (error_text lines text) in
    charged_plain (is_over n h.used) n (λ h. (Raise (value.Text (error_text lines text)), h)) h tt

metatable_plain : (t m : Option ℕ) (lines : List ℕ) (h : HeapOf) → IsPlain (metatable_set t m lines h).0
metatable_plain (Some t) (Some m) lines h = tt
metatable_plain (Some t) None lines h = raises_plain (codes "bad argument 2 to setmetatable") lines h
metatable_plain None m lines h = raises_plain (codes "bad argument 1 to setmetatable") lines h

iterator_plain : (s : Option (List ℕ)) (lines : List ℕ) (h : HeapOf) → IsPlain (iterator_of s lines h).0
iterator_plain (Some s) lines h = charged_plain (is_over iter_bytes h.used) iter_bytes (λ k. (Values (value.Iter (length k.iters) ∷ []), with_iter k (iter.List list.Children 0 s))) h tt
iterator_plain None lines h = raises_plain (codes "bad argument 1 to zfs.list.children") lines h

answers_plain : (r : Row) (args : List Value) (lines : List ℕ) (h : HeapOf) → IsPlain (answers r args lines h).0
answers_plain row.SetsMetatable args lines h = metatable_plain (table_of (first args)) (table_of (second args)) lines h
answers_plain row.Raises args lines h = tt
answers_plain row.Stops args lines h = tt
answers_plain row.CallsForThree args lines h = tt
answers_plain row.CallsForText args lines h = tt
answers_plain row.GivesTwice args lines h = tt
answers_plain row.MakesIterator args lines h = iterator_plain (plain_text_in (first args)) lines h
answers_plain row.IsNone args lines h = raises_plain (codes "attempt to call a nil value") lines h

given_plain : (left : List ℕ) (i : ℕ) (h : HeapOf) → IsPlain (gives_left left i h).0
given_plain left i h =
    let n : ℕ = text_bytes left in
    charged_plain (is_over n h.used) n (λ k. (Values (value.Text left ∷ []), moved_by (slice_get k.iters i) i (drop 1 left) k)) h tt

steps_plain : (b : Bool) (left : List ℕ) (i : ℕ) (h : HeapOf) → IsPlain (if b then (Values (value.Nil ∷ []), h) else gives_left left i h).0
steps_plain true left i h = tt
steps_plain false left i h = given_plain left i h

pub few_plain : MakesNoCoroutine few_functions
few_plain = record {
  call = λ b args lines w. answers_plain (row_of b) args lines w.heap;
  step = λ i args lines w. steps_plain (length (text_left (slice_get w.heap.iters i)) == 0) (text_left (slice_get w.heap.iters i)) i w.heap;
}
