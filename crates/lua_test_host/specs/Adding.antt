-- What each call of the host adds to the heap, and that it leaves the coroutines.
use Rattle.std.specs.Prelude.{◌≡◌, ◌≤◌, ℕ, ◌+◌, Bool, true, false, List, [], ◌∷◌, ◌++◌, length, drop, Option, Some, None, ⊤, slice_get, slice_set, codes, if◌then◌else◌}
use Rattle.std.proofs.Common.{refl, sym, subst}
use Rattle.std.proofs.Math.Nat.{le_refl, le-add_right}
use Rattle.std.proofs.lemmas.List.{length-set, length-append, append-nil}
use Rattle.lua_meaning.specs.declared.iter.IterState.{IterState}
use Rattle.lua_meaning.specs.declared.value.Value.{Value}
use Rattle.lua_meaning.specs.Values.{first}
use Rattle.zp_names.specs.declared.list_kind.ListKind.TheVariants as list
use Rattle.lua_meaning.specs.declared.iter.IterState.TheVariants as iter
use Rattle.lua_meaning.specs.Heap.{HeapOf, text_bytes, iter_bytes, with_meta, with_iter}
use Rattle.lua_meaning.specs.Runs.{error_text}
use Rattle.zc_budget.specs.Used.{is_over}
use Rattle.lua_meaning.specs.Store.{State}
use Rattle.lua_values.specs.Charges.{paid}
use Rattle.lua_values.specs.Iters.{moved_to}
use Rattle.lua_values.specs.Ids.{ids_of, AreLater}
use Rattle.lua_coroutines.specs.Hosts.{AddsOnly}
use Rattle.lua_meaning.specs.Jobs.{Values, Raise}
use Rattle.lua_meaning.specs.declared.value.Value.TheVariants as value
use Rattle.lua_test_host.specs.declared.row.Row.{Row}
use Rattle.lua_test_host.specs.declared.row.Row.TheVariants as row
use Rattle.lua_test_host.specs.FewFunctions.{HeapAnswer, costs, costs_by, raises_at_line, metatable_set, iterator_of, table_of, plain_text_in, second, answers, moved_by, gives_left, on_heap}

-- what a call leaves of the heap
pub record MakesMore (before after : HeapOf) : Type 0 where
  pub instructions : before.used.most_instructions ≡ after.used.most_instructions
  pub bytes : before.used.most_bytes ≡ after.used.most_bytes
  pub used : before.used.instructions ≤ after.used.instructions
  pub closures : before.closures ≡ after.closures
  pub ids : AreLater (ids_of before) (ids_of after)

same_later : (h : HeapOf) → AreLater (ids_of h) (ids_of h)
same_later h = record { tables = le_refl _; cells = le_refl _; closures = le_refl _; iters = le_refl _; threads = le_refl _ }

same : (h : HeapOf) → MakesMore h h
same h = record { instructions = refl; bytes = refl; used = le_refl _; closures = refl; ids = same_later h }

-- a charge, and what follows it
charged_by : (b : Bool) (n : ℕ) (k : HeapAnswer) (h : HeapOf) → MakesMore h (k (paid n h)).1 → MakesMore h (costs_by b n k h).1
charged_by true n k h a = same h
charged_by false n k h a = a

a_charge : (n : ℕ) (h : HeapOf) → MakesMore h (paid n h)
a_charge n h = record { instructions = refl; bytes = refl; used = le_refl _; closures = refl; ids = same_later h }

as_long : {X : Type 0} (xs ys : List X) → length ys ≡ length xs → length xs ≤ length ys
as_long xs ys e = subst (λ n. length xs ≤ n) (sym e) (le_refl (length xs))

longer : {X : Type 0} (xs : List X) (x : X) → length xs ≤ length (xs ++ x ∷ [])
longer xs x = subst (λ n. length xs ≤ n) (sym (length-append xs (x ∷ []))) (le-add_right (length xs) 1)

raises_adds : (text lines : List ℕ) (h : HeapOf) → MakesMore h (raises_at_line text lines h).1
raises_adds text lines h =
    let n : ℕ = text_bytes (error_text lines text) in
    charged_by (is_over n h.used) n (λ h. (Raise (value.Text (error_text lines text)), h)) h (a_charge n h)

metatable_adds : (t m : Option ℕ) (lines : List ℕ) (h : HeapOf) → MakesMore h (metatable_set t m lines h).1
metatable_adds (Some t) (Some m) lines h = record {
  instructions = refl;
  bytes = refl;
  used = le_refl _;
  closures = refl;
  ids = record { tables = as_long h.tables (with_meta h t (Some m)).tables (length-set h.tables t _); cells = le_refl _; closures = le_refl _; iters = le_refl _; threads = le_refl _ };
}
metatable_adds (Some t) None lines h = raises_adds (codes "bad argument 2 to setmetatable") lines h
metatable_adds None m lines h = raises_adds (codes "bad argument 1 to setmetatable") lines h

iterator_adds : (s : Option (List ℕ)) (lines : List ℕ) (h : HeapOf) → MakesMore h (iterator_of s lines h).1
iterator_adds (Some s) lines h = charged_by (is_over iter_bytes h.used) iter_bytes (λ k. (Values (value.Iter (length k.iters) ∷ []), with_iter k (iter.List list.Children 0 s))) h (record {
  instructions = refl;
  bytes = refl;
  used = le_refl _;
  closures = refl;
  ids = record { tables = le_refl _; cells = le_refl _; closures = le_refl _; iters = longer h.iters (iter.List list.Children 0 s); threads = le_refl _ };
})
iterator_adds None lines h = raises_adds (codes "bad argument 1 to zfs.list.children") lines h

pub answers_add : (r : Row) (args : List Value) (lines : List ℕ) (h : HeapOf) → MakesMore h (answers r args lines h).1
answers_add row.SetsMetatable args lines h = metatable_adds (table_of (first args)) (table_of (second args)) lines h
answers_add row.Raises args lines h = same h
answers_add row.Stops args lines h = same h
answers_add row.CallsForThree args lines h = same h
answers_add row.CallsForText args lines h = same h
answers_add row.GivesTwice args lines h = same h
answers_add row.MakesIterator args lines h = iterator_adds (plain_text_in (first args)) lines h
answers_add row.IsNone args lines h = raises_adds (codes "attempt to call a nil value") lines h

moved_adds : (o : Option IterState) (n i : ℕ) (last : List ℕ) (h : HeapOf) → MakesMore h (moved_by o i last (paid n h))
moved_adds None n i last h = a_charge n h
moved_adds (Some state) n i last h = record {
  instructions = refl;
  bytes = refl;
  used = le_refl _;
  closures = refl;
  ids = record { tables = le_refl _; cells = le_refl _; closures = le_refl _; iters = as_long h.iters (slice_set h.iters i (moved_to last state)) (length-set h.iters i (moved_to last state)); threads = le_refl _ };
}

given_adds : (left : List ℕ) (i : ℕ) (h : HeapOf) → MakesMore h (gives_left left i h).1
given_adds left i h =
    let n : ℕ = text_bytes left in
    charged_by (is_over n h.used) n (λ k. (Values (value.Text left ∷ []), moved_by (slice_get k.iters i) i (drop 1 left) k)) h (moved_adds (slice_get h.iters i) n i (drop 1 left) h)

pub steps_add_by : (b : Bool) (left : List ℕ) (i : ℕ) (h : HeapOf) → MakesMore h (if b then (Values (value.Nil ∷ []), h) else gives_left left i h).1
steps_add_by true left i h = same h
steps_add_by false left i h = given_adds left i h

-- no coroutine comes or goes
pub on_heap_adds : (f : HeapAnswer) (s : State ⊤) → MakesMore s.heap (f s.heap).1 → AddsOnly s (on_heap f s).1
on_heap_adds f s a = record {
  instructions = a.instructions;
  bytes = a.bytes;
  used = a.used;
  closures = a.closures;
  ids = a.ids;
  running = refl;
  threads = [];
  added = sym (append-nil s.threads);
}
