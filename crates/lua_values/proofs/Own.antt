-- Changes of a heap leave its numbers its own.
use Rattle.std.proofs.Common.{◌≡◌, ℕ, ◌<◌, ◌≤◌, refl, ap, sym, subst, Some, None, [], ◌∷◌, length, arith, All, is_some, true≢false}
use Rattle.std.proofs.lemmas.List.Elements.{All-nil, All-weaker, All-push, All-set}
use Rattle.std.proofs.Common.{length-append, length-set}
use Rattle.lua_meaning.specs.declared.iter.IterState.{IterState}
use Rattle.lua_meaning.specs.declared.iter.IterState.TheVariants as iter
use Rattle.lua_meaning.specs.declared.value.Value.{Value}
use Rattle.lua_meaning.specs.declared.value.Value.TheVariants as value
use Rattle.lua_meaning.specs.Heap.{HeapOf, TableOf, ClosureOf, with_table, with_cell, with_closure, with_iter, set_cell, no_table}
use Rattle.zc_budget.specs.Used.{Used}
use Rattle.lua_values.specs.Ids.{Ids, ids_of, AreLater, IsOf, IsOwnPair, IsOwnTable, IsOwnClosure, IsOwnIter, AreOwn, tables_at_start}

module _ (a b : Ids) (later : AreLater a b) where
  pub value_later : (v : Value) → IsOf a v → IsOf b v
  value_later (value.Table t) own = omega (arith, own, later.tables)
  value_later (value.Closure t) own = omega (arith, own, later.closures)
  value_later (value.Iter t) own = omega (arith, own, later.iters)
  value_later (value.Thread t) own = omega (arith, own, later.threads)
  value_later v own = tt

  pair_later : (p : Value × Value) → IsOwnPair a p → IsOwnPair b p
  pair_later p own = record { key = value_later p.0 own.key; value = value_later p.1 own.value }

  table_later : (t : TableOf) → IsOwnTable a t → IsOwnTable b t
  table_later t own = record {
    pairs = All-weaker (IsOwnPair a) (IsOwnPair b) pair_later t.pairs own.pairs;
    meta = λ m e. let below = own.meta m e in omega (arith, below, later.tables);
  }

  closure_later : (c : ClosureOf) → IsOwnClosure a c → IsOwnClosure b c
  closure_later c own = All-weaker (λ i. i < a.cells) (λ i. i < b.cells) (λ i l. omega (arith, l, later.cells)) c.cells own

  iter_later : (i : IterState) → IsOwnIter a i → IsOwnIter b i
  iter_later (iter.Wrap i) own = omega (arith, own, later.threads)
  iter_later (iter.List kind id last) own = tt

  -- what a heap had is its own later too
  pub own_later : (h : HeapOf) → AreOwn h → ids_of h ≡ a →
      All (IsOwnTable b) h.tables × All (IsOf b) h.cells × All (IsOwnClosure b) h.closures × All (IsOwnIter b) h.iters
  own_later h own e = (
    All-weaker (IsOwnTable a) (IsOwnTable b) table_later h.tables (subst (λ ids. All (IsOwnTable ids) h.tables) e own.tables),
    All-weaker (IsOf a) (IsOf b) value_later h.cells (subst (λ ids. All (IsOf ids) h.cells) e own.cells),
    All-weaker (IsOwnClosure a) (IsOwnClosure b) closure_later h.closures (subst (λ ids. All (IsOwnClosure ids) h.closures) e own.closures),
    All-weaker (IsOwnIter a) (IsOwnIter b) iter_later h.iters (subst (λ ids. All (IsOwnIter ids) h.iters) e own.iters),
  )

later_by : (h k : HeapOf) → length h.tables ≤ length k.tables → length h.cells ≤ length k.cells → length h.closures ≤ length k.closures → length h.iters ≤ length k.iters → h.threads ≤ k.threads → AreLater (ids_of h) (ids_of k)
later_by h k t c l i n = record { tables = t; cells = c; closures = l; iters = i; threads = n }

none_is_some : (m : ℕ) → None ≡ Some m → ⊥
none_is_some m e = true≢false (sym (ap is_some e))

pub no_table_own : (ids : Ids) → IsOwnTable ids no_table
no_table_own ids = record { pairs = All-nil (IsOwnPair ids); meta = λ m e. absurd (none_is_some m e) }

pub own_used : (h : HeapOf) (u : Used) → AreOwn h → AreOwn (record h { used = u })
own_used h u own = record { start = own.start; tables = own.tables; cells = own.cells; closures = own.closures; iters = own.iters }

pub own_with_table : (h : HeapOf) → AreOwn h → AreOwn (with_table h)
own_with_table h own =
    let later = later_by h (with_table h) (omega (arith, length-append h.tables (no_table ∷ []))) (omega arith) (omega arith) (omega arith) (omega arith) in
    let all = own_later (ids_of h) (ids_of (with_table h)) later h own refl in
    record {
      start = omega (arith, own.start, length-append h.tables (no_table ∷ []));
      tables = All-push (IsOwnTable (ids_of (with_table h))) h.tables no_table all.0 (no_table_own (ids_of (with_table h)));
      cells = all.1;
      closures = all.2;
      iters = all.3;
    }

pub own_with_cell : (h : HeapOf) (v : Value) → IsOf (ids_of h) v → AreOwn h → AreOwn (with_cell h v)
own_with_cell h v is own =
    let later = later_by h (with_cell h v) (omega arith) (omega (arith, length-append h.cells (v ∷ []))) (omega arith) (omega arith) (omega arith) in
    let all = own_later (ids_of h) (ids_of (with_cell h v)) later h own refl in
    record {
      start = own.start;
      tables = all.0;
      cells = All-push (IsOf (ids_of (with_cell h v))) h.cells v all.1 (value_later (ids_of h) (ids_of (with_cell h v)) later v is);
      closures = all.2;
      iters = all.3;
    }

pub own_with_closure : (h : HeapOf) (c : ClosureOf) → IsOwnClosure (ids_of h) c → AreOwn h → AreOwn (with_closure h c)
own_with_closure h c is own =
    let later = later_by h (with_closure h c) (omega arith) (omega arith) (omega (arith, length-append h.closures (c ∷ []))) (omega arith) (omega arith) in
    let all = own_later (ids_of h) (ids_of (with_closure h c)) later h own refl in
    record {
      start = own.start;
      tables = all.0;
      cells = all.1;
      closures = All-push (IsOwnClosure (ids_of (with_closure h c))) h.closures c all.2 is;
      iters = all.3;
    }

pub own_with_iter : (h : HeapOf) (i : IterState) → IsOwnIter (ids_of h) i → AreOwn h → AreOwn (with_iter h i)
own_with_iter h i is own =
    let later = later_by h (with_iter h i) (omega arith) (omega arith) (omega arith) (omega (arith, length-append h.iters (i ∷ []))) (omega arith) in
    let all = own_later (ids_of h) (ids_of (with_iter h i)) later h own refl in
    record {
      start = own.start;
      tables = all.0;
      cells = all.1;
      closures = all.2;
      iters = All-push (IsOwnIter (ids_of (with_iter h i))) h.iters i all.3 (iter_later (ids_of h) (ids_of (with_iter h i)) later i is);
    }

pub own_with_threads : (h : HeapOf) (n : ℕ) → h.threads ≤ n → AreOwn h → AreOwn (record h { threads = n })
own_with_threads h n more own =
    let later = later_by h (record h { threads = n }) (omega arith) (omega arith) (omega arith) (omega arith) more in
    let all = own_later (ids_of h) (ids_of (record h { threads = n })) later h own refl in
    record { start = own.start; tables = all.0; cells = all.1; closures = all.2; iters = all.3 }

-- The counts stay, and each list has own numbers alone.
pub own_same : (h k : HeapOf) → tables_at_start ≤ length h.tables → ids_of k ≡ ids_of h → All (IsOwnTable (ids_of h)) k.tables → All (IsOf (ids_of h)) k.cells → All (IsOwnClosure (ids_of h)) k.closures → All (IsOwnIter (ids_of h)) k.iters → AreOwn k
own_same h k start e t c l i = record {
  start = subst (λ ids. tables_at_start ≤ ids.tables) (sym e) start;
  tables = subst (λ ids. All (IsOwnTable ids) k.tables) (sym e) t;
  cells = subst (λ ids. All (IsOf ids) k.cells) (sym e) c;
  closures = subst (λ ids. All (IsOwnClosure ids) k.closures) (sym e) l;
  iters = subst (λ ids. All (IsOwnIter ids) k.iters) (sym e) i;
}

pub own_set_cell : (h : HeapOf) (i : ℕ) (v : Value) → IsOf (ids_of h) v → AreOwn h → AreOwn (set_cell h i v)
own_set_cell h i v is own =
    own_same h (set_cell h i v) own.start (ap (λ n. record (ids_of h) { cells = n }) (length-set h.cells i v))
    own.tables (All-set (IsOf (ids_of h)) h.cells i v is own.cells) own.closures own.iters
