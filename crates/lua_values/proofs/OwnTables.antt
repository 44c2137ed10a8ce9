-- The numbers in tables are a heap's own.
use Rattle.std.proofs.Common.{◌≡◌, ℕ, ◌<◌, Bool, true, false, refl, ap, sym, subst, ◌∙◌, Option, Some, None, List, [], ◌∷◌, length, length-set, All, if◌then◌else◌, slice_get, true≢false, is_some, get_or, IfSome}
use Rattle.std.specs.Prelude.{slice_set}
use Rattle.std.specs.Map.{lookup}
use Rattle.std.specs.Option.{unwrap_or}
use Rattle.std.proofs.lemmas.Option.{slice_get_within, get_or_from_slice_get, unwrap_or-slice_get}
use Rattle.std.proofs.lemmas.List.{get_or_default}
use Rattle.std.proofs.lemmas.List.Elements.{All-cons, All-head, All-tail, All-get_or, All-set}
use Rattle.lua_meaning.specs.declared.value.Value.{Value}
use Rattle.lua_meaning.specs.declared.value.Value.TheVariants as value
use Rattle.lua_meaning.specs.Values.{same, or_nil}
use Rattle.lua_meaning.specs.Tables.{Pairs, value_at, with_pair, behind_key, pairs_behind, next_pair, skipped}
use Rattle.lua_meaning.specs.Heap.{HeapOf, TableOf, no_table, table_at, entry, with_entry, with_meta}
use Rattle.lua_values.specs.Ids.{Ids, ids_of, IsOf, IsOwnPair, IsOwnTable, AreOwn}
use Rattle.zc_budget.specs.Used.{Used}
use Rattle.lua_values.specs.Walks.{WalksTo}
use Rattle.lua_values.proofs.Own.{no_table_own, own_same}

pub at_some : {X : Type 0} (P : X → Type 0) (xs : List X) (i : ℕ) (x : X) → All P xs → slice_get xs i ≡ Some x → P x
at_some P xs i x all e = subst P (get_or_from_slice_get xs i x x e) (All-get_or P xs i x (slice_get_within xs i x e) all)

module _ (ids : Ids) where
  pub own_value_at : (ps : Pairs) → All (IsOwnPair ids) ps → (k : Value) → IsOf ids (value_at ps k)
  own_value_at [] all k = tt
  own_value_at (p ∷ ps) all k = by (same k p.0) (All-head (IsOwnPair ids) p ps all).value (own_value_at ps (All-tail (IsOwnPair ids) p ps all) k)
    where
      by : (b : Bool) → IsOf ids p.1 → IsOf ids (value_at ps k) → IsOf ids (or_nil (if b then Some p.1 else lookup (same k) ps))
      by true own rest = own
      by false own rest = rest

  pub own_with_pair : (ps : Pairs) → All (IsOwnPair ids) ps → (k v : Value) → IsOf ids k → IsOf ids v → All (IsOwnPair ids) (with_pair ps k v)
  own_with_pair [] all k v key value = All-cons (IsOwnPair ids) (k, v) [] (record { key = key; value = value }) all
  own_with_pair (p ∷ ps) all k v key value = by (same k p.0) (own_with_pair ps (All-tail (IsOwnPair ids) p ps all) k v key value)
    where
      first : IsOwnPair ids p
      first = All-head (IsOwnPair ids) p ps all

      rest : All (IsOwnPair ids) ps
      rest = All-tail (IsOwnPair ids) p ps all

      by : (b : Bool) → All (IsOwnPair ids) (with_pair ps k v) → All (IsOwnPair ids) (if b then ((p.0, v) ∷ ps) else (p ∷ with_pair ps k v))
      by true put = All-cons (IsOwnPair ids) (p.0, v) ps (record { key = first.key; value = value }) rest
      by false put = All-cons (IsOwnPair ids) p (with_pair ps k v) first put

  own_behind : (ps rest : Pairs) → All (IsOwnPair ids) ps → (k : Value) → behind_key ps k ≡ Some rest → All (IsOwnPair ids) rest
  own_behind [] rest all k e = absurd (true≢false (sym (ap is_some e)))
  own_behind (p ∷ ps) rest all k e = by (same k p.0) (own_behind ps rest (All-tail (IsOwnPair ids) p ps all) k) e
    where
      by : (b : Bool) → (behind_key ps k ≡ Some rest → All (IsOwnPair ids) rest) → (if b then Some ps else behind_key ps k) ≡ Some rest → All (IsOwnPair ids) rest
      by true further e = subst (All (IsOwnPair ids)) (ap (λ o. unwrap_or o []) e) (All-tail (IsOwnPair ids) p ps all)
      by false further e = further e

  own_rest : (ps rest : Pairs) → All (IsOwnPair ids) ps → (k : Value) → pairs_behind ps k ≡ Some rest → All (IsOwnPair ids) rest
  own_rest ps rest all value.Nil e = subst (All (IsOwnPair ids)) (ap (λ o. unwrap_or o []) e) all
  own_rest ps rest all k e = own_behind ps rest all k e

  pub own_next : (ps rest : Pairs) (k : Value) (p : Value × Value) → All (IsOwnPair ids) ps → pairs_behind ps k ≡ Some rest → next_pair rest ≡ Some p → IsOwnPair ids p
  own_next ps rest k p all behind e = at_some (IsOwnPair ids) rest (skipped rest) p (own_rest ps rest all k behind) e

module _ (h : HeapOf) (own : AreOwn h) where
  pub own_table_at : (t : ℕ) → IsOwnTable (ids_of h) (table_at h t)
  own_table_at t = by (slice_get h.tables t) refl
    where
      by : (o : Option TableOf) → slice_get h.tables t ≡ o → IsOwnTable (ids_of h) (unwrap_or o no_table)
      by None e = no_table_own (ids_of h)
      by (Some x) e = at_some (IsOwnTable (ids_of h)) h.tables t x own.tables e

  pub own_entry : (t : ℕ) (k : Value) → IsOf (ids_of h) (entry h t k)
  own_entry t k = own_value_at (ids_of h) (table_at h t).pairs (own_table_at t).pairs k

  own_set_table : (t : ℕ) (x : TableOf) → IsOwnTable (ids_of h) x → AreOwn (record h { tables = slice_set h.tables t x })
  own_set_table t x is = own_same h (record h { tables = slice_set h.tables t x }) own.start (ap (λ n. record (ids_of h) { tables = n }) (length-set h.tables t x))
      (All-set (IsOwnTable (ids_of h)) h.tables t x is own.tables) own.cells own.closures own.iters

  pub own_with_entry : (t : ℕ) (k v : Value) → IsOf (ids_of h) k → IsOf (ids_of h) v → AreOwn (with_entry h t k v)
  own_with_entry t k v key value = own_set_table t (record (table_at h t) { pairs = with_pair (table_at h t).pairs k v }) (record {
    pairs = own_with_pair (ids_of h) (table_at h t).pairs (own_table_at t).pairs k v key value;
    meta = (own_table_at t).meta;
  })

  pub own_with_meta : (t : ℕ) (meta : Option ℕ) → ((m : ℕ) → meta ≡ Some m → m < length h.tables) → AreOwn (with_meta h t meta)
  own_with_meta t meta below = own_set_table t (record (table_at h t) { meta = meta }) (record { pairs = (own_table_at t).pairs; meta = below })

-- a table, as an index gives it
pub table_is : (h : HeapOf) (t : ℕ) (x : TableOf) → t < length h.tables → x ≡ get_or h.tables t x → x ≡ table_at h t
table_is h t x below e = e ∙ get_or_default h.tables t x no_table below ∙ sym (unwrap_or-slice_get h.tables t no_table)

pub own_indexed : (h : HeapOf) → AreOwn h → (t : ℕ) (x : TableOf) → t < length h.tables → x ≡ get_or h.tables t x → IsOwnTable (ids_of h) x
own_indexed h own t x below e = subst (IsOwnTable (ids_of h)) (sym e) (All-get_or (IsOwnTable (ids_of h)) h.tables t x below own.tables)

-- a change of one table, in place
module _ (h : HeapOf) (own : AreOwn h) (t : ℕ) (old new : TableOf) (below : t < length h.tables) (was : old ≡ get_or h.tables t old) where
  pub put_is : (k v : Value) → new ≡ record old { pairs = with_pair old.pairs k v } → record h { tables = slice_set h.tables t new } ≡ with_entry h t k v
  put_is k v e = ap (λ (x : TableOf). record h { tables = slice_set h.tables t x }) (e ∙ ap {A = TableOf} {B = TableOf} (λ o. record o { pairs = with_pair o.pairs k v }) (table_is h t old below was))

  pub put_own : (k v : Value) → new ≡ record old { pairs = with_pair old.pairs k v } → IsOf (ids_of h) k → IsOf (ids_of h) v → AreOwn (record h { tables = slice_set h.tables t new })
  put_own k v e key value = subst AreOwn (sym (put_is k v e)) (own_with_entry h own t k v key value)

  pub meta_is : (m : Option ℕ) → new ≡ record old { meta = m } → record h { tables = slice_set h.tables t new } ≡ with_meta h t m
  meta_is m e = ap (λ (x : TableOf). record h { tables = slice_set h.tables t x }) (e ∙ ap {A = TableOf} {B = TableOf} (λ o. record o { meta = m }) (table_is h t old below was))

  pub meta_own : (m : Option ℕ) → new ≡ record old { meta = m } → IfSome m (λ i. i < length h.tables) → AreOwn (record h { tables = slice_set h.tables t new })
  meta_own m e below = subst AreOwn (sym (meta_is m e)) (own_with_meta h own t m (by m below))
    where
      by : (o : Option ℕ) → IfSome o (λ i. i < length h.tables) → (i : ℕ) → o ≡ Some i → i < length h.tables
      by None below i e = absurd (true≢false (sym (ap is_some e)))
      by (Some j) below i e = subst (λ n. n < length h.tables) (ap (λ o. unwrap_or o 0) e) below

module _ (ids : Ids) (ps : Pairs) (all : All (IsOwnPair ids) ps) where
  pub own_got : (i : ℕ) (o : Option (Value × Value)) → o ≡ slice_get ps i → IfSome o (IsOwnPair ids)
  own_got i None e = tt
  own_got i (Some p) e = at_some (IsOwnPair ids) ps i p all (sym e)

  pub own_found : (k : Value) (before after : Used) (found : Option (Value × Value)) → WalksTo ps k before found after → IfSome found (IsOwnPair ids)
  own_found k before after None to = tt
  own_found k before after (Some p) to = own_next ids ps to.rest k p all to.behind (sym to.pair)

module _ (ids : Ids) (t : TableOf) (own : IsOwnTable ids t) where
  pub own_meta : (m : Option ℕ) → m ≡ t.meta → IfSome m (λ i. i < ids.tables)
  own_meta None e = tt
  own_meta (Some m) e = own.meta m (sym e)
