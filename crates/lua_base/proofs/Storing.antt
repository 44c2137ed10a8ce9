-- What is put into a table.
use Rattle.std.proofs.Common.{◌≡◌, ℕ, Bool, true, false, refl, sym, ap, ◌∙◌, true≢false, List}
use Rattle.zc_budget.specs.Used.{is_over}
use Rattle.lua_meaning.specs.declared.value.Value.{Value}
use Rattle.lua_meaning.specs.declared.value.Value.TheVariants as value
use Rattle.lua_meaning.specs.Values.{is_nil}
use Rattle.lua_meaning.specs.Tables.{was_put}
use Rattle.lua_meaning.specs.Heap.{HeapOf, table_at, key_bytes}
use Rattle.lua_values.specs.Puts.{IsPutBy, IsPutAt}
use Rattle.lua_arguments.specs.Answering.{Calling}
use Rattle.lua_base.specs.OfTables.{stores_by, stores}

put_done : (there nothing : Bool) (t : ℕ) (key v : Value) (next : Calling) (before after : HeapOf) → IsPutBy there nothing before t key v after → stores_by there nothing t key v next before ≡ next after
put_done true nothing t key v next before after put = ap next (sym put)
put_done false true t key v next before after put = ap next (sym put)
put_done false false t key v next before after put = rw (put.0) (ap next (sym put.1))

stores_key : (t : ℕ) (key v : Value) (lines : List ℕ) (next : Calling) (h : HeapOf) → is_nil key ≡ false → stores t key v lines next h ≡ stores_by (was_put (table_at h t).pairs key) (is_nil v) t key v next h
stores_key t value.Nil v lines next h e = absurd (true≢false e)
stores_key t (value.Bool b) v lines next h e = refl
stores_key t (value.Int z) v lines next h e = refl
stores_key t (value.Text s) v lines next h e = refl
stores_key t (value.Table i) v lines next h e = refl
stores_key t (value.Closure i) v lines next h e = refl
stores_key t (value.Builtin b) v lines next h e = refl
stores_key t (value.Iter i) v lines next h e = refl
stores_key t (value.Thread i) v lines next h e = refl

pub store_done : (t : ℕ) (key v : Value) (lines : List ℕ) (next : Calling) (before after : HeapOf) → is_nil key ≡ false → IsPutAt before t key v after → stores t key v lines next before ≡ next after
store_done t key v lines next before after e put = stores_key t key v lines next before e ∙ put_done (was_put (table_at before t).pairs key) (is_nil v) t key v next before after put
