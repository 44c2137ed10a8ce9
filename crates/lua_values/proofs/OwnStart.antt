-- The numbers in the tables that a program starts with are the heap's own.
use Rattle.std.proofs.Common.{◌≡◌, ℕ, ◌<◌, Bool, true, false, ◌&&◌, nat_lt, refl, ap, sym, Option, Some, None, is_none, is_some, List, [], ◌∷◌, All, true≢false, arith}
use Rattle.std.proofs.lemmas.Bool.Decides.{Decides-ltb}
use Rattle.std.proofs.lemmas.List.Elements.{All-nil, All-cons}
use Rattle.zc_budget.specs.Used.{Used}
use Rattle.lua_meaning.specs.declared.value.Value.{Value}
use Rattle.lua_meaning.specs.declared.value.Value.TheVariants as value
use Rattle.lua_meaning.specs.Tables.{Pairs}
use Rattle.lua_meaning.specs.Heap.{TableOf}
use Rattle.lua_values.specs.Ids.{Ids, IsOf, IsOwnPair, IsOwnTable, IsOwnClosure, IsOwnIter, AreOwn}
use Rattle.lua_values.specs.Start.{start_tables, globals, zfs_pairs}

-- a value that needs no numbers but those of n tables
abbrev passes : ℕ → Value → Bool
passes n (value.Text _) = true
passes n (value.Int _) = true
passes n (value.Builtin _) = true
passes n (value.Table t) = nat_lt t n
passes n _ = false

abbrev pairs_pass : ℕ → Pairs → Bool
pairs_pass n [] = true
pairs_pass n (p ∷ ps) = (passes n p.0 && passes n p.1) && pairs_pass n ps

abbrev tables_pass : ℕ → List TableOf → Bool
tables_pass n [] = true
tables_pass n (t ∷ ts) = (is_none t.meta && pairs_pass n t.pairs) && tables_pass n ts

both : (a b : Bool) → (a && b) ≡ true → (a ≡ true) × (b ≡ true)
both true b e = (refl, e)
both false b e = absurd (true≢false (sym e))

module _ (ids : Ids) where
  value_passes : (v : Value) → passes ids.tables v ≡ true → IsOf ids v
  value_passes (value.Text _) e = tt
  value_passes (value.Int _) e = tt
  value_passes (value.Builtin _) e = tt
  value_passes (value.Table t) e = (Decides-ltb t ids.tables).0 e
  value_passes v e = absurd (true≢false (sym e))

  pairs_own : (ps : Pairs) → pairs_pass ids.tables ps ≡ true → All (IsOwnPair ids) ps
  pairs_own [] e = All-nil (IsOwnPair ids)
  pairs_own (p ∷ ps) e =
      let parts = both (passes ids.tables p.0 && passes ids.tables p.1) (pairs_pass ids.tables ps) e in
      let each = both (passes ids.tables p.0) (passes ids.tables p.1) parts.0 in
      All-cons (IsOwnPair ids) p ps (record { key = value_passes p.0 each.0; value = value_passes p.1 each.1 }) (pairs_own ps parts.1)

  no_meta : (o : Option ℕ) → is_none o ≡ true → (m : ℕ) → o ≡ Some m → m < ids.tables
  no_meta None e m is = absurd (true≢false (sym (ap is_some is)))
  no_meta (Some n) e m is = absurd (true≢false (sym e))

  tables_own : (ts : List TableOf) → tables_pass ids.tables ts ≡ true → All (IsOwnTable ids) ts
  tables_own [] e = All-nil (IsOwnTable ids)
  tables_own (t ∷ ts) e =
      let parts = both (is_none t.meta && pairs_pass ids.tables t.pairs) (tables_pass ids.tables ts) e in
      let each = both (is_none t.meta) (pairs_pass ids.tables t.pairs) parts.0 in
      All-cons (IsOwnTable ids) t ts (record { pairs = pairs_own t.pairs each.1; meta = no_meta t.meta each.0 }) (tables_own ts parts.1)

pub start_own : (u : Used) → AreOwn (record { tables = start_tables; cells = []; closures = []; iters = []; threads = 0; used = u })
unfolding globals zfs_pairs
start_own u =
    let ids : Ids = record { tables = 8; cells = 0; closures = 0; iters = 0; threads = 0 } in
    record { start = omega arith; tables = tables_own ids start_tables refl; cells = All-nil (IsOf ids); closures = All-nil (IsOwnClosure ids); iters = All-nil (IsOwnIter ids) }
