-- The state of one iterator function changes.
use Rattle.std.proofs.Common.{◌≡◌, ℕ, ◌<◌, refl, ap, sym, subst, ◌∙◌, Option, Some, None, List, length, length-set, slice_get, get_or, IfSome}
use Rattle.std.specs.Prelude.{slice_set}
use Rattle.std.proofs.lemmas.Option.{get_or_from_slice_get}
use Rattle.std.proofs.lemmas.List.Elements.{All-get_or, All-set}
use Rattle.lua_meaning.specs.declared.iter.IterState.{IterState}
use Rattle.lua_meaning.specs.declared.iter.IterState.TheVariants as iter
use Rattle.lua_meaning.specs.Heap.{HeapOf}
use Rattle.lua_values.specs.Ids.{Ids, ids_of, IsOwnIter, AreOwn}
use Rattle.lua_values.specs.Iters.{moved_to}
use Rattle.lua_values.proofs.Own.{own_same}

moved_own : (ids : Ids) (last : List ℕ) (s : IterState) → IsOwnIter ids s → IsOwnIter ids (moved_to last s)
moved_own ids last (iter.List kind id _) own = tt
moved_own ids last (iter.Wrap i) own = own

module _ (h : HeapOf) (i : ℕ) (last : List ℕ) (old new : IterState) (was : old ≡ get_or h.iters i old) (is : new ≡ moved_to last old) where
  pub move_own : AreOwn h → i < length h.iters → AreOwn (record h { iters = slice_set h.iters i new })
  move_own own below =
      let before = subst (IsOwnIter (ids_of h)) (sym was) (All-get_or (IsOwnIter (ids_of h)) h.iters i old below own.iters) in
      let after = subst (IsOwnIter (ids_of h)) (sym is) (moved_own (ids_of h) last old before) in
      own_same h (record h { iters = slice_set h.iters i new }) own.start (ap (λ n. record (ids_of h) { iters = n }) (length-set h.iters i new))
      own.tables own.cells own.closures (All-set (IsOwnIter (ids_of h)) h.iters i new after own.iters)

  pub move_is : IfSome (slice_get h.iters i) (λ state. record h { iters = slice_set h.iters i new } ≡ record h { iters = slice_set h.iters i (moved_to last state) })
  move_is = by (slice_get h.iters i) refl
    where
      by : (o : Option IterState) → slice_get h.iters i ≡ o → IfSome o (λ state. record h { iters = slice_set h.iters i new } ≡ record h { iters = slice_set h.iters i (moved_to last state) })
      by None e = tt
      by (Some s) e = ap (λ (x : IterState). record h { iters = slice_set h.iters i x }) (is ∙ ap (moved_to last) (was ∙ get_or_from_slice_get h.iters i s old e))
