use Rattle.std.proofs.Common.{subst, sym, length, ◌<◌, ◌∙◌, ap, IfSome}
use Rattle.lua_meaning.specs.Heap.{with_meta}
use Rattle.lua_values.specs.contracts.heap.Heap.{the_view}
use Rattle.lua_values.proofs.OwnTables.{meta_is, meta_own}
use Rattle.lua_values.proofs.heap.Heap.set_meta.Goals as goal

pub invariant_of-self : goal.invariant_of-self
invariant_of-self c c' =
    let below : c'.number.result < length c'.self.inside.tables.items = subst (λ h. c'.number.result < length h.tables) (sym c'.self.view_is) (subst (λ n. n < length c'.args.self.now.tables) (sym c'.number.ensures) c'.requires.table) in
    let meta = subst (λ h. IfSome c'.args.meta (λ m. m < length h.tables)) (sym c'.self.view_is) c'.requires.meta in
    meta_own (the_view c'.self.inside) c'.self.invariant c'.number.result c'.index_mut.result.now c'.set_meta.new.self below c'.index_mut.ensures.value c'.args.meta c'.set_meta.ensures meta

pub returns-clause-done : goal.returns-clause-done
returns-clause-done c c' =
    let below : c'.number.result < length c'.self.inside.tables.items = subst (λ h. c'.number.result < length h.tables) (sym c'.self.view_is) (subst (λ n. n < length c'.args.self.now.tables) (sym c'.number.ensures) c'.requires.table) in
    meta_is (the_view c'.self.inside) c'.self.invariant c'.number.result c'.index_mut.result.now c'.set_meta.new.self below c'.index_mut.ensures.value c'.args.meta c'.set_meta.ensures
    ∙ ap (λ h. with_meta h c'.number.result c'.args.meta) c'.self.view_is ∙ ap (λ t. with_meta c'.args.self.now t c'.args.meta) c'.number.ensures
