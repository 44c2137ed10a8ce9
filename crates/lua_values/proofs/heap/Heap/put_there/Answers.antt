use Rattle.std.proofs.Common.{subst, sym, length, ◌<◌, ◌∙◌, ap}
use Rattle.lua_values.specs.Ids.{ids_of, IsOf}
use Rattle.lua_meaning.specs.Heap.{with_entry}
use Rattle.lua_values.specs.contracts.heap.Heap.{the_view}
use Rattle.lua_values.proofs.OwnTables.{put_is, put_own}
use Rattle.lua_values.proofs.heap.Heap.put_there.Goals as goal

pub invariant_of-self-2 : goal.invariant_of-self-2
invariant_of-self-2 c =
    let below : c.number.result < length c.self.inside.tables.items = subst (λ h. c.number.result < length h.tables) (sym c.self.view_is) (subst (λ n. n < length c.args.self.now.tables) (sym c.number.ensures) c.requires.table) in
    let key = subst (λ h. IsOf (ids_of h) c.args.key) (sym c.self.view_is) c.requires.key in
    let value = subst (λ h. IsOf (ids_of h) c.args.value) (sym c.self.view_is) c.requires.value in
    put_own (the_view c.self.inside) c.self.invariant c.number.result c.index_mut.result.now c.put.new.self below c.index_mut.ensures.value c.args.key c.args.value c.in_ok-put.ensures.ok key value

pub returns-clause-ok : goal.returns-clause-ok
returns-clause-ok c =
    let below : c.number.result < length c.self.inside.tables.items = subst (λ h. c.number.result < length h.tables) (sym c.self.view_is) (subst (λ n. n < length c.args.self.now.tables) (sym c.number.ensures) c.requires.table) in
    put_is (the_view c.self.inside) c.self.invariant c.number.result c.index_mut.result.now c.put.new.self below c.index_mut.ensures.value c.args.key c.args.value c.in_ok-put.ensures.ok
    ∙ ap (λ h. with_entry h c.number.result c.args.key c.args.value) c.self.view_is ∙ ap (λ t. with_entry c.args.self.now t c.args.key c.args.value) c.number.ensures
