use Rattle.std.proofs.Common.{rules, ◌≡◌, ◌<◌, length, Some, All, subst, sym}
use Rattle.lua_meaning.specs.Locals.{cells_in}
use Rattle.lua_values.specs.Ids.{ids_of}
use Rattle.lua_configuration.proofs.Captured.{captured_own}
use Rattle.lua_configuration.proofs.configuration.Configuration.make_function.Goals as goal

pub new_closure-requires : goal.new_closure-requires
new_closure-requires g c =
    let is : cells_in c.args.self.now.call.locals c.args.variables.now ≡ Some c.in-Some.cells.items = search rules in
    let own = captured_own (ids_of c.args.self.now.heap) c.args.self.now.call c.args.variables.now c.in-Some.cells.items c.requires is in
    subst (λ x. All (λ i. i < length x.heap.cells) c.as_slice.result.now) (sym c.self.view_is) (subst (λ is. All (λ i. i < length c.args.self.now.heap.cells) is) (sym c.as_slice.ensures.value) own)
