use Rattle.std.proofs.Common.{◌≡◌, ℕ, List, reverse, sym, subst}
use Rattle.std.specs.Prelude.{cond, bytes_eq, Some, IsSome}
use Rattle.lua_scope.specs.declared.frame.Entered.{Entered}
use Rattle.lua_scope.specs.ByName.{at_name}
use Rattle.lua_scope.specs.Visible.{IsIndexed}
use Rattle.lua_scope.proofs.Naming.{has_last, left_last}
use Rattle.lua_scope.proofs.visible.VisibleVariables.leave.Goals as goal

pub restore-requires : goal.restore-requires
restore-requires c =
    let i = subst (λ (es : List Entered). IsIndexed (reverse es) c.self.inside.meanings) c.in-Some.ensures.items c.self.invariant in
    subst (λ (x : List ℕ). IsSome (at_name x c.self.inside.meanings)) (sym c.as_slice.ensures)
    (has_last c.pop.new.self.items c.in-Some.entered c.self.inside.meanings i)

pub invariant_of-self : goal.invariant_of-self
invariant_of-self c =
    let old = c.self.inside.meanings in
    let new = c.restore.new.meanings in
    let i = subst (λ (es : List Entered). IsIndexed (reverse es) old) c.in-Some.ensures.items c.self.invariant in
    left_last c.pop.new.self.items old new c.in-Some.entered i
    (subst (λ (name : List ℕ). (x : List ℕ) → at_name x new ≡ cond (bytes_eq name x) (Some c.in-Some.entered.hidden) (at_name x old)) c.as_slice.ensures c.restore.ensures)
