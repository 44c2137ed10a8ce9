use Rattle.std.proofs.Common.{◌≡◌, ℕ, List, [], ◌∷◌, ◌++◌, reverse, sym, ap, subst, ◌∙◌}
use Rattle.std.specs.Prelude.{Some}
use Rattle.std.specs.Option.{option_flatten}
use Rattle.lua_scope.specs.declared.frame.Entered.{Entered}
use Rattle.lua_scope.specs.Visible.{IsIndexed}
use Rattle.lua_scope.proofs.NameTables.{at_changed}
use Rattle.lua_scope.proofs.Naming.{entered_next}
use Rattle.lua_scope.proofs.visible.VisibleVariables.enter.Goals as goal

pub invariant_of-self-2 : goal.invariant_of-self-2
invariant_of-self-2 c =
    let key : List ℕ = c.in_ok-key.key.items in
    let old = c.self.inside.entered.items in
    let with : List ℕ → Entered = λ x. record { variable = record { name = x; number = c.args.number }; hidden = c.flatten-hidden.result } in
    let same : key ≡ c.in_ok-name.name = c.in_ok-key.ensures.items ∙ (c.as_slice.ensures ∙ sym c.in_ok-name.ensures) in
    let put = at_changed key c.self.inside.meanings c.insert.new.self (Some (Some c.args.number)) c.in_ok-insert.ensures.updates in
    let hides = c.flatten-hidden.ensures ∙ ap option_flatten c.in_ok-insert.ensures.old in
    let next = entered_next old c.self.inside.meanings c.insert.new.self key c.args.number c.flatten-hidden.result c.self.invariant hides put in
    let items = c.push_reserved.ensures.items ∙ ap (λ (es : List Entered). es ++ with c.in_ok-name.name ∷ []) c.reserve.ensures.items in
    subst (λ (es : List Entered). IsIndexed (reverse es) c.insert.new.self) (sym items)
    (subst (λ (x : List ℕ). IsIndexed (reverse (old ++ with x ∷ [])) c.insert.new.self) same next)
