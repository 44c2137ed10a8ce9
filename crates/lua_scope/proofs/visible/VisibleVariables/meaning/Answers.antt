use Rattle.std.proofs.Common.{ℕ, List, ap, ◌∙◌}
use Rattle.std.specs.Option.{option_flatten}
use Rattle.lua_scope.specs.ByName.{at_name}
use Rattle.lua_scope.specs.Variables.{variable_named}
use Rattle.lua_scope.proofs.Naming.{first_is_named}
use Rattle.lua_scope.proofs.visible.VisibleVariables.meaning.Goals as goal

pub returns : goal.returns
returns c =
    c.flatten.ensures ∙ (ap option_flatten (c.copied.ensures ∙ c.get.ensures.value)
    ∙ (ap (λ (x : List ℕ). option_flatten (at_name x c.self.inside.meanings)) c.as_slice.ensures
    ∙ (c.self.invariant.meaning_is c.args.name.now
    ∙ (first_is_named c.args.name.now c.self.inside.entered.items ∙ ap (variable_named c.args.name.now) c.self.view_is))))
