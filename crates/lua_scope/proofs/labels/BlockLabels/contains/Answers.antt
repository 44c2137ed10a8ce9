use Rattle.std.proofs.Common.{ℕ, List, ap, ◌∙◌}
use Rattle.std.specs.Prelude.{is_some}
use Rattle.std.specs.List.{list_any}
use Rattle.lua_scope.specs.ByName.{at_name}
use Rattle.lua_scope.specs.Labels.{has_name}
use Rattle.lua_scope.proofs.Targets.{first_tells}
use Rattle.lua_scope.proofs.labels.BlockLabels.contains.Goals as goal

pub returns : goal.returns
returns c =
    c.contains_key.ensures ∙ (ap (λ (x : List ℕ). is_some (at_name x c.self.inside.first)) c.as_slice.ensures
    ∙ (ap is_some (c.self.invariant c.args.name.now)
    ∙ (first_tells c.args.name.now c.self.inside.labels.items ∙ ap (list_any (has_name c.args.name.now)) c.self.view_is)))
