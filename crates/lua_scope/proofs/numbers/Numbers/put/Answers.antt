use Rattle.std.proofs.Common.{ap, ◌∙◌}
use Rattle.lua_scope.specs.Variables.{with_number}
use Rattle.lua_scope.proofs.NumberSets.{key_inserted}
use Rattle.lua_scope.proofs.numbers.Numbers.put.Goals as goal

pub returns : goal.returns
returns c =
    c.in_ok-insert.ensures.keys ∙ (key_inserted c.args.number c.self.inside.numbers.keys c.self.invariant ∙ ap (with_number c.args.number) c.self.view_is)
