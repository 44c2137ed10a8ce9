use Rattle.std.proofs.Common.{ap, ◌∙◌, rules}
use Rattle.lua_meaning.specs.Values.{or_nil}
use Rattle.lua_values.proofs.Same.{lookup_same}
use Rattle.lua_values.proofs.table.Table.get.Goals as goal

pub returns-in-Some : goal.returns-in-Some
returns-in-Some c =
    let e = ap or_nil (c.in-Some.ensures.value ∙ lookup_same c.self.inside.pairs.entries c.args.key.now) in
    rw (← c.self.view_is, ← e) (search rules)
