use Rattle.std.proofs.Common.{ap, ◌∙◌}
use Rattle.lua_values.proofs.Same.{insert_same, updates_same}
use Rattle.lua_values.proofs.Pairs.{filled_put}
use Rattle.lua_values.proofs.table.Table.put.Goals as goal

pub invariant_of-self-2 : goal.invariant_of-self-2
invariant_of-self-2 c =
    let old = c.self.inside.pairs.entries in
    let new = c.insert.new.self.entries in
    let put = updates_same old new c.args.key c.args.value c.in_ok-old.ensures.updates.0 in
    rw (c.min-self-inside.ensures, c.filled_after-filled.ensures, c.len.ensures.len) (filled_put c.self.inside.filled old new c.args.value c.self.invariant c.args.key put)

pub returns-clause-ok : goal.returns-clause-ok
returns-clause-ok c = rw (← c.self.view_is) (ap (λ ps. record { pairs = ps; meta = c.self.inside.meta }) (c.in_ok-old.ensures.entries ∙ insert_same c.self.inside.pairs.entries c.args.key c.args.value))
