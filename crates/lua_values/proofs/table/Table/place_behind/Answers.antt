use Rattle.std.proofs.Common.{◌∙◌, sym}
use Rattle.lua_values.proofs.Walking.{behind_key_of, behind_absent, behind_present}
use Rattle.lua_values.proofs.table.Table.place_behind.Goals as goal

pub returns-in-None-clause-behind : goal.returns-in-None-clause-behind
returns-in-None-clause-behind c =
    let plain = sym c.is_nil.ensures ∙ c.if-is_nil.false in
    rw (← c.self.view_is) (sym (behind_key_of c.self.inside.pairs.entries c.args.key.now plain ∙ behind_absent c.self.inside.pairs.entries c.args.key.now (sym c.get_index_of.ensures.index ∙ c.in-None.is)))

pub returns-in-Some-clause-behind : goal.returns-in-Some-clause-behind
returns-in-Some-clause-behind c =
    let plain = sym c.is_nil.ensures ∙ c.if-is_nil.false in
    rw (← c.self.view_is) (sym (behind_key_of c.self.inside.pairs.entries c.args.key.now plain ∙ behind_present c.self.inside.pairs.entries c.args.key.now c.in-Some.place (sym c.get_index_of.ensures.index ∙ c.in-Some.is)))
