use Rattle.std.proofs.Common.{◌∙◌, sym, inl, inr}
use Rattle.lua_configuration.proofs.Captured.{captured_ends}
use Rattle.lua_configuration.proofs.functions.captured_locals.Goals as goal

pub returns : goal.returns
returns c = sym (c.loop-variable.invariant ∙ captured_ends c.loop-variable.locals.items c.loop-variable.variable-iterator.a.rest.now c.loop-variable.variable-iterator.b.rest.now
    (elim c.in-None.ensures.steps [ inl s ↦ inl s.1.0 | inr s ↦ inr s.1.0 ]))
