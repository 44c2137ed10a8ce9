use Rattle.std.proofs.Common.{◌≡◌, length, ◌<◌, arith, subst, sym, ◌∙◌}
use Rattle.lua_values.proofs.Pairs.{border_here, border_at_end}
use Rattle.lua_values.specs.Filled.{IsFilled}
use Rattle.lua_values.proofs.table.border_from.Goals as goal

pub returns-then-is_gap-clause-value : goal.returns-then-is_gap-clause-value
returns-then-is_gap-clause-value c =
    let below : c.loop-place.place < length c.args.pairs.now.entries = omega (arith, c.loop-place-test.true, c.len-most.ensures.len) in
    border_here c.loop-place.place c.args.pairs.now.entries c.loop-place.invariant below (sym c.is_gap.ensures ∙ c.if-is_gap.true)

pub returns-clause-value : goal.returns-clause-value
returns-clause-value c =
    let e : c.loop-place.place ≡ c.len-most.result = omega (arith, c.loop-place-test.false, c.loop-place.invariant.within, c.len-most.ensures.len) in
    border_at_end c.len-most.result c.args.pairs.now.entries (subst (λ n. IsFilled n c.args.pairs.now.entries) e c.loop-place.invariant) (sym c.len-most.ensures.len)

pub returns-clause-filled : goal.returns-clause-filled
returns-clause-filled c =
    let e : c.loop-place.place ≡ c.len-most.result = omega (arith, c.loop-place-test.false, c.loop-place.invariant.within, c.len-most.ensures.len) in
    subst (λ n. IsFilled n c.args.pairs.now.entries) e c.loop-place.invariant
