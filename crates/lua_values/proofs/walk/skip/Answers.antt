use Rattle.std.proofs.Common.{◌∙◌, sym, subst, ◌<◌, ◌+◌, length, arith, rules}
use Rattle.lua_values.proofs.Walking.{Skips, place_found, enough_found, used_found, skips_more, stops_short, stops_spent}
use Rattle.lua_values.proofs.walk.skip.Goals as goal

pub returns-then-not-is_gap_at-clause-place : goal.returns-then-not-is_gap_at-clause-place
returns-then-not-is_gap_at-clause-place c = place_found c.args.table.now.pairs c.args.from c.loop-place.place c.args.budget.now c.loop-place.budget c.loop-place.invariant (sym c.is_gap_at.ensures ∙ c.if-not-is_gap_at.true)

pub returns-then-not-is_gap_at-clause-enough : goal.returns-then-not-is_gap_at-clause-enough
returns-then-not-is_gap_at-clause-enough c = enough_found c.args.table.now.pairs c.args.from c.loop-place.place c.args.budget.now c.loop-place.budget c.loop-place.invariant (sym c.is_gap_at.ensures ∙ c.if-not-is_gap_at.true)

pub returns-then-not-is_gap_at-clause-used : goal.returns-then-not-is_gap_at-clause-used
returns-then-not-is_gap_at-clause-used c = used_found c.args.table.now.pairs c.args.from c.loop-place.place c.args.budget.now c.loop-place.budget c.loop-place.invariant (sym c.is_gap_at.ensures ∙ c.if-not-is_gap_at.true)

pub returns-in_err-tick-clause-stops : goal.returns-in_err-tick-clause-stops
returns-in_err-tick-clause-stops c =
    let gap = sym c.is_gap_at.ensures ∙ c.if-not-is_gap_at.false in
    let short = stops_short c.args.table.now.pairs c.args.from c.loop-place.place c.args.budget.now c.loop-place.budget c.loop-place.invariant gap c.in_err-tick.ensures.stops.0 in
    let all = c.in_err-tick.ensures.stops.1 ∙ stops_spent c.args.table.now.pairs c.args.from c.loop-place.place c.args.budget.now c.loop-place.budget c.loop-place.invariant c.in_err-tick.ensures.stops.0 in
    search (rules, short, all)

pub loop-place-preserved : goal.loop-place-preserved
loop-place-preserved c =
    let gap = sym c.is_gap_at.ensures ∙ c.if-not-is_gap_at.false in
    let more : c.loop-place.place < length c.args.table.now.pairs = omega (arith, c.loop-place-test.true, c.len-most.ensures) in
    subst (Skips c.args.table.now.pairs c.args.from (c.loop-place.place + 1) c.args.budget.now) (sym c.in_ok-tick.ensures.counts.1)
    (skips_more c.args.table.now.pairs c.args.from c.loop-place.place c.args.budget.now c.loop-place.budget c.loop-place.invariant more gap c.in_ok-tick.ensures.counts.0)
