use Rattle.std.proofs.Common.{◌≡◌, ℕ, List, ◌∷◌, length, map, take, sym, subst}
use Rattle.txg_core.specs.Rules.{origin_of}
use Rattle.txg_core.specs.Calls.{IsHistoryOf}
use Rattle.txg_core.specs.declared.event.Event.{Event}
use Rattle.txg_core.proofs.CallsLemmas.{history-grown}
use Rattle.zc_offline.specs.Replay.{call_in, StopsAt}
use Rattle.zc_offline.proofs.Given.{take-one, some-at}
use Rattle.zc_offline.proofs.replay.replay.Goals as goal

pub step-requires : goal.step-requires
step-requires g c = let before = c.loop-place.invariant in (origin_of (g.O.Stated.means c.args.object) (map length c.args.sessions.now), (before.0, before.1.1))

pub loop-place-preserved : goal.loop-place-preserved
loop-place-preserved g c =
    let o = origin_of (g.O.Stated.means c.args.object) (map length c.args.sessions.now) in
    let events = c.args.schedule.now in
    let before = c.loop-place.invariant in
    let went = c.in-Ok.ensures o before.0 before.1.1 in
    let grown = history-grown o (call_in c.args.sessions.now) (take c.loop-place.place events) before.0 _ went.entry before.1.0 went.is in
    (went.entry ∷ before.0, (subst (λ (es : List Event). IsHistoryOf o (call_in c.args.sessions.now) es (went.entry ∷ before.0)) (sym (take-one events c.loop-place.place _ c.loop-place-test.true)) grown, went.follows))

pub returns-in-Err-NotEnabled-clause-event : goal.returns-in-Err-NotEnabled-clause-event
returns-in-Err-NotEnabled-clause-event g c = λ i e.
    let o = origin_of (g.O.Stated.means c.args.object) (map length c.args.sessions.now) in
    let events = c.args.schedule.now in
    let before = c.loop-place.invariant in
    let refused = rw c.in-Err-NotEnabled.field-0-is at (c.in-Err-NotEnabled.ensures o before.0 before.1.1) in
    let same : c.loop-place.place ≡ i = cc in
    subst (λ (k : ℕ). StopsAt o c.args.sessions.now events k) same
    (record { history = before.0; before = before.1.0; legal = before.1.1.stands.legal; event = _; there = some-at events c.loop-place.place _ c.loop-place-test.true; refused = refused })
