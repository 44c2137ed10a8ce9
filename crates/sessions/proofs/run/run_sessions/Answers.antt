use Rattle.std.proofs.Common.{◌≡◌, List, map, length, arith, ap, sym, ◌∙◌, subst, refl}
use Rattle.std.proofs.lemmas.List.Elements.{All-from_recursion}
use Rattle.sessions.specs.Workers.{MayWork, IsCrew, ArePartsOf}
use Rattle.sessions.specs.declared.worker.Worker.{Worker}
use Rattle.sessions.proofs.Ending.{Begun, begun, as-many, as-many-lists, each-works, EachWorks, all-may, sync-there, sync-is, pools-are, every-is, written-back, run-is}
use Rattle.sessions.proofs.run.run_sessions.Goals as goal

pub crew-requires-clause-few : goal.crew-requires-clause-few
crew-requires-clause-few g c =
    let many : c.as_slice-2.result.now ≡ map length c.args.sessions.items = c.as_slice-2.ensures.value ∙ (c.in_ok-counts.ensures ∙ ap (map length) c.as_slice.ensures.value) in
    let n = as-many c.args.object c.args.sessions.items c.as_slice-2.result.now c.in_ok-pool.pool c.in_ok-pool.passes.items c.in_ok-pool.sync many c.in_ok-pool.ensures in let few = c.requires.few in omega (arith, n, few)

pub crew-requires-clause-as_many : goal.crew-requires-clause-as_many
crew-requires-clause-as_many g c =
    let many : c.as_slice-2.result.now ≡ map length c.args.sessions.items = c.as_slice-2.ensures.value ∙ (c.in_ok-counts.ensures ∙ ap (map length) c.as_slice.ensures.value) in
    as-many c.args.object c.args.sessions.items c.as_slice-2.result.now c.in_ok-pool.pool c.in_ok-pool.passes.items c.in_ok-pool.sync many c.in_ok-pool.ensures ∙ sym (as-many-lists c.in_ok-calls.calls.items c.args.sessions.items c.in_ok-calls.ensures)

pub work_all-requires-clause-may : goal.work_all-requires-clause-may
work_all-requires-clause-may g c κs within =
    let many : c.as_slice-2.result.now ≡ map length c.args.sessions.items = c.as_slice-2.ensures.value ∙ (c.in_ok-counts.ensures ∙ ap (map length) c.as_slice.ensures.value) in
    let xs = c.as_mut_slice.result.now in let pool = c.in_ok-pool.pool in let sync = c.in_ok-pool.sync in
    let b : Begun c.args.object c.args.sessions.items pool sync xs = begun c.args.object c.args.sessions.items c.as_slice-2.result.now pool c.in_ok-pool.passes.items c.in_ok-calls.calls.items sync xs many c.in_ok-pool.ensures c.in_ok-calls.ensures (subst (IsCrew c.in_ok-pool.passes.items c.in_ok-calls.calls.items sync) (sym c.as_mut_slice.ensures.value) c.in_ok-workers.ensures) in
    All-from_recursion (MayWork g.O.Stated.means pool.id) xs (all-may g.O.Stated.means c.args.object c.args.sessions.items pool sync xs b)

pub unreachable-requires : goal.unreachable-requires
unreachable-requires g c =
    let many : c.as_slice-2.result.now ≡ map length c.args.sessions.items = c.as_slice-2.ensures.value ∙ (c.in_ok-counts.ensures ∙ ap (map length) c.as_slice.ensures.value) in
    let xs = c.as_mut_slice.result.now in let pool = c.in_ok-pool.pool in let sync = c.in_ok-pool.sync in
    let b : Begun c.args.object c.args.sessions.items pool sync xs = begun c.args.object c.args.sessions.items c.as_slice-2.result.now pool c.in_ok-pool.passes.items c.in_ok-calls.calls.items sync xs many c.in_ok-pool.ensures c.in_ok-calls.ensures (subst (IsCrew c.in_ok-pool.passes.items c.in_ok-calls.calls.items sync) (sym c.as_mut_slice.ensures.value) c.in_ok-workers.ensures) in
    let ys = c.work_all.new.workers in let w : EachWorks g.O.Stated.means xs ys = each-works g.O.Stated.means xs ys c.work_all.auto.workers c.work_all.ensures in
    let at : ArePartsOf ys c.in_ok-passes.field-0 = subst (λ (ws : List (Worker g.row.O.Denot g.row.O-Call.Denot g.row.O-Reply.Denot)). ArePartsOf ws c.in_ok-passes.field-0) (written-back c.in_ok-workers.workers.len c.in_ok-workers.workers.items ys (c.work_all.auto.workers ∙ c.as_mut_slice.ensures.len)) c.in_ok-passes.ensures in
    sync-there g.O.Stated.means c.args.object c.args.sessions.items pool sync xs b ys w c.in_ok-passes.field-0.groups at.groups_are c.in_default.is

pub close-requires-clause-own : goal.close-requires-clause-own
close-requires-clause-own g c =
    let many : c.as_slice-2.result.now ≡ map length c.args.sessions.items = c.as_slice-2.ensures.value ∙ (c.in_ok-counts.ensures ∙ ap (map length) c.as_slice.ensures.value) in
    let xs = c.as_mut_slice.result.now in let pool = c.in_ok-pool.pool in let sync = c.in_ok-pool.sync in
    let b : Begun c.args.object c.args.sessions.items pool sync xs = begun c.args.object c.args.sessions.items c.as_slice-2.result.now pool c.in_ok-pool.passes.items c.in_ok-calls.calls.items sync xs many c.in_ok-pool.ensures c.in_ok-calls.ensures (subst (IsCrew c.in_ok-pool.passes.items c.in_ok-calls.calls.items sync) (sym c.as_mut_slice.ensures.value) c.in_ok-workers.ensures) in
    let ys = c.work_all.new.workers in let w : EachWorks g.O.Stated.means xs ys = each-works g.O.Stated.means xs ys c.work_all.auto.workers c.work_all.ensures in
    let at : ArePartsOf ys c.in_ok-passes.field-0 = subst (λ (ws : List (Worker g.row.O.Denot g.row.O-Call.Denot g.row.O-Reply.Denot)). ArePartsOf ws c.in_ok-passes.field-0) (written-back c.in_ok-workers.workers.len c.in_ok-workers.workers.items ys (c.work_all.auto.workers ∙ c.as_mut_slice.ensures.len)) c.in_ok-passes.ensures in
    (sync-is g.O.Stated.means c.args.object c.args.sessions.items pool sync xs b ys w c.in-Some.sync (sym c.in-Some.is ∙ at.groups_are)).0

pub close-requires-clause-passes : goal.close-requires-clause-passes
close-requires-clause-passes g c =
    let many : c.as_slice-2.result.now ≡ map length c.args.sessions.items = c.as_slice-2.ensures.value ∙ (c.in_ok-counts.ensures ∙ ap (map length) c.as_slice.ensures.value) in
    let xs = c.as_mut_slice.result.now in let pool = c.in_ok-pool.pool in let sync = c.in_ok-pool.sync in
    let b : Begun c.args.object c.args.sessions.items pool sync xs = begun c.args.object c.args.sessions.items c.as_slice-2.result.now pool c.in_ok-pool.passes.items c.in_ok-calls.calls.items sync xs many c.in_ok-pool.ensures c.in_ok-calls.ensures (subst (IsCrew c.in_ok-pool.passes.items c.in_ok-calls.calls.items sync) (sym c.as_mut_slice.ensures.value) c.in_ok-workers.ensures) in
    let ys = c.work_all.new.workers in let w : EachWorks g.O.Stated.means xs ys = each-works g.O.Stated.means xs ys c.work_all.auto.workers c.work_all.ensures in
    let at : ArePartsOf ys c.in_ok-passes.field-0 = subst (λ (ws : List (Worker g.row.O.Denot g.row.O-Call.Denot g.row.O-Reply.Denot)). ArePartsOf ws c.in_ok-passes.field-0) (written-back c.in_ok-workers.workers.len c.in_ok-workers.workers.items ys (c.work_all.auto.workers ∙ c.as_mut_slice.ensures.len)) c.in_ok-passes.ensures in
    pools-are g.O.Stated.means c.args.object c.args.sessions.items pool sync xs b ys w c.in_ok-passes.field-0.passes.items at.passes_are

pub close-requires-clause-every : goal.close-requires-clause-every
close-requires-clause-every g c =
    let many : c.as_slice-2.result.now ≡ map length c.args.sessions.items = c.as_slice-2.ensures.value ∙ (c.in_ok-counts.ensures ∙ ap (map length) c.as_slice.ensures.value) in
    let xs = c.as_mut_slice.result.now in let pool = c.in_ok-pool.pool in let sync = c.in_ok-pool.sync in
    let b : Begun c.args.object c.args.sessions.items pool sync xs = begun c.args.object c.args.sessions.items c.as_slice-2.result.now pool c.in_ok-pool.passes.items c.in_ok-calls.calls.items sync xs many c.in_ok-pool.ensures c.in_ok-calls.ensures (subst (IsCrew c.in_ok-pool.passes.items c.in_ok-calls.calls.items sync) (sym c.as_mut_slice.ensures.value) c.in_ok-workers.ensures) in
    let ys = c.work_all.new.workers in let w : EachWorks g.O.Stated.means xs ys = each-works g.O.Stated.means xs ys c.work_all.auto.workers c.work_all.ensures in
    let at : ArePartsOf ys c.in_ok-passes.field-0 = subst (λ (ws : List (Worker g.row.O.Denot g.row.O-Call.Denot g.row.O-Reply.Denot)). ArePartsOf ws c.in_ok-passes.field-0) (written-back c.in_ok-workers.workers.len c.in_ok-workers.workers.items ys (c.work_all.auto.workers ∙ c.as_mut_slice.ensures.len)) c.in_ok-passes.ensures in
    every-is g.O.Stated.means c.args.object c.args.sessions.items pool sync xs b ys w c.in_ok-passes.field-0.passes.items at.passes_are

pub returns : goal.returns
returns g c =
    let many : c.as_slice-2.result.now ≡ map length c.args.sessions.items = c.as_slice-2.ensures.value ∙ (c.in_ok-counts.ensures ∙ ap (map length) c.as_slice.ensures.value) in
    let xs = c.as_mut_slice.result.now in let pool = c.in_ok-pool.pool in let sync = c.in_ok-pool.sync in
    let b : Begun c.args.object c.args.sessions.items pool sync xs = begun c.args.object c.args.sessions.items c.as_slice-2.result.now pool c.in_ok-pool.passes.items c.in_ok-calls.calls.items sync xs many c.in_ok-pool.ensures c.in_ok-calls.ensures (subst (IsCrew c.in_ok-pool.passes.items c.in_ok-calls.calls.items sync) (sym c.as_mut_slice.ensures.value) c.in_ok-workers.ensures) in
    let ys = c.work_all.new.workers in let w : EachWorks g.O.Stated.means xs ys = each-works g.O.Stated.means xs ys c.work_all.auto.workers c.work_all.ensures in
    let at : ArePartsOf ys c.in_ok-passes.field-0 = subst (λ (ws : List (Worker g.row.O.Denot g.row.O-Call.Denot g.row.O-Reply.Denot)). ArePartsOf ws c.in_ok-passes.field-0) (written-back c.in_ok-workers.workers.len c.in_ok-workers.workers.items ys (c.work_all.auto.workers ∙ c.as_mut_slice.ensures.len)) c.in_ok-passes.ensures in
    run-is g.O.Stated.means c.args.object c.args.sessions.items pool sync xs b ys w c.in-Some.sync c.in_ok-passes.field-0.passes.items c.in_ok-closed.closed _ c.is_lawful.ensures (sym c.in-Some.is ∙ at.groups_are) at.passes_are at.replies_are c.in_ok-closed.ensures refl refl refl
