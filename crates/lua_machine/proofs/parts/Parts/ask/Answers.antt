use Rattle.std.proofs.Common.{◌≡◌, ◌∙◌, ℕ, List, false, IfOk, IfSome, sym, subst, ap}
use Rattle.std.specs.Prelude.{codes}
use Rattle.zc_budget.specs.Used.{is_spent}
use Rattle.lua_values.specs.Ids.{ids_of, AreLater}
use Rattle.lua_values.specs.Answers.{builtin_answer}
use Rattle.lua_code.specs.CodeOf.{code_of}
use Rattle.lua_steps.specs.Configuration.{Configuration, with_tick}
use Rattle.lua_steps.specs.Effects.{failing}
use Rattle.lua_runs.specs.Serving.{has_no_room, host_call}
use Rattle.lua_machine.specs.Running.{state_at_work}
use Rattle.lua_machine.proofs.Asking.{spent_stops, full_fails, served_goes, served_falls}
use Rattle.lua_machine.proofs.parts.Parts.ask.Goals as goal

pub returns-in-Err-clause-runs : goal.returns-in-Err-clause-runs
returns-in-Err-clause-runs g c = λ chunk o running.
    spent_stops g.H.Host.meaning (code_of chunk) chunk.nodes c.args.self.now.coroutines (g.H.Host.world c.args.self.now.host) o c.args.function.now c.args.args.now c.args.lines c.args.is_own c.args.self.now.configuration c.requires.hosted
    c.is_within.new.configuration c.tick.new.self c.in-Err.stop c.is_within.ensures.same c.in-Err.ensures.stops.0 c.in-Err.ensures.stops.1 c.in-Err.ensures.which running

pub returns-then-has_no_room-clause-runs : goal.returns-then-has_no_room-clause-runs
returns-then-has_no_room-clause-runs g c = λ chunk o running.
    let x = c.args.self.now.configuration in
    let own = c.args.is_own in
    let z2 = c.tick.new.self in
    let ticked = c.in_default.ensures.counts.1 ∙ ap (λ (z : Configuration). with_tick z) c.is_within.ensures.same in
    let left = subst (λ (z : Configuration). is_spent z.heap.used ≡ false) c.is_within.ensures.same c.in_default.ensures.counts.0 in
    let room = sym (subst (λ (z : Configuration). c.has_no_room.result ≡ has_no_room c.args.lines own z) ticked (subst (λ (ls : List ℕ). c.has_no_room.result ≡ has_no_room ls own z2) c.as_slice.ensures c.has_no_room.ensures)) ∙ c.if-has_no_room.true in
    let told = subst (λ (z : Configuration). IfOk c.fail.result (λ m. (m, c.fail.new.self) ≡ failing c.args.lines (codes "stack overflow") z)) ticked
    (subst (λ (ls : List ℕ). IfOk c.fail.result (λ m. (m, c.fail.new.self) ≡ failing ls (codes "stack overflow") z2)) c.as_slice-then-has_no_room.ensures c.fail.ensures) in
    full_fails g.H.Host.meaning (code_of chunk) chunk.nodes c.args.self.now.coroutines (g.H.Host.world c.args.self.now.host) o c.args.function.now c.args.args.now c.args.lines own x c.requires.hosted
    c.fail.result c.fail.new.self left room told running

pub returns-clause-runs : goal.returns-clause-runs
returns-clause-runs g c = λ chunk o running.
    let x = c.args.self.now.configuration in
    let own = c.args.is_own in
    let z2 = c.tick.new.self in
    let given = c.answer-answer.new.self in
    let ticked = c.in_default.ensures.counts.1 ∙ ap (λ (z : Configuration). with_tick z) c.is_within.ensures.same in
    let left = subst (λ (z : Configuration). is_spent z.heap.used ≡ false) c.is_within.ensures.same c.in_default.ensures.counts.0 in
    let room = sym (subst (λ (z : Configuration). c.has_no_room.result ≡ has_no_room c.args.lines own z) ticked (subst (λ (ls : List ℕ). c.has_no_room.result ≡ has_no_room ls own z2) c.as_slice.ensures c.has_no_room.ensures)) ∙ c.if-has_no_room.false in
    let later = subst (λ (z : Configuration). AreLater (ids_of z.heap) (ids_of given.configuration.heap)) ticked c.answer-answer.ensures.keeps in
    let answers = subst (λ (ls : List ℕ). IfSome (builtin_answer c.answer-answer.result) (λ a. host_call g.H.Host.meaning c.args.function.now c.args.args.now ls (state_at_work g.H.Host.world (record c.args.self.now { configuration = z2 })) ≡ (a, state_at_work g.H.Host.world given)))
    c.as_slice-2.ensures c.answer-answer.ensures.answer in
    served_goes g.H.Host.meaning c.args.self.now.coroutines (g.H.Host.world c.args.self.now.host) c.args.function.now c.args.args.now c.args.lines own x c.requires.hosted
    g.H.Host.lawful z2 given.configuration c.is_within-2.new.configuration ticked c.answer-answer.ensures.others c.is_within-2.ensures.same given.coroutines (g.H.Host.world given.host) c.is_within-2.ensures.within
    chunk.nodes (code_of chunk) o c.requires.plain left room later
    c.serve.result c.serve.new.configuration (builtin_answer c.answer-answer.result) answers c.answer-answer.ensures.own c.answer-answer.ensures.coroutines c.serve.ensures running

pub returns-clause-lowers : goal.returns-clause-lowers
returns-clause-lowers g c = λ nodes.
    let given = c.answer-answer.new.self in
    let z2 = c.tick.new.self in
    let ticked = c.in_default.ensures.counts.1 ∙ ap (λ (z : Configuration). with_tick z) c.is_within.ensures.same in
    let answers = subst (λ (ls : List ℕ). IfSome (builtin_answer c.answer-answer.result) (λ a. host_call g.H.Host.meaning c.args.function.now c.args.args.now ls (state_at_work g.H.Host.world (record c.args.self.now { configuration = z2 })) ≡ (a, state_at_work g.H.Host.world given)))
    c.as_slice-2.ensures c.answer-answer.ensures.answer in
    served_falls g.H.Host.meaning c.args.self.now.coroutines (g.H.Host.world c.args.self.now.host) c.args.function.now c.args.args.now c.args.lines c.args.is_own c.args.self.now.configuration c.requires.hosted
    g.H.Host.lawful z2 given.configuration c.is_within-2.new.configuration ticked c.answer-answer.ensures.others c.is_within-2.ensures.same given.coroutines (g.H.Host.world given.host) c.is_within-2.ensures.within
    nodes c.serve.result c.serve.new.configuration (builtin_answer c.answer-answer.result) answers c.serve.ensures
