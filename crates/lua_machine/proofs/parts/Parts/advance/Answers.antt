use Rattle.std.proofs.Common.{◌≡◌, IfOk, subst}
use Rattle.lua_meaning.specs.Heap.{HeapOf}
use Rattle.lua_values.specs.Ids.{AreOwn}
use Rattle.lua_code.specs.CodeOf.{code_of}
use Rattle.lua_steps.specs.declared.mode.Mode.{Mode}
use Rattle.lua_steps.specs.Machine.{step}
use Rattle.lua_machine.proofs.Advancing.{step_goes, step_falls}
use Rattle.lua_machine.proofs.parts.Parts.advance.Goals as goal

pub returns-in-Err-clause-runs : goal.returns-in-Err-clause-runs
returns-in-Err-clause-runs g c = λ o running.
    let x = c.args.self.now.configuration in
    let chunk = c.args.parsed.now.chunk in
    let told = subst (λ (b : Mode). IfOk c.step.result (λ m. (m, c.step.new.configuration) ≡ step chunk.nodes (code_of chunk) b x)) c.in-Err.ensures.other c.step.ensures in
    step_goes g.H.Host.meaning (code_of chunk) chunk.nodes c.args.self.now.coroutines (g.H.Host.world c.args.self.now.host) o c.args.mode x c.requires.trees c.requires.functions c.in-Err.ensures.alone running
    c.step.result c.step.new.configuration (subst (λ (h : HeapOf). AreOwn h) c.heap.ensures c.numbers_are_own.ensures) told

pub returns-in-Err-clause-lowers : goal.returns-in-Err-clause-lowers
returns-in-Err-clause-lowers g c =
    let x = c.args.self.now.configuration in
    let chunk = c.args.parsed.now.chunk in
    let told = subst (λ (b : Mode). IfOk c.step.result (λ m. (m, c.step.new.configuration) ≡ step chunk.nodes (code_of chunk) b x)) c.in-Err.ensures.other c.step.ensures in
    step_falls g.H.Host.meaning (code_of chunk) chunk.nodes c.args.self.now.coroutines (g.H.Host.world c.args.self.now.host) c.requires.running.0 c.args.mode x c.requires.trees c.requires.functions c.in-Err.ensures.alone c.requires.running.1
    c.step.result c.step.new.configuration c.requires.goes told
