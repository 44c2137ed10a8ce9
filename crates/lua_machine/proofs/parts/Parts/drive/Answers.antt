use Rattle.std.proofs.Common.{rules, ◌≡◌, true, ◌∙◌, sym}
use Rattle.lua_code.specs.CodeOf.{code_of}
use Rattle.lua_runs.proofs.Outcomes.{outcome}
use Rattle.lua_machine.proofs.parts.Parts.drive.Goals as goal

pub loop-self-preserved : goal.loop-self-preserved
loop-self-preserved g c =
    let some = c.loop-self.invariant.1 in
    (λ o running. c.in_ok-mode.ensures.runs o (c.loop-self.invariant.0 o running), (some.0, c.in_ok-mode.ensures.runs some.0 some.1))

pub returns : goal.returns
returns g c = λ o running.
    let at = c.loop-self in
    let chunk = c.args.parsed.now.chunk in
    let tells : c.has_ended.result ≡ true = search rules in
    outcome g.H.Host.meaning (code_of chunk) chunk.nodes at.self.coroutines (g.H.Host.world at.self.host) o (at.mode, at.self.configuration) (at.invariant.0 o running) (sym c.has_ended.ensures ∙ tells)
