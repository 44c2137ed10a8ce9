use Rattle.std.proofs.Common.{◌∙◌, ap}
use Rattle.lua_ast.specs.Decode.{ChunkNodes}
use Rattle.lua_machine.specs.Machines.{meant}
use Rattle.lua_machine.specs.Running.{state_at_work}
use Rattle.lua_machine.proofs.Starting.{begun}
use Rattle.lua_machine.proofs.parts.Parts.run.Goals as goal

pub drive-requires-clause-running : goal.drive-requires-clause-running
drive-requires-clause-running g c =
    let p = c.args.self.now in
    let chunk = c.args.parsed.now.chunk in (
      meant g.H.Host.meaning chunk c.args.args (state_at_work g.H.Host.world p),
      begun g.H.Host.meaning chunk c.args.args p.coroutines (g.H.Host.world p.host) p.configuration c.is_within.new.configuration c.begin.new.configuration c.in_ok-first.first c.root.result
          c.is_within.ensures.same (c.root.ensures.root ∙ ap (λ (k : ChunkNodes). k.root) c.chunk-2.ensures.chunk) c.is_within.ensures.within c.requires.args c.requires.fresh.coroutines c.in_ok-first.ensures,
    )

pub returns : goal.returns
returns g c =
    let p = c.args.self.now in
    let chunk = c.args.parsed.now.chunk in
    c.drive.ensures (meant g.H.Host.meaning chunk c.args.args (state_at_work g.H.Host.world p))
    (begun g.H.Host.meaning chunk c.args.args p.coroutines (g.H.Host.world p.host) p.configuration c.is_within.new.configuration c.begin.new.configuration c.in_ok-first.first c.root.result
    c.is_within.ensures.same (c.root.ensures.root ∙ ap (λ (k : ChunkNodes). k.root) c.chunk-2.ensures.chunk) c.is_within.ensures.within c.requires.args c.requires.fresh.coroutines c.in_ok-first.ensures)
