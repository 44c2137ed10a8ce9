use Rattle.std.specs.Prelude.{◌≡◌, length}
use Rattle.std.proofs.Common.{rules}
use Rattle.lua_ast.proofs.Numbering.{leaves_push}
use Rattle.lua_ast.proofs.builder.ChunkBuilder.push.Goals as goal

pub returns-clause-order : goal.returns-clause-order
returns-clause-order c = λ below h.
    let at : c.new.result ≡ length c.args.self.now = search rules in
    leaves_push c.self.inside.nodes.items c.args.self.now c.push.new.self.items (record { node = c.args.node; line = c.args.line }) c.new.result c.self.view_is c.in_ok-push.ensures.items at below h
