use Rattle.lua_ast.proofs.Numbering.{is_numbered_as}
use Rattle.lua_ast.proofs.builder.ChunkBuilder.finish.Goals as goal

pub returns-clause-numbered : goal.returns-clause-numbered
returns-clause-numbered c = λ h. is_numbered_as c.self.inside.nodes.items c.args.self c.args.root c.new.result c.self.view_is c.new.ensures.nodes c.new.ensures.root c.self.invariant.0 h
