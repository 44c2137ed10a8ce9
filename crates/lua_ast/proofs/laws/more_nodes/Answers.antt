use Rattle.lua_ast.proofs.Decoding.{tree_more}
use Rattle.lua_ast.proofs.laws.more_nodes.Goals as goal

pub returns : goal.returns
returns c = λ number nodes more i ok below. tree_more number nodes more ok i below
