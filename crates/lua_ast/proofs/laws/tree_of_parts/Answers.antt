use Rattle.lua_ast.proofs.Decoding.{tree_node}
use Rattle.lua_ast.proofs.laws.tree_of_parts.Goals as goal

pub returns : goal.returns
returns c = λ number nodes i n ok at. tree_node number nodes ok i n at
