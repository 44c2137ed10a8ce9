use Rattle.lua_ast.specs.Decode.{own_number}
use Rattle.lua_ast.proofs.Decoding.{tree_node}
use Rattle.lua_runs.proofs.laws.trees_of_ordered_nodes.Goals as goal

pub returns : goal.returns
returns c = λ nodes ok i l at. tree_node own_number nodes ok i l at
