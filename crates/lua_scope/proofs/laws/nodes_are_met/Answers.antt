use Rattle.lua_scope.proofs.AllMet.{each_node_met}
use Rattle.lua_scope.proofs.laws.nodes_are_met.Goals as goal

pub returns : goal.returns
returns c = λ text chunk i n e ordered loads each at tells. each_node_met text chunk i n e ordered loads each at tells
