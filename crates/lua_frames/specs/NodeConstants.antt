-- The constants of a text as values, by the numbers of its nodes; a node that is no constant has nil (Lua 5.2 manual, 3.1 and 3.4).
use Rattle.std.specs.Prelude.{List, [], ◌∷◌}
use Rattle.lua_ast.specs.declared.node.Node.{Node}
use Rattle.lua_ast.specs.declared.node.Node.TheVariants as node
use Rattle.lua_ast.specs.declared.node.LinedNode.{LinedNode}
use Rattle.lua_meaning.specs.declared.value.Value.{Value}
use Rattle.lua_meaning.specs.declared.value.Value.TheVariants as value
use Rattle.lua_meaning.specs.Values.{of_literal}

abbrev pub constant_in : Node → Value
constant_in (node.Const l) = of_literal l
constant_in _ = value.Nil

abbrev pub constants_of : List LinedNode → List Value
constants_of [] = []
constants_of (l ∷ ls) = constant_in l.node ∷ constants_of ls
