-- The operators by the kinds that the calls take.
use Rattle.std.specs.Prelude.{List, ℕ}
use Rattle.lua_ast.specs.declared.node.BinOp.TheVariants as bin
use Rattle.lua_ast.specs.declared.node.UnOp.TheVariants as un
use Rattle.lua_meaning.specs.declared.value.Value.{Value}
use Rattle.lua_meaning.specs.Operators.{Op, equal, less, less_or_same, binary_op, unary_op}
use Rattle.lua_ops.specs.declared.comparison.CompareOp.{CompareOp}
use Rattle.lua_ops.specs.declared.comparison.CompareOp.TheVariants as kind
use Rattle.lua_ops.specs.declared.arithmetic.ArithOp.{ArithOp}
use Rattle.lua_ops.specs.declared.arithmetic.ArithOp.TheVariants as arith

abbrev pub compare_op : CompareOp → Value → Value → List ℕ → Op
compare_op kind.Equal a b lines = equal a b
compare_op kind.Less a b lines = less a b lines
compare_op kind.LessEqual a b lines = less_or_same a b lines

-- of unary `-` the second operand isn't looked at
abbrev pub arith_op : ArithOp → Value → Value → List ℕ → Op
arith_op arith.Add a b lines = binary_op bin.Add a b lines
arith_op arith.Sub a b lines = binary_op bin.Sub a b lines
arith_op arith.Mul a b lines = binary_op bin.Mul a b lines
arith_op arith.Div a b lines = binary_op bin.Div a b lines
arith_op arith.Mod a b lines = binary_op bin.Mod a b lines
arith_op arith.Pow a b lines = binary_op bin.Pow a b lines
arith_op arith.Neg a b lines = unary_op un.Neg a lines
