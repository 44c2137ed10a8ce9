-- Operators and their precedences (Lua 5.2 manual, 3.4.7).
use Rattle.std.specs.Prelude.{ℕ, true, false, List, Option, Some, None}
use Rattle.lua_ast.specs.declared.node.BinOp.{BinOp}
use Rattle.lua_ast.specs.declared.node.BinOp.TheVariants as bin_op
use Rattle.lua_ast.specs.declared.node.LogicOp.{LogicOp}
use Rattle.lua_ast.specs.declared.node.LogicOp.TheVariants as logic_op
use Rattle.lua_ast.specs.declared.node.UnOp.{UnOp}
use Rattle.lua_ast.specs.declared.node.UnOp.TheVariants as un_op
use Rattle.lua_ast.specs.declared.node.Literal.{Literal}
use Rattle.lua_ast.specs.declared.node.Literal.TheVariants as literal
use Rattle.lua_ast.specs.Tree as tree
use Rattle.lua_ast.specs.Tree.{Tree, line_of}
use Rattle.lua_grammar.specs.Signs.{Terminal}
use Rattle.lua_grammar.specs.Kinds as kind
use Rattle.lua_grammar.specs.Values.{text_of, numeral_of}

pub data Operator : Type 0 where
  value : BinOp → Operator
  logic : LogicOp → Operator

abbrev pub operator_of : Terminal → Option Operator
operator_of kind.Or = Some (logic logic_op.Or)
operator_of kind.And = Some (logic logic_op.And)
operator_of kind.Less = Some (value bin_op.Less)
operator_of kind.Greater = Some (value bin_op.Greater)
operator_of kind.LessEqual = Some (value bin_op.LessEq)
operator_of kind.GreaterEqual = Some (value bin_op.GreaterEq)
operator_of kind.NotEqual = Some (value bin_op.Ne)
operator_of kind.Equal = Some (value bin_op.Eq)
operator_of kind.Concat = Some (value bin_op.Concat)
operator_of kind.Plus = Some (value bin_op.Add)
operator_of kind.Minus = Some (value bin_op.Sub)
operator_of kind.Star = Some (value bin_op.Mul)
operator_of kind.Slash = Some (value bin_op.Div)
operator_of kind.Percent = Some (value bin_op.Mod)
operator_of kind.Caret = Some (value bin_op.Pow)
operator_of _ = None

abbrev pub unary_of : Terminal → Option UnOp
unary_of kind.Not = Some un_op.Not
unary_of kind.Hash = Some un_op.Len
unary_of kind.Minus = Some un_op.Neg
unary_of _ = None

-- Of each operator its level, the least level of its left operand, and that of its right one. Unary operators have the
-- level 7, and what is no operation is of every level.
abbrev pub levels : Operator → ℕ × ℕ × ℕ
levels (logic logic_op.Or) = (1, 1, 2)
levels (logic logic_op.And) = (2, 2, 3)
levels (value bin_op.Less) = (3, 3, 4)
levels (value bin_op.Greater) = (3, 3, 4)
levels (value bin_op.LessEq) = (3, 3, 4)
levels (value bin_op.GreaterEq) = (3, 3, 4)
levels (value bin_op.Ne) = (3, 3, 4)
levels (value bin_op.Eq) = (3, 3, 4)
levels (value bin_op.Concat) = (4, 5, 4)
levels (value bin_op.Add) = (5, 5, 6)
levels (value bin_op.Sub) = (5, 5, 6)
levels (value bin_op.Mul) = (6, 6, 7)
levels (value bin_op.Div) = (6, 6, 7)
levels (value bin_op.Mod) = (6, 6, 7)
levels (value bin_op.Pow) = (8, 9, 7)

abbrev pub level : Operator → ℕ
level op = (levels op).0

abbrev pub left_of : Operator → ℕ
left_of op = (levels op).1

abbrev pub right_of : Operator → ℕ
right_of op = (levels op).2

-- The operation on these operands. Its first token is that of the left one.
abbrev pub joined : Operator → Tree → Tree → Tree
joined (value op) l r = tree.Binary 0 (line_of l) op l r
joined (logic op) l r = tree.Logic 0 (line_of l) op l r

-- A token that is a constant by itself.
abbrev pub constant_of : Terminal → List ℕ → Option Literal
constant_of kind.Nil s = Some literal.Nil
constant_of kind.False s = Some (literal.Bool false)
constant_of kind.True s = Some (literal.Bool true)
constant_of kind.Numeral s = Some (numeral_of s)
constant_of kind.Text s = Some (text_of s)
constant_of _ s = None
