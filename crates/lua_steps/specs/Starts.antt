-- How the nodes begin that make nothing yet: with a frame, or none, and what is then at work. `locals` are in scope.
use Rattle.std.specs.Prelude.{◌≡◌, ℕ, List, [], ◌∷◌, Option, Some, None, slice_get}
use Rattle.lua_ast.specs.declared.node.Node.{Node}
use Rattle.lua_ast.specs.declared.node.Node.TheVariants as node
use Rattle.lua_ast.specs.declared.node.LinedNode.{LinedNode}
use Rattle.lua_ast.specs.Decode.{node_tree}
use Rattle.lua_coroutines.specs.declared.frame.Frame.{Frame}
use Rattle.lua_coroutines.specs.declared.frame.Frame.TheVariants as frame
use Rattle.lua_coroutines.specs.declared.frame.CalleeFrame.TheVariants as callee
use Rattle.lua_coroutines.specs.declared.frame.CountFrame.TheVariants as count_loop
use Rattle.lua_coroutines.specs.declared.frame.EachFrame.TheVariants as each_loop
use Rattle.lua_coroutines.specs.declared.frame.OperandFrame.TheVariants as operand
use Rattle.lua_steps.specs.declared.mode.Mode.{Mode}
use Rattle.lua_steps.specs.declared.mode.Mode.TheVariants as mode
use Rattle.lua_steps.specs.Parts.{part}

-- The text has this node under the number.
pub record IsNode (nodes : List LinedNode) (i : ℕ) (node : Node) : Type 0 where
  pub line : ℕ
  pub there : slice_get nodes i ≡ Some (record { line = line; node = node })
  pub tree : part nodes i ≡ node_tree (part nodes) i line node

-- the first of a list of parts, or no value where there is none
abbrev pub first_or_none : List ℕ → Mode
first_or_none [] = mode.Give []
first_or_none (j ∷ js) = mode.Begin j

abbrev pub after_first : List ℕ → ℕ
after_first [] = 0
after_first (j ∷ js) = 1

abbrev pub otherwise_or_none : Option ℕ → Mode
otherwise_or_none None = mode.Give []
otherwise_or_none (Some j) = mode.Begin j

abbrev pub operand_start : ℕ → Node → Option (Frame × ℕ)
operand_start i (node.Index object key) = Some (frame.Operand (operand.Object i), object)
operand_start i (node.Call function args) = Some (frame.Callee (callee.Function i), function)
operand_start i (node.Method object name args) = Some (frame.Callee (callee.Receiver i), object)
operand_start i (node.Binary op left right) = Some (frame.Operand (operand.Left i), left)
operand_start i (node.Logic op left right) = Some (frame.Operand (operand.Logic i), left)
operand_start i (node.Unary op one) = Some (frame.Operand (operand.One i), one)
operand_start i (node.Paren inner) = Some (frame.Operand operand.Only, inner)
operand_start i (node.NumFor name first limit step block) = Some (frame.Count (count_loop.First i), first)
operand_start i _ = None

-- nodes with a list of parts
abbrev pub list_start : ℕ → Node → Option (Frame × Mode)
list_start i (node.Local names exps) = Some (frame.Locals i (after_first exps) [], first_or_none exps)
list_start i (node.Return exps) = Some (frame.Return i (after_first exps) [], first_or_none exps)
list_start i (node.GenFor names exps block) = Some (frame.Each (each_loop.Values i (after_first exps) []), first_or_none exps)
list_start i _ = None

-- nodes that put no frame on
abbrev pub plain_start : (i locals : ℕ) → Node → Option Mode
plain_start i locals (node.CallStat call) = Some (mode.Begin call)
plain_start i locals (node.Do block) = Some (mode.Begin block)
plain_start i locals node.Break = Some mode.Break
plain_start i locals (node.Goto label) = Some (mode.Jump i)
plain_start i locals (node.Label label) = Some (mode.Give [])
plain_start i locals (node.Assign targets exps) = Some (mode.Targets i 0 [])
plain_start i locals (node.Repeat block test) = Some (mode.Round i locals)
plain_start i locals _ = None
