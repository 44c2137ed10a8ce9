-- What returns, breaks and jumps make of the frames that they come to.
use Rattle.std.specs.Prelude.{ℕ, ◌+◌, Bool, true, false, List, [], ◌∷◌, length, bytes_eq, Option, Some, None}
use Rattle.lua_ast.specs.declared.node.Node.{Node}
use Rattle.lua_ast.specs.declared.node.Node.TheVariants as node
use Rattle.lua_ast.specs.declared.node.LinedNode.{LinedNode}
use Rattle.lua_meaning.specs.declared.value.Value.{Value}
use Rattle.lua_coroutines.specs.declared.frame.Frame.{Frame}
use Rattle.lua_coroutines.specs.declared.frame.Frame.TheVariants as frame
use Rattle.lua_coroutines.specs.declared.frame.BodyFrame.TheVariants as body
use Rattle.lua_coroutines.specs.declared.frame.WhileFrame.TheVariants as while_loop
use Rattle.lua_coroutines.specs.declared.frame.RepeatFrame.TheVariants as repeat_loop
use Rattle.lua_coroutines.specs.declared.frame.CountFrame.TheVariants as count_loop
use Rattle.lua_coroutines.specs.declared.frame.EachFrame.TheVariants as each_loop
use Rattle.lua_steps.specs.declared.mode.Mode.TheVariants as mode
use Rattle.lua_steps.specs.declared.given.Given.{Given}
use Rattle.lua_steps.specs.declared.given.Given.TheVariants as given
use Rattle.lua_steps.specs.Parts.{of_part, list_at, name_there}

-- a return ends the body of a function
abbrev pub returned : List Value → Frame → Given
returned vs (frame.Body (body.Caller call)) = given.Returns call (mode.Give vs)
returned vs f = given.Goes (mode.Leave vs)

-- a break ends the innermost loop
abbrev pub broken : Frame → Given
broken (frame.Body (body.Caller call)) = given.Returns call (mode.Give [])
broken (frame.While (while_loop.Test node outer)) = given.Cuts outer (mode.Give [])
broken (frame.While (while_loop.Turn node outer)) = given.Cuts outer (mode.Give [])
broken (frame.Repeat (repeat_loop.Turn node outer before)) = given.Cuts outer (mode.Give [])
broken (frame.Repeat (repeat_loop.Test node outer before)) = given.Cuts outer (mode.Give [])
broken (frame.Count (count_loop.Turn node at limit step outer before)) = given.Cuts outer (mode.Give [])
broken (frame.Each (each_loop.Next node f state outer)) = given.Cuts outer (mode.Give [])
broken (frame.Each (each_loop.Turn node f state control outer before)) = given.Cuts outer (mode.Give [])
broken f = given.Goes mode.Break

abbrev pub is_label_of : List ℕ → Node → Bool
is_label_of x (node.Label y) = bytes_eq y x
is_label_of x _ = false

-- how many locals a statement leaves in scope behind it
abbrev pub locals_left : Node → ℕ
locals_left (node.Local names exps) = length names
locals_left (node.LocalFunction name function) = 1
locals_left _ = 0

module _ (nodes : List LinedNode) where
  abbrev pub label_by : Bool → (place locals : ℕ) → (further : Option (ℕ × ℕ)) → Option (ℕ × ℕ)
  label_by true place locals further = Some (place, locals)
  label_by false place locals further = further

  -- the first label of this name among statements, and how many locals those before it leave in scope
  abbrev pub label_from : List ℕ → (place locals : ℕ) → List ℕ → Option (ℕ × ℕ)
  label_from x place locals [] = None
  label_from x place locals (i ∷ is) = label_by (of_part nodes false (is_label_of x) i) place locals (label_from x (place + 1) (locals + of_part nodes 0 locals_left i) is)

  -- the label of a goto in a block
  abbrev pub label_in : (block goto : ℕ) → Option (ℕ × ℕ)
  label_in block i = label_from (name_there nodes i) 0 0 (list_at nodes block)

  abbrev pub landed_in : (block outer goto : ℕ) → Option (ℕ × ℕ) → Given
  landed_in block outer i None = given.Goes (mode.Jump i)
  landed_in block outer i (Some found) = given.Lands (outer + found.1) (frame.Body (body.Statements block found.0 outer))

  abbrev pub landed_open : (block outer goto : ℕ) → Option (ℕ × ℕ) → Given
  landed_open block outer i None = given.Goes (mode.Jump i)
  landed_open block outer i (Some found) = given.Lands (outer + found.1) (frame.Body (body.Open block found.0 outer))

  -- a jump goes on at its label, in the innermost block that has it
  abbrev pub jumped : (goto : ℕ) → Frame → Given
  jumped i (frame.Body (body.Statements block next outer)) = landed_in block outer i (label_in block i)
  jumped i (frame.Body (body.Open block next outer)) = landed_open block outer i (label_in block i)
  jumped i (frame.Body (body.Caller call)) = given.Returns call (mode.Give [])
  jumped i f = given.Goes (mode.Jump i)
