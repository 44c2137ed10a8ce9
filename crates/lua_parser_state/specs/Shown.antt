-- What the parser's data stand for in the automaton that reads the grammar: the trees of nodes in place of their numbers.
use Rattle.std.specs.Prelude.{◌≡◌, ℕ, ◌<◌, Bool, true, false, List, [], ◌∷◌, map, length}
use Rattle.lua_ast.specs.declared.node.LinedNode.{LinedNode}
use Rattle.lua_ast.specs.Tree.{Tree}
use Rattle.lua_ast.specs.Decode.{tree, no_number, list_of, cases_of, fields_of, maybe_of, AllBelow, MaybeBelow, FieldsBelow}
use Rattle.lua_grammar.specs.Signs.{Attributes}
use Rattle.lua_grammar.specs.Operators as operators
use Rattle.lua_grammar.specs.Operators.{Operator}
use Rattle.lua_grammar.specs.Grammar.{self_name}
use Rattle.lua_grammar.specs.Pushdown as pushdown
use Rattle.lua_parser_state.specs.declared.frame.Begun.{Begun}
use Rattle.lua_parser_state.specs.declared.frame.Operation.{Operation}
use Rattle.lua_parser_state.specs.declared.frame.Operation.TheVariants as operation
use Rattle.lua_parser_state.specs.declared.frame.Callee.{Callee}
use Rattle.lua_parser_state.specs.declared.frame.Callee.TheVariants as callee
use Rattle.lua_parser_state.specs.declared.frame.Purpose.{Purpose}
use Rattle.lua_parser_state.specs.declared.frame.Purpose.TheVariants as purpose
use Rattle.lua_parser_state.specs.declared.frame.BegunTable.{BegunTable}
use Rattle.lua_parser_state.specs.declared.frame.OpenStatement.{OpenStatement}
use Rattle.lua_parser_state.specs.declared.frame.OpenStatement.TheVariants as statement
use Rattle.lua_parser_state.specs.declared.frame.OpenHeader.{OpenHeader}
use Rattle.lua_parser_state.specs.declared.frame.OpenHeader.TheVariants as header
use Rattle.lua_parser_state.specs.declared.frame.OpenBlock.{OpenBlock}
use Rattle.lua_parser_state.specs.declared.frame.OpenBlock.TheVariants as block
use Rattle.lua_parser_state.specs.declared.frame.Head.{Head}
use Rattle.lua_parser_state.specs.declared.frame.Head.TheVariants as head
use Rattle.lua_parser_state.specs.declared.frame.Frame.{Frame}
use Rattle.lua_parser_state.specs.declared.frame.Frame.TheVariants as frame
use Rattle.lua_parser_state.specs.declared.state.Naming.{Naming}
use Rattle.lua_parser_state.specs.declared.state.Naming.TheVariants as naming
use Rattle.lua_parser_state.specs.declared.state.State.{State}
use Rattle.lua_parser_state.specs.declared.state.State.TheVariants as state

-- What contracts see of a parser: its nodes, and the frames of what was begun, the last first.
pub record Held : Type 0 where
  pub nodes : List LinedNode
  pub frames : List Frame

abbrev pub tree_in : List LinedNode → ℕ → Tree
tree_in nodes i = tree no_number nodes i

abbrev pub operator_in : Operation → Operator
operator_in (operation.Value op) = operators.value op
operator_in (operation.Logic op) = operators.logic op

-- A method has a parameter that isn't written.
abbrev pub given : Bool → List (List ℕ)
given true = self_name ∷ []
given false = []

abbrev pub begun_in : List LinedNode → Begun → pushdown.Begun
begun_in ns b = record { line = b.line; stats = list_of (tree_in ns) b.stats }

abbrev pub callee_in : List LinedNode → Callee → pushdown.Callee
callee_in ns (callee.Function f) = pushdown.called (tree_in ns f)
callee_in ns (callee.Method o n) = pushdown.method_called (tree_in ns o) n

abbrev pub purpose_in : List LinedNode → Purpose → pushdown.Purpose
purpose_in ns (purpose.Value p) = pushdown.as_value p
purpose_in ns (purpose.Argument p c) = pushdown.as_argument p (callee_in ns c)

abbrev pub head_in : List LinedNode → Head → pushdown.Head
head_in ns (head.Anonymous p l) = pushdown.anonymous p l
head_in ns (head.Assigned l t m b) = pushdown.assigned l (tree_in ns t) (given m) (begun_in ns b)
head_in ns (head.Local l own n b) = pushdown.local_named l own n (begun_in ns b)

abbrev pub statement_in : List LinedNode → OpenStatement → pushdown.Frame
statement_in ns (statement.Local l names es b) = pushdown.InLocal l names (list_of (tree_in ns) es) (begun_in ns b)
statement_in ns (statement.Prefix b) = pushdown.InStat (begun_in ns b)
statement_in ns (statement.Target l ts b) = pushdown.InTargets l (list_of (tree_in ns) ts) (begun_in ns b)
statement_in ns (statement.Assign l ts es b) = pushdown.InAssign l (list_of (tree_in ns) ts) (list_of (tree_in ns) es) (begun_in ns b)
statement_in ns (statement.Return l es b) = pushdown.InReturn l (list_of (tree_in ns) es) (begun_in ns b)
statement_in ns (statement.Until l t b) = pushdown.InUntil l (tree_in ns t) (begun_in ns b)

abbrev pub header_in : List LinedNode → OpenHeader → pushdown.Frame
header_in ns (header.While l b) = pushdown.InWhileTest l (begun_in ns b)
header_in ns (header.If l ts bs b) = pushdown.InIfTest l (cases_of (tree_in ns) ts bs) (begun_in ns b)
header_in ns (header.First l n b) = pushdown.InFirst l n (begun_in ns b)
header_in ns (header.Last l n a b) = pushdown.InLimit l n (tree_in ns a) (begun_in ns b)
header_in ns (header.Step l n a e b) = pushdown.InStep l n (tree_in ns a) (tree_in ns e) (begun_in ns b)
header_in ns (header.Iterator f) = pushdown.InIterator f.line f.names (list_of (tree_in ns) f.exps) (begun_in ns f.block)

abbrev pub block_in : List LinedNode → OpenBlock → pushdown.Frame
block_in ns (block.Do l b) = pushdown.InDo l (begun_in ns b)
block_in ns (block.While l t b) = pushdown.InWhile l (tree_in ns t) (begun_in ns b)
block_in ns (block.Repeat l b) = pushdown.InRepeat l (begun_in ns b)
block_in ns (block.Then l ts bs t b) = pushdown.InThen l (cases_of (tree_in ns) ts bs) (tree_in ns t) (begun_in ns b)
block_in ns (block.Else l ts bs b) = pushdown.InElse l (cases_of (tree_in ns) ts bs) (begun_in ns b)
block_in ns (block.NumericFor f) = pushdown.InNumFor f.line f.name (tree_in ns f.first) (tree_in ns f.last) (maybe_of (tree_in ns) f.step) (begun_in ns f.block)
block_in ns (block.GenericFor f) = pushdown.InGenFor f.line f.names (list_of (tree_in ns) f.exps) (begun_in ns f.block)
block_in ns (block.Function h params more) = pushdown.InFunction (head_in ns h) params.items more

abbrev pub frame_in : List LinedNode → Frame → pushdown.Frame
frame_in ns (frame.InParen q l) = pushdown.InParen q l
frame_in ns (frame.InUnary q l op) = pushdown.InUnary q l op
frame_in ns (frame.InBinary q op t) = pushdown.InBinary q (operator_in op) (tree_in ns t)
frame_in ns (frame.InIndex q o) = pushdown.InIndex q (tree_in ns o)
frame_in ns (frame.InArgs q c es) = pushdown.InArgs q (callee_in ns c) (list_of (tree_in ns) es)
frame_in ns (frame.InItem u) = pushdown.InItem (purpose_in ns u.purpose) u.line (fields_of (tree_in ns) u.fields)
frame_in ns (frame.InNamed u n) = pushdown.InNamed (purpose_in ns u.purpose) u.line (fields_of (tree_in ns) u.fields) n
frame_in ns (frame.InKey u) = pushdown.InKey (purpose_in ns u.purpose) u.line (fields_of (tree_in ns) u.fields)
frame_in ns (frame.InKeyed u e) = pushdown.InKeyed (purpose_in ns u.purpose) u.line (fields_of (tree_in ns) u.fields) (tree_in ns e)
frame_in ns (frame.InStatement s) = statement_in ns s
frame_in ns (frame.InHeader h) = header_in ns h
frame_in ns (frame.InBlock b) = block_in ns b

unfoldable pub stack_in : Held → List pushdown.Frame
stack_in h = map (frame_in h.nodes) h.frames

abbrev pub naming_in : List LinedNode → Naming → pushdown.Naming
naming_in ns (naming.ForField p o) = pushdown.ForField p (tree_in ns o)
naming_in ns (naming.ForMethod p o) = pushdown.ForMethod p (tree_in ns o)
naming_in ns (naming.ForLabel l b) = pushdown.ForLabel l (begun_in ns b)
naming_in ns (naming.ForGoto l b) = pushdown.ForGoto l (begun_in ns b)
naming_in ns (naming.ForVariable l b) = pushdown.ForVariable l (begun_in ns b)
naming_in ns (naming.ForVariables l names b) = pushdown.ForVariables l names (begun_in ns b)
naming_in ns (naming.ForFunction l b) = pushdown.ForFunction l (begun_in ns b)
naming_in ns (naming.ForFunctionField l o b) = pushdown.ForFunctionField l (tree_in ns o) (begun_in ns b)
naming_in ns (naming.ForFunctionMethod l o b) = pushdown.ForFunctionMethod l (tree_in ns o) (begun_in ns b)
naming_in ns (naming.ForLocalFunction l own b) = pushdown.ForLocalFunction l own (begun_in ns b)
naming_in ns (naming.ForLocal l names b) = pushdown.ForLocal l names (begun_in ns b)

-- A token at a place, whose levels count or don't.
abbrev pub attributes : Bool → ℕ → List ℕ → Attributes
attributes c line slice = record { counted = c; line = line; slice = slice }

abbrev pub state_in : List LinedNode → List pushdown.Frame → State → pushdown.State
state_in ns k (state.Need p) = pushdown.Need p k
state_in ns k (state.Have p t) = pushdown.Have p (tree_in ns t) k
state_in ns k (state.NameNext n) = pushdown.NameNext (naming_in ns n) k
state_in ns k (state.ArgsNext p c) = pushdown.ArgsNext p (callee_in ns c) k
state_in ns k (state.ArgsOpen p c) = pushdown.ArgsOpen p (callee_in ns c) k
state_in ns k (state.FieldNext u) = pushdown.FieldNext (purpose_in ns u.purpose) u.line (fields_of (tree_in ns) u.fields) k
state_in ns k (state.FieldName u own n) = pushdown.FieldName (purpose_in ns u.purpose) u.line (fields_of (tree_in ns) u.fields) own n k
state_in ns k (state.KeyEnd u e) = pushdown.KeyEnd (purpose_in ns u.purpose) u.line (fields_of (tree_in ns) u.fields) (tree_in ns e) k
state_in ns k state.BlockNext = pushdown.BlockNext k
state_in ns k (state.StatNext b) = pushdown.StatNext (begun_in ns b) k
state_in ns k (state.LabelEnd l n b) = pushdown.LabelEnd l n (begun_in ns b) k
state_in ns k (state.LocalNext l b) = pushdown.LocalNext l (begun_in ns b) k
state_in ns k (state.LocalNames l names b) = pushdown.LocalNames l names (begun_in ns b) k
state_in ns k (state.LoopName l n b) = pushdown.LoopName l n (begun_in ns b) k
state_in ns k (state.LoopNames l names b) = pushdown.LoopNames l names (begun_in ns b) k
state_in ns k (state.PathNext l t b) = pushdown.PathNext l (tree_in ns t) (begun_in ns b) k
state_in ns k (state.BodyNext h) = pushdown.BodyNext (head_in ns h) k
state_in ns k (state.ParamFirst h) = pushdown.ParamFirst (head_in ns h) k
state_in ns k (state.ParamNext h params) = pushdown.ParamNext (head_in ns h) params.items k
state_in ns k (state.ParamNames h params) = pushdown.ParamNames (head_in ns h) params.items k
state_in ns k (state.ParamsEnd h params) = pushdown.ParamsEnd (head_in ns h) params.items k
state_in ns k (state.TargetNext l ts b) = pushdown.TargetNext l (list_of (tree_in ns) ts) (begun_in ns b) k
state_in ns k (state.ReturnNext l b) = pushdown.ReturnNext l (begun_in ns b) k
state_in ns k (state.BlockEnd b) = pushdown.BlockEnd (begun_in ns b) k
state_in ns k (state.Done t) = pushdown.Done (tree_in ns t)

-- All nodes that are named in it are below n.
abbrev pub BegunBelow : ℕ → Begun → Type 0
BegunBelow n b = AllBelow n b.stats

abbrev pub CalleeBelow : ℕ → Callee → Type 0
CalleeBelow n (callee.Function f) = f < n
CalleeBelow n (callee.Method o name) = o < n

abbrev pub PurposeBelow : ℕ → Purpose → Type 0
PurposeBelow n (purpose.Value p) = Unit {0}
PurposeBelow n (purpose.Argument p c) = CalleeBelow n c

abbrev pub HeadBelow : ℕ → Head → Type 0
HeadBelow n (head.Anonymous p l) = Unit {0}
HeadBelow n (head.Assigned l t m b) = (t < n) × BegunBelow n b
HeadBelow n (head.Local l own name b) = BegunBelow n b

-- As many tests as blocks.
abbrev pub CasesBelow : ℕ → List ℕ → List ℕ → Type 0
CasesBelow n ts bs = AllBelow n ts × AllBelow n bs × (length ts ≡ length bs)

abbrev pub TableBelow : ℕ → BegunTable → Type 0
TableBelow n u = PurposeBelow n u.purpose × FieldsBelow n u.fields

abbrev pub StatementBelow : ℕ → OpenStatement → Type 0
StatementBelow n (statement.Local l names es b) = AllBelow n es × BegunBelow n b
StatementBelow n (statement.Prefix b) = BegunBelow n b
StatementBelow n (statement.Target l ts b) = AllBelow n ts × BegunBelow n b
StatementBelow n (statement.Assign l ts es b) = AllBelow n ts × AllBelow n es × BegunBelow n b
StatementBelow n (statement.Return l es b) = AllBelow n es × BegunBelow n b
StatementBelow n (statement.Until l t b) = (t < n) × BegunBelow n b

abbrev pub HeaderBelow : ℕ → OpenHeader → Type 0
HeaderBelow n (header.While l b) = BegunBelow n b
HeaderBelow n (header.If l ts bs b) = CasesBelow n ts bs × BegunBelow n b
HeaderBelow n (header.First l name b) = BegunBelow n b
HeaderBelow n (header.Last l name a b) = (a < n) × BegunBelow n b
HeaderBelow n (header.Step l name a e b) = (a < n) × (e < n) × BegunBelow n b
HeaderBelow n (header.Iterator f) = AllBelow n f.exps × BegunBelow n f.block

abbrev pub BlockBelow : ℕ → OpenBlock → Type 0
BlockBelow n (block.Do l b) = BegunBelow n b
BlockBelow n (block.While l t b) = (t < n) × BegunBelow n b
BlockBelow n (block.Repeat l b) = BegunBelow n b
BlockBelow n (block.Then l ts bs t b) = CasesBelow n ts bs × (t < n) × BegunBelow n b
BlockBelow n (block.Else l ts bs b) = CasesBelow n ts bs × BegunBelow n b
BlockBelow n (block.NumericFor f) = (f.first < n) × (f.last < n) × MaybeBelow n f.step × BegunBelow n f.block
BlockBelow n (block.GenericFor f) = AllBelow n f.exps × BegunBelow n f.block
BlockBelow n (block.Function h params more) = HeadBelow n h

abbrev pub FrameBelow : ℕ → Frame → Type 0
FrameBelow n (frame.InParen q l) = Unit {0}
FrameBelow n (frame.InUnary q l op) = Unit {0}
FrameBelow n (frame.InBinary q op t) = t < n
FrameBelow n (frame.InIndex q o) = o < n
FrameBelow n (frame.InArgs q c es) = CalleeBelow n c × AllBelow n es
FrameBelow n (frame.InItem u) = TableBelow n u
FrameBelow n (frame.InNamed u name) = TableBelow n u
FrameBelow n (frame.InKey u) = TableBelow n u
FrameBelow n (frame.InKeyed u e) = TableBelow n u × (e < n)
FrameBelow n (frame.InStatement s) = StatementBelow n s
FrameBelow n (frame.InHeader h) = HeaderBelow n h
FrameBelow n (frame.InBlock b) = BlockBelow n b

abbrev pub FramesBelow : ℕ → List Frame → Type 0
FramesBelow n [] = Unit {0}
FramesBelow n (f ∷ fs) = FrameBelow n f × FramesBelow n fs

abbrev pub NamingBelow : ℕ → Naming → Type 0
NamingBelow n (naming.ForField p o) = o < n
NamingBelow n (naming.ForMethod p o) = o < n
NamingBelow n (naming.ForLabel l b) = BegunBelow n b
NamingBelow n (naming.ForGoto l b) = BegunBelow n b
NamingBelow n (naming.ForVariable l b) = BegunBelow n b
NamingBelow n (naming.ForVariables l names b) = BegunBelow n b
NamingBelow n (naming.ForFunction l b) = BegunBelow n b
NamingBelow n (naming.ForFunctionField l o b) = (o < n) × BegunBelow n b
NamingBelow n (naming.ForFunctionMethod l o b) = (o < n) × BegunBelow n b
NamingBelow n (naming.ForLocalFunction l own b) = BegunBelow n b
NamingBelow n (naming.ForLocal l names b) = BegunBelow n b

abbrev pub StateBelow : ℕ → State → Type 0
StateBelow n (state.Need p) = Unit {0}
StateBelow n (state.Have p t) = t < n
StateBelow n (state.NameNext name) = NamingBelow n name
StateBelow n (state.ArgsNext p c) = CalleeBelow n c
StateBelow n (state.ArgsOpen p c) = CalleeBelow n c
StateBelow n (state.FieldNext u) = TableBelow n u
StateBelow n (state.FieldName u own name) = TableBelow n u
StateBelow n (state.KeyEnd u e) = TableBelow n u × (e < n)
StateBelow n state.BlockNext = Unit {0}
StateBelow n (state.StatNext b) = BegunBelow n b
StateBelow n (state.LabelEnd l name b) = BegunBelow n b
StateBelow n (state.LocalNext l b) = BegunBelow n b
StateBelow n (state.LocalNames l names b) = BegunBelow n b
StateBelow n (state.LoopName l name b) = BegunBelow n b
StateBelow n (state.LoopNames l names b) = BegunBelow n b
StateBelow n (state.PathNext l t b) = (t < n) × BegunBelow n b
StateBelow n (state.BodyNext h) = HeadBelow n h
StateBelow n (state.ParamFirst h) = HeadBelow n h
StateBelow n (state.ParamNext h params) = HeadBelow n h
StateBelow n (state.ParamNames h params) = HeadBelow n h
StateBelow n (state.ParamsEnd h params) = HeadBelow n h
StateBelow n (state.TargetNext l ts b) = AllBelow n ts × BegunBelow n b
StateBelow n (state.ReturnNext l b) = BegunBelow n b
StateBelow n (state.BlockEnd b) = BegunBelow n b
StateBelow n (state.Done t) = t < n
