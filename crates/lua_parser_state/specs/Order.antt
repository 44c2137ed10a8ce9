-- What the parser has in hand, in the order of the text: numbers that were left, the last first, with those that are named here in front of them.
use Rattle.std.specs.Prelude.{ℕ, List, [], ◌∷◌, Result, Ok, Err}
use Rattle.lua_ast.specs.Postfix.{list_on, maybe_on, fields_on, cases_on, Leaves}
use Rattle.lua_parser_state.specs.declared.frame.Begun.{Begun}
use Rattle.lua_parser_state.specs.declared.frame.Callee.{Callee}
use Rattle.lua_parser_state.specs.declared.frame.Callee.TheVariants as callee
use Rattle.lua_parser_state.specs.declared.frame.Purpose.{Purpose}
use Rattle.lua_parser_state.specs.declared.frame.Purpose.TheVariants as purpose
use Rattle.lua_parser_state.specs.declared.frame.BegunTable.{BegunTable}
use Rattle.lua_parser_state.specs.declared.frame.OpenStatement.{OpenStatement}
use Rattle.lua_parser_state.specs.declared.frame.OpenStatement.TheVariants as statement
use Rattle.lua_parser_state.specs.declared.frame.OpenHeader.{OpenHeader}
use Rattle.lua_parser_state.specs.declared.frame.OpenHeader.TheVariants as header
use Rattle.lua_parser_state.specs.declared.frame.OpenBlock.{OpenBlock}
use Rattle.lua_parser_state.specs.declared.frame.OpenBlock.TheVariants as block
use Rattle.lua_parser_state.specs.declared.frame.Head.{Head}
use Rattle.lua_parser_state.specs.declared.frame.Head.TheVariants as head
use Rattle.lua_parser_state.specs.declared.frame.Frame.{Frame}
use Rattle.lua_parser_state.specs.declared.frame.Frame.TheVariants as frame
use Rattle.lua_parser_state.specs.declared.state.Naming.{Naming}
use Rattle.lua_parser_state.specs.declared.state.Naming.TheVariants as naming
use Rattle.lua_parser_state.specs.declared.state.State.{State}
use Rattle.lua_parser_state.specs.declared.state.State.TheVariants as state
use Rattle.lua_parser_state.specs.Shown.{Held}

abbrev pub begun_on : Begun → List ℕ → List ℕ
begun_on b below = list_on b.stats below

abbrev pub callee_on : Callee → List ℕ → List ℕ
callee_on (callee.Function f) below = f ∷ below
callee_on (callee.Method o _) below = o ∷ below

abbrev pub purpose_on : Purpose → List ℕ → List ℕ
purpose_on (purpose.Value _) below = below
purpose_on (purpose.Argument _ c) below = callee_on c below

abbrev pub table_on : BegunTable → List ℕ → List ℕ
table_on u below = fields_on u.fields (purpose_on u.purpose below)

abbrev pub head_on : Head → List ℕ → List ℕ
head_on (head.Anonymous _ _) below = below
head_on (head.Assigned _ t _ b) below = t ∷ begun_on b below
head_on (head.Local _ _ _ b) below = begun_on b below

abbrev pub statement_on : OpenStatement → List ℕ → List ℕ
statement_on (statement.Local l names es b) below = list_on es (begun_on b below)
statement_on (statement.Prefix b) below = begun_on b below
statement_on (statement.Target l ts b) below = list_on ts (begun_on b below)
statement_on (statement.Assign l ts es b) below = list_on es (list_on ts (begun_on b below))
statement_on (statement.Return l es b) below = list_on es (begun_on b below)
statement_on (statement.Until l t b) below = t ∷ begun_on b below

abbrev pub header_on : OpenHeader → List ℕ → List ℕ
header_on (header.While l b) below = begun_on b below
header_on (header.If l ts bs b) below = cases_on ts bs (begun_on b below)
header_on (header.First l n b) below = begun_on b below
header_on (header.Last l n a b) below = a ∷ begun_on b below
header_on (header.Step l n a e b) below = e ∷ a ∷ begun_on b below
header_on (header.Iterator f) below = list_on f.exps (begun_on f.block below)

abbrev pub block_on : OpenBlock → List ℕ → List ℕ
block_on (block.Do l b) below = begun_on b below
block_on (block.While l t b) below = t ∷ begun_on b below
block_on (block.Repeat l b) below = begun_on b below
block_on (block.Then l ts bs t b) below = t ∷ cases_on ts bs (begun_on b below)
block_on (block.Else l ts bs b) below = cases_on ts bs (begun_on b below)
block_on (block.NumericFor f) below = maybe_on f.step (f.last ∷ f.first ∷ begun_on f.block below)
block_on (block.GenericFor f) below = list_on f.exps (begun_on f.block below)
block_on (block.Function h params more) below = head_on h below

abbrev pub frame_on : Frame → List ℕ → List ℕ
frame_on (frame.InParen q l) below = below
frame_on (frame.InUnary q l op) below = below
frame_on (frame.InBinary q op t) below = t ∷ below
frame_on (frame.InIndex q o) below = o ∷ below
frame_on (frame.InArgs q c es) below = list_on es (callee_on c below)
frame_on (frame.InItem u) below = table_on u below
frame_on (frame.InNamed u n) below = table_on u below
frame_on (frame.InKey u) below = table_on u below
frame_on (frame.InKeyed u e) below = e ∷ table_on u below
frame_on (frame.InStatement s) below = statement_on s below
frame_on (frame.InHeader h) below = header_on h below
frame_on (frame.InBlock b) below = block_on b below

abbrev pub frames_on : List Frame → List ℕ
frames_on [] = []
frames_on (f ∷ fs) = frame_on f (frames_on fs)

abbrev pub naming_on : Naming → List ℕ → List ℕ
naming_on (naming.ForField p o) below = o ∷ below
naming_on (naming.ForMethod p o) below = o ∷ below
naming_on (naming.ForLabel l b) below = begun_on b below
naming_on (naming.ForGoto l b) below = begun_on b below
naming_on (naming.ForVariable l b) below = begun_on b below
naming_on (naming.ForVariables l names b) below = begun_on b below
naming_on (naming.ForFunction l b) below = begun_on b below
naming_on (naming.ForFunctionField l o b) below = o ∷ begun_on b below
naming_on (naming.ForFunctionMethod l o b) below = o ∷ begun_on b below
naming_on (naming.ForLocalFunction l own b) below = begun_on b below
naming_on (naming.ForLocal l names b) below = begun_on b below

-- A text that is over has its root alone: what frames hold doesn't count then, so nothing can be left in one.
abbrev pub state_on : State → List ℕ → List ℕ
state_on (state.Need p) below = below
state_on (state.Have p t) below = t ∷ below
state_on (state.NameNext n) below = naming_on n below
state_on (state.ArgsNext p c) below = callee_on c below
state_on (state.ArgsOpen p c) below = callee_on c below
state_on (state.FieldNext u) below = table_on u below
state_on (state.FieldName u own n) below = table_on u below
state_on (state.KeyEnd u e) below = e ∷ table_on u below
state_on state.BlockNext below = below
state_on (state.StatNext b) below = begun_on b below
state_on (state.LabelEnd l n b) below = begun_on b below
state_on (state.LocalNext l b) below = begun_on b below
state_on (state.LocalNames l names b) below = begun_on b below
state_on (state.LoopName l n b) below = begun_on b below
state_on (state.LoopNames l names b) below = begun_on b below
state_on (state.PathNext l t b) below = t ∷ begun_on b below
state_on (state.BodyNext h) below = head_on h below
state_on (state.ParamFirst h) below = head_on h below
state_on (state.ParamNext h params) below = head_on h below
state_on (state.ParamNames h params) below = head_on h below
state_on (state.ParamsEnd h params) below = head_on h below
state_on (state.TargetNext l ts b) below = list_on ts (begun_on b below)
state_on (state.ReturnNext l b) below = begun_on b below
state_on (state.BlockEnd b) below = begun_on b below
state_on (state.Done t) below = t ∷ []

-- The nodes leave what stands in frames, and in front of it what is in hand.
abbrev pub Stands : (List ℕ → List ℕ) → Held → Type 0
Stands hand h = Leaves h.nodes (hand (frames_on h.frames))

-- The same of a state that is answered.
abbrev pub Answers : {E : Type 0} → Result State E → Held → Type 0
Answers (Ok s) h = Stands (state_on s) h
Answers (Err e) h = Unit {0}
