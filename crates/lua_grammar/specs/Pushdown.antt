-- A pushdown automaton that reads signs one by one and makes the tree. It joins the grammar and a parser with a stack: what it
-- accepts is what the grammar has, and it stops at the first sign that no text of the grammar has there.
use Rattle.std.specs.Prelude.{ℕ, suc, Bool, true, false, ◌&&◌, nat_le, cond, List, [], ◌∷◌, ◌++◌, Option, Some, None}
use Rattle.lua_ast.specs.declared.node.Literal.{Literal}
use Rattle.lua_ast.specs.declared.node.UnOp.{UnOp}
use Rattle.lua_ast.specs.Tree as tree
use Rattle.lua_ast.specs.Tree.{Tree, Trees, none, snoc, Cases, no_case, case, absent, present, Fields, no_field, item, named, keyed, line_of}
use Rattle.lua_grammar.specs.Signs.{Terminal, Attributes, Sign, sign}
use Rattle.lua_grammar.specs.Kinds as kind
use Rattle.lua_grammar.specs.Values.{text_of}
use Rattle.lua_grammar.specs.Operators.{Operator, value, logic, operator_of, unary_of, level, left_of, right_of, joined, constant_of}
use Rattle.lua_grammar.specs.Grammar.{is_var, is_call, is_prefix, field_of, self_name}

-- The statements of a block so far, and the block's line.
pub record Begun : Type 0 where
  pub line : ℕ
  pub stats : Trees

abbrev pub begun : ℕ → Begun
begun l = record { line = l; stats = none }

abbrev pub add : Begun → Tree → Begun
add b t = record { line = b.line; stats = snoc b.stats t }

abbrev pub block_of : Begun → Tree
block_of b = tree.Block 0 b.line b.stats

-- What is called.
pub data Callee : Type 0 where
  called : (function : Tree) → Callee
  method_called : (object : Tree) (name : List ℕ) → Callee

abbrev pub call_of : Callee → Trees → Tree
call_of (called f) ts = tree.Call 0 (line_of f) f ts
call_of (method_called o n) ts = tree.Method 0 (line_of o) o n ts

-- What a table is for: an expression where the level p is wanted, or the argument of a call.
pub data Purpose : Type 0 where
  as_value : (p : ℕ) → Purpose
  as_argument : (p : ℕ) (callee : Callee) → Purpose

-- A function before its parameters: an expression, one that is assigned, or a local one.
pub data Head : Type 0 where
  anonymous : (p line : ℕ) → Head
  assigned : (line : ℕ) (target : Tree) (given : List (List ℕ)) (b : Begun) → Head
  local_named : (line own : ℕ) (name : List ℕ) (b : Begun) → Head

abbrev pub own_line : Head → ℕ
own_line (anonymous p l) = l
own_line (assigned l t g b) = l
own_line (local_named l own n b) = own

abbrev pub given_of : Head → List (List ℕ)
given_of (anonymous p l) = []
given_of (assigned l t g b) = g
given_of (local_named l own n b) = []

-- What was begun: q is the level that is wanted where it stands, b are the statements before it in its block.
pub data Frame : Type 0 where
  InParen : (q line : ℕ) → Frame
  InUnary : (q line : ℕ) (op : UnOp) → Frame
  InBinary : (q : ℕ) (op : Operator) (left : Tree) → Frame
  InIndex : (q : ℕ) (object : Tree) → Frame
  InArgs : (q : ℕ) (callee : Callee) (args : Trees) → Frame
  InItem : (purpose : Purpose) (line : ℕ) (fields : Fields) → Frame
  InNamed : (purpose : Purpose) (line : ℕ) (fields : Fields) (name : List ℕ) → Frame
  InKey : (purpose : Purpose) (line : ℕ) (fields : Fields) → Frame
  InKeyed : (purpose : Purpose) (line : ℕ) (fields : Fields) (key : Tree) → Frame
  InLocal : (line : ℕ) (names : List (List ℕ)) (exps : Trees) (b : Begun) → Frame
  InStat : (b : Begun) → Frame
  InTargets : (line : ℕ) (targets : Trees) (b : Begun) → Frame
  InAssign : (line : ℕ) (targets exps : Trees) (b : Begun) → Frame
  InReturn : (line : ℕ) (exps : Trees) (b : Begun) → Frame
  InWhileTest : (line : ℕ) (b : Begun) → Frame
  InIfTest : (line : ℕ) (cases : Cases) (b : Begun) → Frame
  InUntil : (line : ℕ) (block : Tree) (b : Begun) → Frame
  InFirst : (line : ℕ) (name : List ℕ) (b : Begun) → Frame
  InLimit : (line : ℕ) (name : List ℕ) (first : Tree) (b : Begun) → Frame
  InStep : (line : ℕ) (name : List ℕ) (first limit : Tree) (b : Begun) → Frame
  InIterator : (line : ℕ) (names : List (List ℕ)) (exps : Trees) (b : Begun) → Frame
  InDo : (line : ℕ) (b : Begun) → Frame
  InWhile : (line : ℕ) (test : Tree) (b : Begun) → Frame
  InRepeat : (line : ℕ) (b : Begun) → Frame
  InThen : (line : ℕ) (cases : Cases) (test : Tree) (b : Begun) → Frame
  InElse : (line : ℕ) (cases : Cases) (b : Begun) → Frame
  InNumFor : (line : ℕ) (name : List ℕ) (first limit : Tree) (step : tree.Maybe) (b : Begun) → Frame
  InGenFor : (line : ℕ) (names : List (List ℕ)) (exps : Trees) (b : Begun) → Frame
  InFunction : (head : Head) (params : List (List ℕ)) (more : Bool) → Frame

-- What a name is to come for.
pub data Naming : Type 0 where
  ForField : (p : ℕ) (object : Tree) → Naming
  ForMethod : (p : ℕ) (object : Tree) → Naming
  ForLabel : (line : ℕ) (b : Begun) → Naming
  ForGoto : (line : ℕ) (b : Begun) → Naming
  ForVariable : (line : ℕ) (b : Begun) → Naming
  ForVariables : (line : ℕ) (names : List (List ℕ)) (b : Begun) → Naming
  ForFunction : (line : ℕ) (b : Begun) → Naming
  ForFunctionField : (line : ℕ) (object : Tree) (b : Begun) → Naming
  ForFunctionMethod : (line : ℕ) (object : Tree) (b : Begun) → Naming
  ForLocalFunction : (line own : ℕ) (b : Begun) → Naming
  ForLocal : (line : ℕ) (names : List (List ℕ)) (b : Begun) → Naming

-- What may come next. Where p is 10 a prefix is wanted.
pub data State : Type 0 where
  Need : (p : ℕ) (k : List Frame) → State
  Have : (p : ℕ) (t : Tree) (k : List Frame) → State
  NameNext : (naming : Naming) (k : List Frame) → State
  ArgsNext : (p : ℕ) (callee : Callee) (k : List Frame) → State
  ArgsOpen : (p : ℕ) (callee : Callee) (k : List Frame) → State
  FieldNext : (purpose : Purpose) (line : ℕ) (fields : Fields) (k : List Frame) → State
  FieldName : (purpose : Purpose) (line : ℕ) (fields : Fields) (name_line : ℕ) (name : List ℕ) (k : List Frame) → State
  KeyEnd : (purpose : Purpose) (line : ℕ) (fields : Fields) (key : Tree) (k : List Frame) → State
  BlockNext : (k : List Frame) → State
  StatNext : (b : Begun) (k : List Frame) → State
  LabelEnd : (line : ℕ) (name : List ℕ) (b : Begun) (k : List Frame) → State
  LocalNext : (line : ℕ) (b : Begun) (k : List Frame) → State
  LocalNames : (line : ℕ) (names : List (List ℕ)) (b : Begun) (k : List Frame) → State
  LoopName : (line : ℕ) (name : List ℕ) (b : Begun) (k : List Frame) → State
  LoopNames : (line : ℕ) (names : List (List ℕ)) (b : Begun) (k : List Frame) → State
  PathNext : (line : ℕ) (path : Tree) (b : Begun) (k : List Frame) → State
  BodyNext : (head : Head) (k : List Frame) → State
  ParamFirst : (head : Head) (k : List Frame) → State
  ParamNext : (head : Head) (params : List (List ℕ)) (k : List Frame) → State
  ParamNames : (head : Head) (params : List (List ℕ)) (k : List Frame) → State
  ParamsEnd : (head : Head) (params : List (List ℕ)) (k : List Frame) → State
  TargetNext : (line : ℕ) (targets : Trees) (b : Begun) (k : List Frame) → State
  ReturnNext : (line : ℕ) (b : Begun) (k : List Frame) → State
  BlockEnd : (b : Begun) (k : List Frame) → State
  Done : (t : Tree) → State

-- The levels that are open in a frame, above n. In a key they are those of the brace and of the bracket.
abbrev pub lift : Frame → ℕ → ℕ
lift (InParen _ _) n = suc n
lift (InUnary _ _ _) n = suc n
lift (InBinary _ _ _) n = suc n
lift (InIndex _ _) n = suc n
lift (InArgs _ _ _) n = suc n
lift (InItem _ _ _) n = suc n
lift (InNamed _ _ _ _) n = suc n
lift (InKey _ _ _) n = suc (suc n)
lift (InKeyed _ _ _ _) n = suc n
lift (InDo _ _) n = suc n
lift (InWhile _ _ _) n = suc n
lift (InRepeat _ _) n = suc n
lift (InThen _ _ _ _) n = suc n
lift (InElse _ _ _) n = suc n
lift (InNumFor _ _ _ _ _ _) n = suc n
lift (InGenFor _ _ _ _) n = suc n
lift (InFunction _ _ _) n = suc n
lift _ n = n

abbrev pub depth : List Frame → ℕ
depth [] = 0
depth (f ∷ k) = lift f (depth k)

abbrev pub level_of : Tree → ℕ
level_of (tree.Unary _ _ _ _) = 7
level_of (tree.Binary _ _ op _ _) = level (value op)
level_of (tree.Logic _ _ op _ _) = level (logic op)
level_of _ = 9

abbrev pub room : ℕ → Bool → Bool
room d true = nat_le d 200
room d false = true

-- A level more is opened above n open ones.
abbrev pub opened_above : ℕ → Attributes → State → Option State
opened_above n i s = cond (room (suc n) i.counted) (Some s) None

abbrev pub opened : List Frame → Attributes → State → Option State
opened k i s = opened_above (depth k) i s

abbrev pub text_args : Attributes → Trees
text_args i = snoc none (tree.Const 0 i.line (text_of i.slice))

-- A table is whole.
abbrev pub made : Purpose → Tree → List Frame → State
made (as_value p) t k = Have p t k
made (as_argument p c) t k = Have p (call_of c (snoc none t)) k

-- A function is whole.
abbrev pub finished : Head → List Frame → Tree → State
finished (anonymous p l) k f = Have p f k
finished (assigned l t g b) k f = StatNext (add b (tree.Assign 0 l (snoc none t) (snoc none f))) k
finished (local_named l own n b) k f = StatNext (add b (tree.LocalFunction 0 l n f)) k

abbrev pub begin_unary : ℕ → List Frame → Attributes → Option UnOp → Option State
begin_unary p k i None = None
begin_unary p k i (Some op) = cond (nat_le p 7) (opened k i (Need 7 (InUnary p i.line op ∷ k))) None

abbrev pub begin_by : ℕ → List Frame → Attributes → Option Literal → Option UnOp → Option State
begin_by p k i (Some v) o = Some (Have p (tree.Const 0 i.line v) k)
begin_by p k i None o = begin_unary p k i o

-- An expression is wanted.
abbrev pub begin : ℕ → List Frame → Terminal → Attributes → Option State
begin p k kind.Ellipsis i = Some (Have p (tree.Vararg 0 i.line) k)
begin p k kind.Name i = Some (Have p (tree.Name 0 i.line i.slice) k)
begin p k kind.OpenParen i = opened k i (Need 0 (InParen p i.line ∷ k))
begin p k kind.OpenBrace i = opened k i (FieldNext (as_value p) i.line no_field k)
begin p k kind.Function i = opened k i (BodyNext (anonymous p i.line) k)
begin p k m i = begin_by p k i (constant_of m i.slice) (unary_of m)

-- A block ends.
abbrev pub end_block : List Frame → Tree → Terminal → Attributes → Option State
end_block [] t kind.EndOfText i = Some (Done t)
end_block (InDo l b ∷ k) t kind.End i = Some (StatNext (add b (tree.Do 0 l t)) k)
end_block (InWhile l e b ∷ k) t kind.End i = Some (StatNext (add b (tree.While 0 l e t)) k)
end_block (InRepeat l b ∷ k) t kind.Until i = Some (Need 0 (InUntil l t b ∷ k))
end_block (InThen l cs e b ∷ k) t kind.End i = Some (StatNext (add b (tree.If 0 l (case cs e t) absent)) k)
end_block (InThen l cs e b ∷ k) t kind.Elseif i = Some (Need 0 (InIfTest l (case cs e t) b ∷ k))
end_block (InThen l cs e b ∷ k) t kind.Else i = opened k i (BlockNext (InElse l (case cs e t) b ∷ k))
end_block (InElse l cs b ∷ k) t kind.End i = Some (StatNext (add b (tree.If 0 l cs (present t))) k)
end_block (InNumFor l n a e s b ∷ k) t kind.End i = Some (StatNext (add b (tree.NumFor 0 l n a e s t)) k)
end_block (InGenFor l ns es b ∷ k) t kind.End i = Some (StatNext (add b (tree.GenFor 0 l ns es t)) k)
end_block (InFunction h ns more ∷ k) t kind.End i = Some (finished h k (tree.Function 0 (own_line h) (given_of h ++ ns) more t))
end_block _ t _ i = None

-- A statement may begin, or the block ends.
abbrev pub next : Begun → List Frame → Terminal → Attributes → Option State
next b k kind.Semicolon i = Some (StatNext b k)
next b k kind.Name i = Some (Have 10 (tree.Name 0 i.line i.slice) (InStat b ∷ k))
next b k kind.OpenParen i = opened k i (Need 0 (InParen 10 i.line ∷ InStat b ∷ k))
next b k kind.DoubleColon i = Some (NameNext (ForLabel i.line b) k)
next b k kind.Break i = Some (StatNext (add b (tree.Break 0 i.line)) k)
next b k kind.Goto i = Some (NameNext (ForGoto i.line b) k)
next b k kind.Do i = opened k i (BlockNext (InDo i.line b ∷ k))
next b k kind.While i = Some (Need 0 (InWhileTest i.line b ∷ k))
next b k kind.Repeat i = opened k i (BlockNext (InRepeat i.line b ∷ k))
next b k kind.If i = Some (Need 0 (InIfTest i.line no_case b ∷ k))
next b k kind.For i = Some (NameNext (ForVariable i.line b) k)
next b k kind.Function i = opened k i (NameNext (ForFunction i.line b) k)
next b k kind.Local i = Some (LocalNext i.line b k)
next b k kind.Return i = Some (ReturnNext i.line b k)
next b k m i = end_block k (block_of b) m i

abbrev pub after_prefix : Tree → Begun → List Frame → Terminal → Attributes → Option State
after_prefix t b k kind.Assign i = cond (is_var t) (Some (Need 0 (InAssign (line_of t) (snoc none t) none b ∷ k))) None
after_prefix t b k kind.Comma i = cond (is_var t) (Some (TargetNext (line_of t) (snoc none t) b k)) None
after_prefix t b k m i = cond (is_call t) (next (add b (tree.CallStat 0 (line_of t) t)) k m i) None

-- A field is over.
abbrev pub field_done : Purpose → ℕ → Fields → List Frame → Terminal → Option State
field_done u l fs k kind.Comma = Some (FieldNext u l fs k)
field_done u l fs k kind.Semicolon = Some (FieldNext u l fs k)
field_done u l fs k kind.CloseBrace = Some (made u (tree.Table 0 l fs) k)
field_done u l fs k _ = None

-- The frame goes on with the expression t.
abbrev pub close : Frame → Tree → List Frame → Terminal → Attributes → Option State
close (InParen q l) t k kind.CloseParen i = Some (Have q (tree.Paren 0 l t) k)
close (InIndex q o) t k kind.CloseBracket i = Some (Have q (tree.Index 0 (line_of o) o t) k)
close (InArgs q c es) t k kind.CloseParen i = Some (Have q (call_of c (snoc es t)) k)
close (InArgs q c es) t k kind.Comma i = Some (Need 0 (InArgs q c (snoc es t) ∷ k))
close (InItem u l fs) t k m i = field_done u l (item fs t) k m
close (InNamed u l fs n) t k m i = field_done u l (named fs n t) k m
close (InKey u l fs) t k kind.CloseBracket i = Some (KeyEnd u l fs t k)
close (InKeyed u l fs e) t k m i = field_done u l (keyed fs e t) k m
close (InLocal l ns es b) t k kind.Comma i = Some (Need 0 (InLocal l ns (snoc es t) b ∷ k))
close (InLocal l ns es b) t k m i = next (add b (tree.Local 0 l ns (snoc es t))) k m i
close (InStat b) t k m i = after_prefix t b k m i
close (InTargets l ts b) t k kind.Assign i = cond (is_var t) (Some (Need 0 (InAssign l (snoc ts t) none b ∷ k))) None
close (InTargets l ts b) t k kind.Comma i = cond (is_var t) (Some (TargetNext l (snoc ts t) b k)) None
close (InAssign l ts es b) t k kind.Comma i = Some (Need 0 (InAssign l ts (snoc es t) b ∷ k))
close (InAssign l ts es b) t k m i = next (add b (tree.Assign 0 l ts (snoc es t))) k m i
close (InReturn l es b) t k kind.Comma i = Some (Need 0 (InReturn l (snoc es t) b ∷ k))
close (InReturn l es b) t k kind.Semicolon i = Some (BlockEnd (add b (tree.Return 0 l (snoc es t))) k)
close (InReturn l es b) t k m i = end_block k (block_of (add b (tree.Return 0 l (snoc es t)))) m i
close (InWhileTest l b) t k kind.Do i = opened k i (BlockNext (InWhile l t b ∷ k))
close (InIfTest l cs b) t k kind.Then i = opened k i (BlockNext (InThen l cs t b ∷ k))
close (InUntil l e b) t k m i = next (add b (tree.Repeat 0 l e t)) k m i
close (InFirst l n b) t k kind.Comma i = Some (Need 0 (InLimit l n t b ∷ k))
close (InLimit l n a b) t k kind.Comma i = Some (Need 0 (InStep l n a t b ∷ k))
close (InLimit l n a b) t k kind.Do i = opened k i (BlockNext (InNumFor l n a t absent b ∷ k))
close (InStep l n a e b) t k kind.Do i = opened k i (BlockNext (InNumFor l n a e (present t) b ∷ k))
close (InIterator l ns es b) t k kind.Comma i = Some (Need 0 (InIterator l ns (snoc es t) b ∷ k))
close (InIterator l ns es b) t k kind.Do i = opened k i (BlockNext (InGenFor l ns (snoc es t) b ∷ k))
close _ t k _ i = None

-- Arguments begin.
abbrev pub args_begin : ℕ → Callee → List Frame → Terminal → Attributes → Option State
args_begin p c k kind.OpenParen i = opened k i (ArgsOpen p c k)
args_begin p c k kind.OpenBrace i = opened k i (FieldNext (as_argument p c) i.line no_field k)
args_begin p c k kind.Text i = Some (Have p (call_of c (text_args i)) k)
args_begin p c k _ i = None

abbrev pub takes : ℕ → Tree → Operator → Bool
takes p t op = nat_le p (level op) && nat_le (left_of op) (level_of t)

abbrev pub operator : ℕ → Tree → List Frame → Attributes → Option Operator → Option State → Option State
operator p t k i None otherwise = otherwise
operator p t k i (Some op) otherwise = cond (takes p t op) (opened k i (Need (right_of op) (InBinary p op t ∷ k))) otherwise

-- The expression t goes on, or else.
abbrev pub suffix : ℕ → Tree → List Frame → Terminal → Attributes → Option State → Option State
suffix p t k kind.Dot i otherwise = cond (is_prefix t) (Some (NameNext (ForField p t) k)) otherwise
suffix p t k kind.Colon i otherwise = cond (is_prefix t) (Some (NameNext (ForMethod p t) k)) otherwise
suffix p t k kind.OpenBracket i otherwise = cond (is_prefix t) (opened k i (Need 0 (InIndex p t ∷ k))) otherwise
suffix p t k kind.OpenParen i otherwise = cond (is_prefix t) (args_begin p (called t) k kind.OpenParen i) otherwise
suffix p t k kind.OpenBrace i otherwise = cond (is_prefix t) (args_begin p (called t) k kind.OpenBrace i) otherwise
suffix p t k kind.Text i otherwise = cond (is_prefix t) (args_begin p (called t) k kind.Text i) otherwise
suffix p t k m i otherwise = operator p t k i (operator_of m) otherwise

-- What was begun goes on where the expression t is over.
abbrev pub rest : List Frame → Tree → Terminal → Attributes → Option State
rest [] t m i = None
rest (InUnary q l op ∷ k) t m i = suffix q (tree.Unary 0 l op t) k m i (rest k (tree.Unary 0 l op t) m i)
rest (InBinary q op l ∷ k) t m i = suffix q (joined op l t) k m i (rest k (joined op l t) m i)
rest (f ∷ k) t m i = close f t k m i

abbrev pub follow : List Frame → ℕ → Tree → Terminal → Attributes → Option State
follow k p t m i = suffix p t k m i (rest k t m i)

abbrev pub after_name : Naming → List Frame → Attributes → State
after_name (ForField p o) k i = Have p (field_of o i) k
after_name (ForMethod p o) k i = ArgsNext p (method_called o i.slice) k
after_name (ForLabel l b) k i = LabelEnd l i.slice b k
after_name (ForGoto l b) k i = StatNext (add b (tree.Goto 0 l i.slice)) k
after_name (ForVariable l b) k i = LoopName l i.slice b k
after_name (ForVariables l ns b) k i = LoopNames l (ns ++ i.slice ∷ []) b k
after_name (ForFunction l b) k i = PathNext l (tree.Name 0 i.line i.slice) b k
after_name (ForFunctionField l o b) k i = PathNext l (field_of o i) b k
after_name (ForFunctionMethod l o b) k i = BodyNext (assigned l (field_of o i) (self_name ∷ []) b) k
after_name (ForLocalFunction l own b) k i = BodyNext (local_named l own i.slice b) k
after_name (ForLocal l ns b) k i = LocalNames l (ns ++ i.slice ∷ []) b k

abbrev pub name_next : Naming → List Frame → Terminal → Attributes → Option State
name_next n k kind.Name i = Some (after_name n k i)
name_next n k _ i = None

abbrev pub args_open : ℕ → Callee → List Frame → Terminal → Attributes → Option State
args_open p c k kind.CloseParen i = Some (Have p (call_of c none) k)
args_open p c k m i = begin 0 (InArgs p c none ∷ k) m i

abbrev pub field_next : Purpose → ℕ → Fields → List Frame → Terminal → Attributes → Option State
field_next u l fs k kind.CloseBrace i = Some (made u (tree.Table 0 l fs) k)
field_next u l fs k kind.Name i = Some (FieldName u l fs i.line i.slice k)
field_next u l fs k kind.OpenBracket i = opened_above (suc (depth k)) i (Need 0 (InKey u l fs ∷ k))
field_next u l fs k m i = begin 0 (InItem u l fs ∷ k) m i

abbrev pub field_name : Purpose → ℕ → Fields → ℕ → List ℕ → List Frame → Terminal → Attributes → Option State
field_name u l fs nl n k kind.Assign i = Some (Need 0 (InNamed u l fs n ∷ k))
field_name u l fs nl n k m i = follow (InItem u l fs ∷ k) 0 (tree.Name 0 nl n) m i

abbrev pub key_end : Purpose → ℕ → Fields → Tree → List Frame → Terminal → Option State
key_end u l fs e k kind.Assign = Some (Need 0 (InKeyed u l fs e ∷ k))
key_end u l fs e k _ = None

abbrev pub label_end : ℕ → List ℕ → Begun → List Frame → Terminal → Option State
label_end l n b k kind.DoubleColon = Some (StatNext (add b (tree.Label 0 l n)) k)
label_end l n b k _ = None

abbrev pub local_next : ℕ → Begun → List Frame → Terminal → Attributes → Option State
local_next l b k kind.Name i = Some (LocalNames l (i.slice ∷ []) b k)
local_next l b k kind.Function i = opened k i (NameNext (ForLocalFunction l i.line b) k)
local_next l b k _ i = None

abbrev pub local_names : ℕ → List (List ℕ) → Begun → List Frame → Terminal → Attributes → Option State
local_names l ns b k kind.Comma i = Some (NameNext (ForLocal l ns b) k)
local_names l ns b k kind.Assign i = Some (Need 0 (InLocal l ns none b ∷ k))
local_names l ns b k m i = next (add b (tree.Local 0 l ns none)) k m i

abbrev pub for_name : ℕ → List ℕ → Begun → List Frame → Terminal → Option State
for_name l n b k kind.Assign = Some (Need 0 (InFirst l n b ∷ k))
for_name l n b k kind.Comma = Some (NameNext (ForVariables l (n ∷ []) b) k)
for_name l n b k kind.In = Some (Need 0 (InIterator l (n ∷ []) none b ∷ k))
for_name l n b k _ = None

abbrev pub for_names : ℕ → List (List ℕ) → Begun → List Frame → Terminal → Option State
for_names l ns b k kind.Comma = Some (NameNext (ForVariables l ns b) k)
for_names l ns b k kind.In = Some (Need 0 (InIterator l ns none b ∷ k))
for_names l ns b k _ = None

abbrev pub body_next : Head → List Frame → Terminal → Attributes → Option State
body_next h k kind.OpenParen i = opened (InFunction h [] false ∷ k) i (ParamFirst h k)
body_next h k _ i = None

abbrev pub path_next : ℕ → Tree → Begun → List Frame → Terminal → Attributes → Option State
path_next l t b k kind.Dot i = Some (NameNext (ForFunctionField l t b) k)
path_next l t b k kind.Colon i = Some (NameNext (ForFunctionMethod l t b) k)
path_next l t b k m i = body_next (assigned l t [] b) k m i

abbrev pub param_first : Head → List Frame → Terminal → Attributes → Option State
param_first h k kind.CloseParen i = Some (BlockNext (InFunction h [] false ∷ k))
param_first h k kind.Name i = Some (ParamNames h (i.slice ∷ []) k)
param_first h k kind.Ellipsis i = Some (ParamsEnd h [] k)
param_first h k _ i = None

abbrev pub param_next : Head → List (List ℕ) → List Frame → Terminal → Attributes → Option State
param_next h ns k kind.Name i = Some (ParamNames h (ns ++ i.slice ∷ []) k)
param_next h ns k kind.Ellipsis i = Some (ParamsEnd h ns k)
param_next h ns k _ i = None

abbrev pub param_names : Head → List (List ℕ) → List Frame → Terminal → Option State
param_names h ns k kind.Comma = Some (ParamNext h ns k)
param_names h ns k kind.CloseParen = Some (BlockNext (InFunction h ns false ∷ k))
param_names h ns k _ = None

abbrev pub params_end : Head → List (List ℕ) → List Frame → Terminal → Option State
params_end h ns k kind.CloseParen = Some (BlockNext (InFunction h ns true ∷ k))
params_end h ns k _ = None

abbrev pub target_next : ℕ → Trees → Begun → List Frame → Terminal → Attributes → Option State
target_next l ts b k kind.Name i = Some (Have 10 (tree.Name 0 i.line i.slice) (InTargets l ts b ∷ k))
target_next l ts b k kind.OpenParen i = opened k i (Need 0 (InParen 10 i.line ∷ InTargets l ts b ∷ k))
target_next l ts b k _ i = None

abbrev pub is_end : Terminal → Bool
is_end kind.End = true
is_end kind.Else = true
is_end kind.Elseif = true
is_end kind.Until = true
is_end kind.EndOfText = true
is_end _ = false

-- After return: its expressions, or the block ends.
abbrev pub return_next : ℕ → Begun → List Frame → Terminal → Attributes → Option State
return_next l b k kind.Semicolon i = Some (BlockEnd (add b (tree.Return 0 l none)) k)
return_next l b k m i = cond (is_end m) (end_block k (block_of (add b (tree.Return 0 l none))) m i) (begin 0 (InReturn l none b ∷ k) m i)

abbrev pub step_from : State → Terminal → Attributes → Option State
step_from (Need p k) m i = begin p k m i
step_from (Have p t k) m i = follow k p t m i
step_from (NameNext n k) m i = name_next n k m i
step_from (ArgsNext p c k) m i = args_begin p c k m i
step_from (ArgsOpen p c k) m i = args_open p c k m i
step_from (FieldNext u l fs k) m i = field_next u l fs k m i
step_from (FieldName u l fs nl n k) m i = field_name u l fs nl n k m i
step_from (KeyEnd u l fs e k) m i = key_end u l fs e k m
step_from (BlockNext k) m i = next (begun i.line) k m i
step_from (StatNext b k) m i = next b k m i
step_from (LabelEnd l n b k) m i = label_end l n b k m
step_from (LocalNext l b k) m i = local_next l b k m i
step_from (LocalNames l ns b k) m i = local_names l ns b k m i
step_from (LoopName l n b k) m i = for_name l n b k m
step_from (LoopNames l ns b k) m i = for_names l ns b k m
step_from (PathNext l t b k) m i = path_next l t b k m i
step_from (BodyNext h k) m i = body_next h k m i
step_from (ParamFirst h k) m i = param_first h k m i
step_from (ParamNext h ns k) m i = param_next h ns k m i
step_from (ParamNames h ns k) m i = param_names h ns k m
step_from (ParamsEnd h ns k) m i = params_end h ns k m
step_from (TargetNext l ts b k) m i = target_next l ts b k m i
step_from (ReturnNext l b k) m i = return_next l b k m i
step_from (BlockEnd b k) m i = end_block k (block_of b) m i
step_from (Done t) m i = None

abbrev pub step : Option State → Sign → Option State
step None s = None
step (Some o) (sign m i) = step_from o m i

abbrev pub steps : List Sign → Option State → Option State
steps [] o = o
steps (s ∷ x) o = steps x (step o s)

abbrev pub initial : Option State
initial = Some (BlockNext [])
