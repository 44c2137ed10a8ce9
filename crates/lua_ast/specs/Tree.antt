-- The tree of a Lua 5.2 text (manual, 3.3, 3.4 and 9), with a constructor for each kind of node.
-- Each node has a number and the line of its first token. A grammar, which knows no numbers, writes 0.
use Rattle.std.specs.Prelude.{ℕ, Bool, List}
use Rattle.lua_ast.specs.declared.node.Literal.{Literal}
use Rattle.lua_ast.specs.declared.node.BinOp.{BinOp}
use Rattle.lua_ast.specs.declared.node.LogicOp.{LogicOp}
use Rattle.lua_ast.specs.declared.node.UnOp.{UnOp}

mutual
  pub data Tree : Type 0 where
    Block : (number line : ℕ) (stats : Trees) → Tree
    Local : (number line : ℕ) (names : List (List ℕ)) (exps : Trees) → Tree
    Assign : (number line : ℕ) (targets exps : Trees) → Tree
    CallStat : (number line : ℕ) (call : Tree) → Tree
    Do : (number line : ℕ) (block : Tree) → Tree
    While : (number line : ℕ) (test block : Tree) → Tree
    Repeat : (number line : ℕ) (block test : Tree) → Tree
    If : (number line : ℕ) (cases : Cases) (otherwise : Maybe) → Tree
    NumFor : (number line : ℕ) (name : List ℕ) (first limit : Tree) (step : Maybe) (block : Tree) → Tree
    GenFor : (number line : ℕ) (names : List (List ℕ)) (exps : Trees) (block : Tree) → Tree
    LocalFunction : (number line : ℕ) (name : List ℕ) (function : Tree) → Tree
    Return : (number line : ℕ) (exps : Trees) → Tree
    Break : (number line : ℕ) → Tree
    Goto : (number line : ℕ) (label : List ℕ) → Tree
    Label : (number line : ℕ) (label : List ℕ) → Tree
    Const : (number line : ℕ) (value : Literal) → Tree
    Vararg : (number line : ℕ) → Tree
    Function : (number line : ℕ) (params : List (List ℕ)) (vararg : Bool) (block : Tree) → Tree
    Name : (number line : ℕ) (text : List ℕ) → Tree
    Index : (number line : ℕ) (object key : Tree) → Tree
    Call : (number line : ℕ) (function : Tree) (args : Trees) → Tree
    Method : (number line : ℕ) (object : Tree) (name : List ℕ) (args : Trees) → Tree
    Binary : (number line : ℕ) (op : BinOp) (left right : Tree) → Tree
    Logic : (number line : ℕ) (op : LogicOp) (left right : Tree) → Tree
    Unary : (number line : ℕ) (op : UnOp) (operand : Tree) → Tree
    Paren : (number line : ℕ) (inner : Tree) → Tree
    Table : (number line : ℕ) (fields : Fields) → Tree
    -- what stands at a number that no node has
    Missing : Tree

  -- a list of trees, which grows at its end
  pub data Trees : Type 0 where
    none : Trees
    snoc : Trees → Tree → Trees

  -- the tests of an If, each with its block
  pub data Cases : Type 0 where
    no_case : Cases
    case : Cases → (test block : Tree) → Cases

  pub data Maybe : Type 0 where
    absent : Maybe
    present : Tree → Maybe

  pub data Fields : Type 0 where
    no_field : Fields
    item : Fields → (value : Tree) → Fields
    named : Fields → (name : List ℕ) (value : Tree) → Fields
    keyed : Fields → (key value : Tree) → Fields

-- the line of a tree's first token
abbrev pub line_of : Tree → ℕ
line_of (Block _ line _) = line
line_of (Local _ line _ _) = line
line_of (Assign _ line _ _) = line
line_of (CallStat _ line _) = line
line_of (Do _ line _) = line
line_of (While _ line _ _) = line
line_of (Repeat _ line _ _) = line
line_of (If _ line _ _) = line
line_of (NumFor _ line _ _ _ _ _) = line
line_of (GenFor _ line _ _ _) = line
line_of (LocalFunction _ line _ _) = line
line_of (Return _ line _) = line
line_of (Break _ line) = line
line_of (Goto _ line _) = line
line_of (Label _ line _) = line
line_of (Const _ line _) = line
line_of (Vararg _ line) = line
line_of (Function _ line _ _ _) = line
line_of (Name _ line _) = line
line_of (Index _ line _ _) = line
line_of (Call _ line _ _) = line
line_of (Method _ line _ _ _) = line
line_of (Binary _ line _ _ _) = line
line_of (Logic _ line _ _ _) = line
line_of (Unary _ line _ _) = line
line_of (Paren _ line _) = line
line_of (Table _ line _) = line
line_of Missing = 0
