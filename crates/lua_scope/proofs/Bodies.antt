-- Trees in which the body of each repeat is a block, as the grammar has it.
use Rattle.lua_ast.specs.Tree.{Tree, Block, Local, Assign, CallStat, Do, While, Repeat, If, NumFor, GenFor, LocalFunction, Return, Break, Goto, Label, Const, Vararg, Function, Name, Index, Call, Method, Binary, Logic, Unary, Paren, Table, Missing, Trees, none, snoc, Cases, no_case, case, Maybe, absent, present, Fields, no_field, item, named, keyed}

abbrev pub IsBlock : Tree → Type 0
IsBlock (Block _ _ _) = Unit {0}
IsBlock _ = ⊥

abbrev mutual
  pub HasBlocks : Tree → Type 0
  HasBlocks (Block _ _ stats) = HaveBlocks stats
  HasBlocks (Local _ _ _ exps) = HaveBlocks exps
  HasBlocks (Assign _ _ targets exps) = HaveBlocks targets × HaveBlocks exps
  HasBlocks (CallStat _ _ call) = HasBlocks call
  HasBlocks (Do _ _ block) = HasBlocks block
  HasBlocks (While _ _ test block) = HasBlocks test × HasBlocks block
  HasBlocks (Repeat _ _ block test) = IsBlock block × HasBlocks block × HasBlocks test
  HasBlocks (If _ _ cases otherwise) = CasesHaveBlocks cases × MaybeHasBlocks otherwise
  HasBlocks (NumFor _ _ _ first limit step block) = HasBlocks first × HasBlocks limit × MaybeHasBlocks step × HasBlocks block
  HasBlocks (GenFor _ _ _ exps block) = HaveBlocks exps × HasBlocks block
  HasBlocks (LocalFunction _ _ _ function) = HasBlocks function
  HasBlocks (Return _ _ exps) = HaveBlocks exps
  HasBlocks (Break _ _) = Unit {0}
  HasBlocks (Goto _ _ _) = Unit {0}
  HasBlocks (Label _ _ _) = Unit {0}
  HasBlocks (Const _ _ _) = Unit {0}
  HasBlocks (Vararg _ _) = Unit {0}
  HasBlocks (Function _ _ _ _ block) = HasBlocks block
  HasBlocks (Name _ _ _) = Unit {0}
  HasBlocks (Index _ _ object key) = HasBlocks object × HasBlocks key
  HasBlocks (Call _ _ function args) = HasBlocks function × HaveBlocks args
  HasBlocks (Method _ _ object _ args) = HasBlocks object × HaveBlocks args
  HasBlocks (Binary _ _ _ left right) = HasBlocks left × HasBlocks right
  HasBlocks (Logic _ _ _ left right) = HasBlocks left × HasBlocks right
  HasBlocks (Unary _ _ _ operand) = HasBlocks operand
  HasBlocks (Paren _ _ inner) = HasBlocks inner
  HasBlocks (Table _ _ fields) = FieldsHaveBlocks fields
  HasBlocks Missing = Unit {0}

  pub HaveBlocks : Trees → Type 0
  HaveBlocks none = Unit {0}
  HaveBlocks (snoc ts t) = HaveBlocks ts × HasBlocks t

  pub CasesHaveBlocks : Cases → Type 0
  CasesHaveBlocks no_case = Unit {0}
  CasesHaveBlocks (case cs test block) = CasesHaveBlocks cs × HasBlocks test × HasBlocks block

  pub MaybeHasBlocks : Maybe → Type 0
  MaybeHasBlocks absent = Unit {0}
  MaybeHasBlocks (present t) = HasBlocks t

  pub FieldsHaveBlocks : Fields → Type 0
  FieldsHaveBlocks no_field = Unit {0}
  FieldsHaveBlocks (item fs value) = FieldsHaveBlocks fs × HasBlocks value
  FieldsHaveBlocks (named fs _ value) = FieldsHaveBlocks fs × HasBlocks value
  FieldsHaveBlocks (keyed fs key value) = FieldsHaveBlocks fs × HasBlocks key × HasBlocks value
