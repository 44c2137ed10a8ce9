-- The same tree with the number 0 at each node, as a grammar writes it.
use Rattle.lua_ast.specs.Tree.{Tree, Block, Local, Assign, CallStat, Do, While, Repeat, If, NumFor, GenFor, LocalFunction, Return, Break, Goto, Label, Const, Vararg, Function, Name, Index, Call, Method, Binary, Logic, Unary, Paren, Table, Missing, Trees, none, snoc, Cases, no_case, case, Maybe, absent, present, Fields, no_field, item, named, keyed}

abbrev mutual
  pub without_numbers : Tree → Tree
  without_numbers (Block _ l stats) = Block 0 l (list_without stats)
  without_numbers (Local _ l names exps) = Local 0 l names (list_without exps)
  without_numbers (Assign _ l targets exps) = Assign 0 l (list_without targets) (list_without exps)
  without_numbers (CallStat _ l call) = CallStat 0 l (without_numbers call)
  without_numbers (Do _ l block) = Do 0 l (without_numbers block)
  without_numbers (While _ l test block) = While 0 l (without_numbers test) (without_numbers block)
  without_numbers (Repeat _ l block test) = Repeat 0 l (without_numbers block) (without_numbers test)
  without_numbers (If _ l cases otherwise) = If 0 l (cases_without cases) (maybe_without otherwise)
  without_numbers (NumFor _ l name first limit step block) = NumFor 0 l name (without_numbers first) (without_numbers limit) (maybe_without step) (without_numbers block)
  without_numbers (GenFor _ l names exps block) = GenFor 0 l names (list_without exps) (without_numbers block)
  without_numbers (LocalFunction _ l name function) = LocalFunction 0 l name (without_numbers function)
  without_numbers (Return _ l exps) = Return 0 l (list_without exps)
  without_numbers (Break _ l) = Break 0 l
  without_numbers (Goto _ l label) = Goto 0 l label
  without_numbers (Label _ l label) = Label 0 l label
  without_numbers (Const _ l value) = Const 0 l value
  without_numbers (Vararg _ l) = Vararg 0 l
  without_numbers (Function _ l params vararg block) = Function 0 l params vararg (without_numbers block)
  without_numbers (Name _ l text) = Name 0 l text
  without_numbers (Index _ l object key) = Index 0 l (without_numbers object) (without_numbers key)
  without_numbers (Call _ l function args) = Call 0 l (without_numbers function) (list_without args)
  without_numbers (Method _ l object name args) = Method 0 l (without_numbers object) name (list_without args)
  without_numbers (Binary _ l op left right) = Binary 0 l op (without_numbers left) (without_numbers right)
  without_numbers (Logic _ l op left right) = Logic 0 l op (without_numbers left) (without_numbers right)
  without_numbers (Unary _ l op operand) = Unary 0 l op (without_numbers operand)
  without_numbers (Paren _ l inner) = Paren 0 l (without_numbers inner)
  without_numbers (Table _ l fields) = Table 0 l (fields_without fields)
  without_numbers Missing = Missing

  pub list_without : Trees → Trees
  list_without none = none
  list_without (snoc ts t) = snoc (list_without ts) (without_numbers t)

  pub cases_without : Cases → Cases
  cases_without no_case = no_case
  cases_without (case cs test block) = case (cases_without cs) (without_numbers test) (without_numbers block)

  pub maybe_without : Maybe → Maybe
  maybe_without absent = absent
  maybe_without (present t) = present (without_numbers t)

  pub fields_without : Fields → Fields
  fields_without no_field = no_field
  fields_without (item fs value) = item (fields_without fs) (without_numbers value)
  fields_without (named fs name value) = named (fields_without fs) name (without_numbers value)
  fields_without (keyed fs key value) = keyed (fields_without fs) (without_numbers key) (without_numbers value)
