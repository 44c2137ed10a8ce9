-- The tree with its nodes numbered in the order in which a reader from left to right is done with them: a node after all its
-- parts, and the parts in the order of the text. So the root has the last number.
use Rattle.std.specs.Prelude.{◌≡◌, ℕ, ◌+◌, length}
use Rattle.lua_ast.specs.Tree.{Tree, Block, Local, Assign, CallStat, Do, While, Repeat, If, NumFor, GenFor, LocalFunction, Return, Break, Goto, Label, Const, Vararg, Function, Name, Index, Call, Method, Binary, Logic, Unary, Paren, Table, Missing, Trees, none, snoc, Cases, no_case, case, Maybe, absent, present, Fields, no_field, item, named, keyed}
use Rattle.lua_ast.specs.Decode.{ChunkNodes, tree, own_number, no_number}

-- how many nodes a tree has
abbrev mutual
  pub nodes_in : Tree → ℕ
  nodes_in (Block _ _ stats) = list_nodes stats + 1
  nodes_in (Local _ _ _ exps) = list_nodes exps + 1
  nodes_in (Assign _ _ targets exps) = list_nodes targets + list_nodes exps + 1
  nodes_in (CallStat _ _ call) = nodes_in call + 1
  nodes_in (Do _ _ block) = nodes_in block + 1
  nodes_in (While _ _ test block) = nodes_in test + nodes_in block + 1
  nodes_in (Repeat _ _ block test) = nodes_in block + nodes_in test + 1
  nodes_in (If _ _ cases otherwise) = cases_nodes cases + maybe_nodes otherwise + 1
  nodes_in (NumFor _ _ _ first limit step block) = nodes_in first + nodes_in limit + maybe_nodes step + nodes_in block + 1
  nodes_in (GenFor _ _ _ exps block) = list_nodes exps + nodes_in block + 1
  nodes_in (LocalFunction _ _ _ function) = nodes_in function + 1
  nodes_in (Return _ _ exps) = list_nodes exps + 1
  nodes_in (Break _ _) = 1
  nodes_in (Goto _ _ _) = 1
  nodes_in (Label _ _ _) = 1
  nodes_in (Const _ _ _) = 1
  nodes_in (Vararg _ _) = 1
  nodes_in (Function _ _ _ _ block) = nodes_in block + 1
  nodes_in (Name _ _ _) = 1
  nodes_in (Index _ _ object key) = nodes_in object + nodes_in key + 1
  nodes_in (Call _ _ function args) = nodes_in function + list_nodes args + 1
  nodes_in (Method _ _ object _ args) = nodes_in object + list_nodes args + 1
  nodes_in (Binary _ _ _ left right) = nodes_in left + nodes_in right + 1
  nodes_in (Logic _ _ _ left right) = nodes_in left + nodes_in right + 1
  nodes_in (Unary _ _ _ operand) = nodes_in operand + 1
  nodes_in (Paren _ _ inner) = nodes_in inner + 1
  nodes_in (Table _ _ fields) = fields_nodes fields + 1
  nodes_in Missing = 0

  pub list_nodes : Trees → ℕ
  list_nodes none = 0
  list_nodes (snoc ts t) = list_nodes ts + nodes_in t

  pub cases_nodes : Cases → ℕ
  cases_nodes no_case = 0
  cases_nodes (case cs test block) = cases_nodes cs + nodes_in test + nodes_in block

  pub maybe_nodes : Maybe → ℕ
  maybe_nodes absent = 0
  maybe_nodes (present t) = nodes_in t

  pub fields_nodes : Fields → ℕ
  fields_nodes no_field = 0
  fields_nodes (item fs value) = fields_nodes fs + nodes_in value
  fields_nodes (named fs _ value) = fields_nodes fs + nodes_in value
  fields_nodes (keyed fs key value) = fields_nodes fs + nodes_in key + nodes_in value

-- the tree with its numbers, of which n is the least
abbrev mutual
  pub numbered : (n : ℕ) → Tree → Tree
  numbered n (Block _ l stats) = Block (n + list_nodes stats) l (list_numbered n stats)
  numbered n (Local _ l names exps) = Local (n + list_nodes exps) l names (list_numbered n exps)
  numbered n (Assign _ l targets exps) = Assign (n + list_nodes targets + list_nodes exps) l (list_numbered n targets) (list_numbered (n + list_nodes targets) exps)
  numbered n (CallStat _ l call) = CallStat (n + nodes_in call) l (numbered n call)
  numbered n (Do _ l block) = Do (n + nodes_in block) l (numbered n block)
  numbered n (While _ l test block) = While (n + nodes_in test + nodes_in block) l (numbered n test) (numbered (n + nodes_in test) block)
  numbered n (Repeat _ l block test) = Repeat (n + nodes_in block + nodes_in test) l (numbered n block) (numbered (n + nodes_in block) test)
  numbered n (If _ l cases otherwise) = If (n + cases_nodes cases + maybe_nodes otherwise) l (cases_numbered n cases) (maybe_numbered (n + cases_nodes cases) otherwise)
  numbered n (NumFor _ l name first limit step block) = NumFor (n + nodes_in first + nodes_in limit + maybe_nodes step + nodes_in block) l name (numbered n first) (numbered (n + nodes_in first) limit) (maybe_numbered (n + nodes_in first + nodes_in limit) step) (numbered (n + nodes_in first + nodes_in limit + maybe_nodes step) block)
  numbered n (GenFor _ l names exps block) = GenFor (n + list_nodes exps + nodes_in block) l names (list_numbered n exps) (numbered (n + list_nodes exps) block)
  numbered n (LocalFunction _ l name function) = LocalFunction (n + nodes_in function) l name (numbered n function)
  numbered n (Return _ l exps) = Return (n + list_nodes exps) l (list_numbered n exps)
  numbered n (Break _ l) = Break n l
  numbered n (Goto _ l label) = Goto n l label
  numbered n (Label _ l label) = Label n l label
  numbered n (Const _ l value) = Const n l value
  numbered n (Vararg _ l) = Vararg n l
  numbered n (Function _ l params vararg block) = Function (n + nodes_in block) l params vararg (numbered n block)
  numbered n (Name _ l text) = Name n l text
  numbered n (Index _ l object key) = Index (n + nodes_in object + nodes_in key) l (numbered n object) (numbered (n + nodes_in object) key)
  numbered n (Call _ l function args) = Call (n + nodes_in function + list_nodes args) l (numbered n function) (list_numbered (n + nodes_in function) args)
  numbered n (Method _ l object name args) = Method (n + nodes_in object + list_nodes args) l (numbered n object) name (list_numbered (n + nodes_in object) args)
  numbered n (Binary _ l op left right) = Binary (n + nodes_in left + nodes_in right) l op (numbered n left) (numbered (n + nodes_in left) right)
  numbered n (Logic _ l op left right) = Logic (n + nodes_in left + nodes_in right) l op (numbered n left) (numbered (n + nodes_in left) right)
  numbered n (Unary _ l op operand) = Unary (n + nodes_in operand) l op (numbered n operand)
  numbered n (Paren _ l inner) = Paren (n + nodes_in inner) l (numbered n inner)
  numbered n (Table _ l fields) = Table (n + fields_nodes fields) l (fields_numbered n fields)
  numbered n Missing = Missing

  pub list_numbered : (n : ℕ) → Trees → Trees
  list_numbered n none = none
  list_numbered n (snoc ts t) = snoc (list_numbered n ts) (numbered (n + list_nodes ts) t)

  pub cases_numbered : (n : ℕ) → Cases → Cases
  cases_numbered n no_case = no_case
  cases_numbered n (case cs test block) = case (cases_numbered n cs) (numbered (n + cases_nodes cs) test) (numbered (n + cases_nodes cs + nodes_in test) block)

  pub maybe_numbered : (n : ℕ) → Maybe → Maybe
  maybe_numbered n absent = absent
  maybe_numbered n (present t) = present (numbered n t)

  pub fields_numbered : (n : ℕ) → Fields → Fields
  fields_numbered n no_field = no_field
  fields_numbered n (item fs value) = item (fields_numbered n fs) (numbered (n + fields_nodes fs) value)
  fields_numbered n (named fs name value) = named (fields_numbered n fs) name (numbered (n + fields_nodes fs) value)
  fields_numbered n (keyed fs key value) = keyed (fields_numbered n fs) (numbered (n + fields_nodes fs) key) (numbered (n + fields_nodes fs + nodes_in key) value)

-- The chunk's tree has the numbers from 0 on in the order of the text, and its root is the last node.
abbrev pub IsNumbered : ChunkNodes → Type 0
IsNumbered c = (tree own_number c.nodes c.root ≡ numbered 0 (tree no_number c.nodes c.root)) × (length c.nodes ≡ c.root + 1)
