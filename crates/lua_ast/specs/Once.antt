-- Chunks in whose tree each node stands once.
use Rattle.std.specs.Prelude.{◌≡◌, ℕ, ◌==◌, nat_lt, cond, List, [], ◌∷◌, ◌++◌, length}
use Rattle.std.specs.List.{count_by}
use Rattle.lua_ast.specs.Tree.{Tree, Block, Local, Assign, CallStat, Do, While, Repeat, If, NumFor, GenFor, LocalFunction, Return, Break, Goto, Label, Const, Vararg, Function, Name, Index, Call, Method, Binary, Logic, Unary, Paren, Table, Missing, Trees, none, snoc, Cases, no_case, case, Maybe, absent, present, Fields, no_field, item, named, keyed}
use Rattle.lua_ast.specs.Decode.{ChunkNodes, tree, own_number}

-- the numbers of a tree's nodes, a node before its parts
abbrev mutual
  pub numbers_in : Tree → List ℕ
  numbers_in (Block n _ stats) = n ∷ list_numbers stats
  numbers_in (Local n _ _ exps) = n ∷ list_numbers exps
  numbers_in (Assign n _ targets exps) = n ∷ (list_numbers targets ++ list_numbers exps)
  numbers_in (CallStat n _ call) = n ∷ numbers_in call
  numbers_in (Do n _ block) = n ∷ numbers_in block
  numbers_in (While n _ test block) = n ∷ (numbers_in test ++ numbers_in block)
  numbers_in (Repeat n _ block test) = n ∷ (numbers_in block ++ numbers_in test)
  numbers_in (If n _ cases otherwise) = n ∷ (cases_numbers cases ++ maybe_numbers otherwise)
  numbers_in (NumFor n _ _ first limit step block) = n ∷ (numbers_in first ++ numbers_in limit ++ maybe_numbers step ++ numbers_in block)
  numbers_in (GenFor n _ _ exps block) = n ∷ (list_numbers exps ++ numbers_in block)
  numbers_in (LocalFunction n _ _ function) = n ∷ numbers_in function
  numbers_in (Return n _ exps) = n ∷ list_numbers exps
  numbers_in (Break n _) = n ∷ []
  numbers_in (Goto n _ _) = n ∷ []
  numbers_in (Label n _ _) = n ∷ []
  numbers_in (Const n _ _) = n ∷ []
  numbers_in (Vararg n _) = n ∷ []
  numbers_in (Function n _ _ _ block) = n ∷ numbers_in block
  numbers_in (Name n _ _) = n ∷ []
  numbers_in (Index n _ object key) = n ∷ (numbers_in object ++ numbers_in key)
  numbers_in (Call n _ function args) = n ∷ (numbers_in function ++ list_numbers args)
  numbers_in (Method n _ object _ args) = n ∷ (numbers_in object ++ list_numbers args)
  numbers_in (Binary n _ _ left right) = n ∷ (numbers_in left ++ numbers_in right)
  numbers_in (Logic n _ _ left right) = n ∷ (numbers_in left ++ numbers_in right)
  numbers_in (Unary n _ _ operand) = n ∷ numbers_in operand
  numbers_in (Paren n _ inner) = n ∷ numbers_in inner
  numbers_in (Table n _ fields) = n ∷ fields_numbers fields
  numbers_in Missing = []

  pub list_numbers : Trees → List ℕ
  list_numbers none = []
  list_numbers (snoc ts t) = list_numbers ts ++ numbers_in t

  pub cases_numbers : Cases → List ℕ
  cases_numbers no_case = []
  cases_numbers (case cs test block) = cases_numbers cs ++ numbers_in test ++ numbers_in block

  pub maybe_numbers : Maybe → List ℕ
  maybe_numbers absent = []
  maybe_numbers (present t) = numbers_in t

  pub fields_numbers : Fields → List ℕ
  fields_numbers no_field = []
  fields_numbers (item fs value) = fields_numbers fs ++ numbers_in value
  fields_numbers (named fs _ value) = fields_numbers fs ++ numbers_in value
  fields_numbers (keyed fs key value) = fields_numbers fs ++ numbers_in key ++ numbers_in value

-- each node stands in the tree once, and there is no other number in it
abbrev pub IsEachOnce : ChunkNodes → Type 0
IsEachOnce c = (i : ℕ) → count_by (λ j. j == i) (numbers_in (tree own_number c.nodes c.root)) ≡ cond (nat_lt i (length c.nodes)) 1 0
