-- How much of a walk is still to be done.
use Rattle.std.specs.Prelude.{ℕ, ◌+◌, ◌<◌, List, [], ◌∷◌}
use Rattle.lua_ast.specs.Tree.{Tree, Block, Local, Assign, CallStat, Do, While, Repeat, If, NumFor, GenFor, LocalFunction, Return, Break, Goto, Label, Const, Vararg, Function, Name, Index, Call, Method, Binary, Logic, Unary, Paren, Table, Missing, Trees, none, snoc, Cases, no_case, case, Maybe, absent, present, Fields, no_field, item, named, keyed}
use Rattle.lua_scope.specs.declared.occurrence.Occurrence.{Occurrence}
use Rattle.lua_scope.specs.declared.occurrence.Occurrence.TheVariants as occurrence
use Rattle.lua_scope.specs.declared.occurrence.ScopeKind.{ScopeKind}
use Rattle.lua_scope.specs.declared.occurrence.ScopeKind.TheVariants as kind
use Rattle.lua_scope.specs.declared.task.Task.{Task}
use Rattle.lua_scope.specs.declared.task.Task.TheVariants.{Visit, Body, Emit}

unfoldable mutual
  -- more than the tasks of a tree
  pub size : Tree → ℕ
  size (Block _ _ stats) = 4 + list_size stats
  size (Local _ _ _ exps) = 4 + list_size exps
  size (Assign _ _ targets exps) = 1 + list_size targets + list_size exps
  size (CallStat _ _ call) = 1 + size call
  size (Do _ _ block) = 1 + size block
  size (While _ _ test block) = 4 + size test + size block
  size (Repeat _ _ block test) = 5 + body_size block + size test
  size (If _ _ cases otherwise) = 1 + cases_size cases + maybe_size otherwise
  size (NumFor _ _ _ first limit step block) = 6 + size first + size limit + maybe_size step + size block
  size (GenFor _ _ _ exps block) = 6 + list_size exps + size block
  size (LocalFunction _ _ _ function) = 4 + size function
  size (Return _ _ exps) = 1 + list_size exps
  size (Break _ _) = 2
  size (Goto _ _ _) = 2
  size (Label _ _ _) = 2
  size (Const _ _ _) = 2
  size (Vararg _ _) = 2
  size (Function _ _ _ _ block) = 6 + size block
  size (Name _ _ _) = 2
  size (Index _ _ object key) = 1 + size object + size key
  size (Call _ _ function args) = 1 + size function + list_size args
  size (Method _ _ object _ args) = 1 + size object + list_size args
  size (Binary _ _ _ left right) = 1 + size left + size right
  size (Logic _ _ _ left right) = 1 + size left + size right
  size (Unary _ _ _ operand) = 1 + size operand
  size (Paren _ _ inner) = 1 + size inner
  size (Table _ _ fields) = 1 + fields_size fields
  size Missing = 1

  pub list_size : Trees → ℕ
  list_size none = 0
  list_size (snoc ts t) = list_size ts + size t

  pub body_size : Tree → ℕ
  body_size (Block _ _ stats) = 2 + list_size stats
  body_size _ = 2

  pub cases_size : Cases → ℕ
  cases_size no_case = 0
  cases_size (case cs test block) = cases_size cs + size test + size block

  pub maybe_size : Maybe → ℕ
  maybe_size absent = 0
  maybe_size (present t) = size t

  pub fields_size : Fields → ℕ
  fields_size no_field = 0
  fields_size (item fs value) = fields_size fs + size value
  fields_size (named fs _ value) = fields_size fs + size value
  fields_size (keyed fs key value) = fields_size fs + size key + size value

abbrev pub weight : (ℕ → Tree) → Task → ℕ
weight part (Visit i) = size (part i)
weight part (Body i _) = body_size (part i)
weight part (Emit _) = 1

abbrev pub weights : (ℕ → Tree) → List Task → ℕ
weights part [] = 0
weights part (t ∷ ts) = weight part t + weights part ts

-- the nodes of these occurrences and tasks stand below n
abbrev pub KindBelow : ℕ → ScopeKind → Type 0
KindBelow n (kind.Block _ _) = Unit {0}
KindBelow n kind.Loop = Unit {0}
KindBelow n (kind.Function i _) = i < n

abbrev pub OccurrenceBelow : ℕ → Occurrence → Type 0
OccurrenceBelow n (occurrence.Open o) = KindBelow n o
OccurrenceBelow n occurrence.Close = Unit {0}
OccurrenceBelow n (occurrence.Declare i _) = i < n
OccurrenceBelow n (occurrence.Enter i _) = i < n
OccurrenceBelow n (occurrence.Use i _) = i < n
OccurrenceBelow n (occurrence.Goto _ _) = Unit {0}
OccurrenceBelow n (occurrence.SecondLabel _) = Unit {0}
OccurrenceBelow n (occurrence.Break _) = Unit {0}
OccurrenceBelow n (occurrence.Vararg _) = Unit {0}

abbrev pub TaskBelow : ℕ → Task → Type 0
TaskBelow n (Visit i) = i < n
TaskBelow n (Body i _) = i < n
TaskBelow n (Emit e) = OccurrenceBelow n e

abbrev pub TasksBelow : ℕ → List Task → Type 0
TasksBelow n [] = Unit {0}
TasksBelow n (t ∷ ts) = TaskBelow n t × TasksBelow n ts
