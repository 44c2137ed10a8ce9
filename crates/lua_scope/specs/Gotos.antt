-- The gotos of a text, each with the blocks of its function that stand around it (Lua 5.2 manual, 3.3.4).
use Rattle.std.specs.Prelude.{ℕ, Bool, true, false, List, [], ◌∷◌}
use Rattle.lua_ast.specs.Tree.{Tree, Block, Local, Assign, CallStat, Do, While, Repeat, If, NumFor, GenFor, LocalFunction, Return, Break, Goto, Label, Const, Vararg, Function, Name, Index, Call, Method, Binary, Logic, Unary, Paren, Table, Missing, Trees, none, snoc, Cases, no_case, case, Maybe, absent, present, Fields, no_field, item, named, keyed}

-- A block around a place: the statements in front of the one that has the place, that one and those behind it, and whether the block is the body of a repeat.
pub record Enclosing : Type 0 where
  pub repeats : Bool
  pub before : Trees
  pub after : List Tree

abbrev pub followed_by : Trees → List Tree → Trees
followed_by before [] = before
followed_by before (t ∷ ts) = followed_by (snoc before t) ts

-- all statements of the block
abbrev pub stats_of : Enclosing → Trees
stats_of e = followed_by e.before e.after

pub record GotoThere : Type 0 where
  pub line : ℕ
  pub label : List ℕ
  -- the innermost first
  pub around : List Enclosing

unfoldable mutual
  -- the gotos that were found, the last one first, with those of a further tree
  pub gotos : List Enclosing → List GotoThere → Tree → List GotoThere
  gotos around found (Block _ _ stats) = stats_gotos false [] around found stats
  gotos around found (Local _ _ _ exps) = list_gotos around found exps
  gotos around found (Assign _ _ targets exps) = list_gotos around (list_gotos around found targets) exps
  gotos around found (CallStat _ _ call) = gotos around found call
  gotos around found (Do _ _ block) = gotos around found block
  gotos around found (While _ _ test block) = gotos around (gotos around found test) block
  gotos around found (Repeat _ _ block test) = gotos around (body_gotos around found block) test
  gotos around found (If _ _ cases otherwise) = maybe_gotos around (cases_gotos around found cases) otherwise
  gotos around found (NumFor _ _ _ first limit step block) = gotos around (maybe_gotos around (gotos around (gotos around found first) limit) step) block
  gotos around found (GenFor _ _ _ exps block) = gotos around (list_gotos around found exps) block
  gotos around found (LocalFunction _ _ _ function) = gotos around found function
  gotos around found (Return _ _ exps) = list_gotos around found exps
  gotos around found (Break _ _) = found
  gotos around found (Goto _ l x) = record { line = l; label = x; around = around } ∷ found
  gotos around found (Label _ _ _) = found
  gotos around found (Const _ _ _) = found
  gotos around found (Vararg _ _) = found
  gotos around found (Function _ _ _ _ block) = gotos [] found block
  gotos around found (Name _ _ _) = found
  gotos around found (Index _ _ object key) = gotos around (gotos around found object) key
  gotos around found (Call _ _ function args) = list_gotos around (gotos around found function) args
  gotos around found (Method _ _ object _ args) = list_gotos around (gotos around found object) args
  gotos around found (Binary _ _ _ left right) = gotos around (gotos around found left) right
  gotos around found (Logic _ _ _ left right) = gotos around (gotos around found left) right
  gotos around found (Unary _ _ _ operand) = gotos around found operand
  gotos around found (Paren _ _ inner) = gotos around found inner
  gotos around found (Table _ _ fields) = fields_gotos around found fields
  gotos around found Missing = found

  pub list_gotos : List Enclosing → List GotoThere → Trees → List GotoThere
  list_gotos around found none = found
  list_gotos around found (snoc ts t) = gotos around (list_gotos around found ts) t

  -- statements of a block, which has `after` behind them
  pub stats_gotos : (repeats : Bool) → (after : List Tree) → List Enclosing → List GotoThere → Trees → List GotoThere
  stats_gotos repeats after around found none = found
  stats_gotos repeats after around found (snoc ts t) =
      gotos (record { repeats = repeats; before = ts; after = t ∷ after } ∷ around) (stats_gotos repeats (t ∷ after) around found ts) t

  -- the body of a repeat
  pub body_gotos : List Enclosing → List GotoThere → Tree → List GotoThere
  body_gotos around found (Block _ _ stats) = stats_gotos true [] around found stats
  body_gotos around found _ = found

  pub cases_gotos : List Enclosing → List GotoThere → Cases → List GotoThere
  cases_gotos around found no_case = found
  cases_gotos around found (case cs test block) = gotos around (gotos around (cases_gotos around found cs) test) block

  pub maybe_gotos : List Enclosing → List GotoThere → Maybe → List GotoThere
  maybe_gotos around found absent = found
  maybe_gotos around found (present t) = gotos around found t

  pub fields_gotos : List Enclosing → List GotoThere → Fields → List GotoThere
  fields_gotos around found no_field = found
  fields_gotos around found (item fs value) = gotos around (fields_gotos around found fs) value
  fields_gotos around found (named fs _ value) = gotos around (fields_gotos around found fs) value
  fields_gotos around found (keyed fs key value) = gotos around (gotos around (fields_gotos around found fs) key) value

-- the gotos of a whole text, the last one first
abbrev pub gotos_of : Tree → List GotoThere
gotos_of t = gotos [] [] t
