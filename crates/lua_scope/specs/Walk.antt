-- A text as the scope rules see it: what a walk from left to right through its tree meets. What a walk
-- has seen is a list with its last occurrence first.
use Rattle.std.specs.Prelude.{ℕ, Bool, true, false, if◌then◌else◌, List, [], ◌∷◌, length}
use Rattle.lua_ast.specs.Tree.{Tree, Block, Local, Assign, CallStat, Do, While, Repeat, If, NumFor, GenFor, LocalFunction, Return, Break, Goto, Label, Const, Vararg, Function, Name, Index, Call, Method, Binary, Logic, Unary, Paren, Table, Missing, Trees, none, snoc, Cases, no_case, case, Maybe, absent, present, Fields, no_field, item, named, keyed}
use Rattle.lua_scope.specs.declared.occurrence.Occurrence.{Occurrence}
use Rattle.lua_scope.specs.declared.occurrence.Occurrence.TheVariants as occurrence
use Rattle.lua_scope.specs.declared.occurrence.ScopeKind.TheVariants as kind
use Rattle.lua_scope.specs.Labels.{labels_of, inside_of, has_label}

-- A block opens with its labels. In the body of a repeat, whose locals its condition sees, no label lies outside the locals.
abbrev pub opens : (repeats : Bool) → Trees → Occurrence
opens repeats stats = occurrence.Open (kind.Block (labels_of stats) (if repeats then length (labels_of stats) else inside_of stats))

abbrev pub label_in : ℕ → List ℕ → Trees → List Occurrence → List Occurrence
label_in l x before seen = if has_label x before then occurrence.SecondLabel l ∷ seen else seen

unfoldable mutual
  -- what a walk has seen, with a further tree walked through
  pub walked : List Occurrence → Tree → List Occurrence
  walked seen (Block _ _ stats) = occurrence.Close ∷ stats_walked (opens false stats ∷ seen) stats
  -- the names of a local come into scope behind its expressions
  walked seen (Local i _ names exps) = occurrence.Enter i names ∷ list_walked (occurrence.Declare i (length names) ∷ seen) exps
  walked seen (Assign _ _ targets exps) = list_walked (list_walked seen targets) exps
  walked seen (CallStat _ _ call) = walked seen call
  walked seen (Do _ _ block) = walked seen block
  walked seen (While _ _ test block) = occurrence.Close ∷ walked (occurrence.Open kind.Loop ∷ walked seen test) block
  -- the condition stands in the scope of the body
  walked seen (Repeat _ _ block test) = occurrence.Close ∷ occurrence.Close ∷ walked (body_walked true (occurrence.Open kind.Loop ∷ seen) block) test
  walked seen (If _ _ cases otherwise) = maybe_walked (cases_walked seen cases) otherwise
  walked seen (NumFor i _ name first limit step block) =
      occurrence.Close ∷ walked (occurrence.Enter i (name ∷ []) ∷ occurrence.Open kind.Loop ∷ maybe_walked (walked (walked (occurrence.Declare i 1 ∷ seen) first) limit) step) block
  walked seen (GenFor i _ names exps block) =
      occurrence.Close ∷ walked (occurrence.Enter i names ∷ occurrence.Open kind.Loop ∷ list_walked (occurrence.Declare i (length names) ∷ seen) exps) block
  -- a local function is in scope in its own body
  walked seen (LocalFunction i _ name function) = walked (occurrence.Enter i (name ∷ []) ∷ occurrence.Declare i 1 ∷ seen) function
  walked seen (Return _ _ exps) = list_walked seen exps
  walked seen (Break _ l) = occurrence.Break l ∷ seen
  walked seen (Goto _ l label) = occurrence.Goto l label ∷ seen
  walked seen (Label _ _ _) = seen
  walked seen (Const _ _ _) = seen
  walked seen (Vararg _ l) = occurrence.Vararg l ∷ seen
  walked seen (Function i _ params vararg block) =
      occurrence.Close ∷ walked (occurrence.Enter i params ∷ occurrence.Declare i (length params) ∷ occurrence.Open (kind.Function i vararg) ∷ seen) block
  walked seen (Name i _ text) = occurrence.Use i text ∷ seen
  walked seen (Index _ _ object key) = walked (walked seen object) key
  walked seen (Call _ _ function args) = list_walked (walked seen function) args
  walked seen (Method _ _ object _ args) = list_walked (walked seen object) args
  walked seen (Binary _ _ _ left right) = walked (walked seen left) right
  walked seen (Logic _ _ _ left right) = walked (walked seen left) right
  walked seen (Unary _ _ _ operand) = walked seen operand
  walked seen (Paren _ _ inner) = walked seen inner
  walked seen (Table _ _ fields) = fields_walked seen fields
  walked seen Missing = seen

  pub list_walked : List Occurrence → Trees → List Occurrence
  list_walked seen none = seen
  list_walked seen (snoc ts t) = walked (list_walked seen ts) t

  -- the statements of a block
  pub stats_walked : List Occurrence → Trees → List Occurrence
  stats_walked seen none = seen
  stats_walked seen (snoc ts (Label _ l x)) = label_in l x ts (stats_walked seen ts)
  stats_walked seen (snoc ts t) = walked (stats_walked seen ts) t

  -- a block that is still open, as the body of a repeat is in its condition
  pub body_walked : (repeats : Bool) → List Occurrence → Tree → List Occurrence
  body_walked repeats seen (Block _ _ stats) = stats_walked (opens repeats stats ∷ seen) stats
  body_walked repeats seen _ = opens repeats none ∷ seen

  pub cases_walked : List Occurrence → Cases → List Occurrence
  cases_walked seen no_case = seen
  cases_walked seen (case cs test block) = walked (walked (cases_walked seen cs) test) block

  pub maybe_walked : List Occurrence → Maybe → List Occurrence
  maybe_walked seen absent = seen
  maybe_walked seen (present t) = walked seen t

  pub fields_walked : List Occurrence → Fields → List Occurrence
  fields_walked seen no_field = seen
  fields_walked seen (item fs value) = walked (fields_walked seen fs) value
  fields_walked seen (named fs _ value) = walked (fields_walked seen fs) value
  fields_walked seen (keyed fs key value) = walked (walked (fields_walked seen fs) key) value
