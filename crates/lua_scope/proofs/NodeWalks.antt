-- A node's tasks are the walk through its tree.
use Rattle.std.specs.Prelude.{◌≡◌, ℕ, ◌+◌, false, List, [], ◌∷◌, ◌++◌, Option, Some, None, length, refl}
use Rattle.std.proofs.Common.{ap, ◌∙◌, sym, arith, append-nil}
use Rattle.lua_ast.specs.declared.node.Node.{Node}
use Rattle.lua_ast.specs.declared.node.Node.TheVariants as node
use Rattle.lua_ast.specs.declared.node.Field.{Field}
use Rattle.lua_ast.specs.declared.node.Field.TheVariants as field
use Rattle.lua_ast.specs.Tree.{Tree, Trees, none, snoc, Cases, no_case, case, Fields, no_field}
use Rattle.lua_ast.specs.Decode.{node_tree, list_after, list_of, cases_after, cases_of, with_field, fields_after, fields_of, maybe_of}
use Rattle.lua_scope.specs.declared.occurrence.Occurrence.{Occurrence}
use Rattle.lua_scope.specs.declared.occurrence.Occurrence.TheVariants as occurrence
use Rattle.lua_scope.specs.declared.occurrence.ScopeKind.TheVariants as kind
use Rattle.lua_scope.specs.declared.task.Task.{Task}
use Rattle.lua_scope.specs.declared.task.Task.TheVariants.{Visit, Emit}
use Rattle.lua_scope.specs.Walk.{walked, list_walked, body_walked, cases_walked, maybe_walked, fields_walked}
use Rattle.lua_scope.specs.Tasks.{walk, walks, visits, maybe_task, case_tasks, field_tasks, tasks_of}
use Rattle.lua_scope.specs.Walking.{weight, weights, TasksBelow}

pub below_append : (n : ℕ) (ts us : List Task) → TasksBelow n ts → TasksBelow n us → TasksBelow n (ts ++ us)
below_append n [] us a b = b
below_append n (t ∷ ts) us a b = (a.0, below_append n ts us a.1 b)

module _ (part : ℕ → Tree) where
  pub walks_append : (h : List Occurrence) (ts us : List Task) → walks part h (ts ++ us) ≡ walks part (walks part h ts) us
  walks_append h [] us = refl
  walks_append h (t ∷ ts) us = walks_append (walk part h t) ts us

  pub weights_append : (ts us : List Task) → weights part (ts ++ us) ≡ weights part ts + weights part us
  weights_append [] us = omega arith
  weights_append (t ∷ ts) us = ap (λ n. weight part t + n) (weights_append ts us) ∙ omega arith

  list_walk : (h : List Occurrence) (before : Trees) (is : List ℕ) (rest : List Task)
      → walks part (list_walked h before) (visits is ++ rest) ≡ walks part (list_walked h (list_after part before is)) rest
  unfolding walked
  list_walk h before [] rest = refl
  list_walk h before (i ∷ is) rest = list_walk h (snoc before (part i)) is rest

  pub walks_list : (h : List Occurrence) (is : List ℕ) (rest : List Task) → walks part h (visits is ++ rest) ≡ walks part (list_walked h (list_of part is)) rest
  unfolding walked list_of
  walks_list h is rest = list_walk h none is rest

  pub walks_only : (h : List Occurrence) (is : List ℕ) → walks part h (visits is) ≡ list_walked h (list_of part is)
  walks_only h is = ap (walks part h) (sym (append-nil (visits is))) ∙ walks_list h is []

  cases_walk : (h : List Occurrence) (before : Cases) (ts bs : List ℕ) (rest : List Task)
      → walks part (cases_walked h before) (case_tasks ts bs ++ rest) ≡ walks part (cases_walked h (cases_after part before ts bs)) rest
  unfolding walked
  cases_walk h before [] bs rest = refl
  cases_walk h before (t ∷ ts) [] rest = refl
  cases_walk h before (t ∷ ts) (b ∷ bs) rest = cases_walk h (case before (part t) (part b)) ts bs rest

  walks_cases : (h : List Occurrence) (ts bs : List ℕ) (rest : List Task) → walks part h (case_tasks ts bs ++ rest) ≡ walks part (cases_walked h (cases_of part ts bs)) rest
  unfolding walked cases_of
  walks_cases h ts bs rest = cases_walk h no_case ts bs rest

  fields_walk : (h : List Occurrence) (before : Fields) (fs : List Field)
      → walks part (fields_walked h before) (field_tasks fs) ≡ fields_walked h (fields_after part before fs)
  unfolding walked
  fields_walk h before [] = refl
  fields_walk h before (field.Item v ∷ fs) = fields_walk h (with_field part before (field.Item v)) fs
  fields_walk h before (field.Named x v ∷ fs) = fields_walk h (with_field part before (field.Named x v)) fs
  fields_walk h before (field.Keyed k v ∷ fs) = fields_walk h (with_field part before (field.Keyed k v)) fs

  walks_fields : (h : List Occurrence) (fs : List Field) → walks part h (field_tasks fs) ≡ fields_walked h (fields_of part fs)
  unfolding walked fields_of
  walks_fields h fs = fields_walk h no_field fs

  walks_maybe : (h : List Occurrence) (o : Option ℕ) (rest : List Task) → walks part h (maybe_task o ++ rest) ≡ walks part (maybe_walked h (maybe_of part o)) rest
  unfolding walked
  walks_maybe h None rest = refl
  walks_maybe h (Some i) rest = refl

  pub walks_node : (h : List Occurrence) (i l : ℕ) (x : Node) → part i ≡ node_tree part i l x → walks part h (tasks_of i l x) ≡ walked h (node_tree part i l x)
  unfolding walked
  walks_node h i l (node.Block stats) e = ap (λ t. occurrence.Close ∷ body_walked false h t) e
  walks_node h i l (node.Local names exps) e = walks_list (occurrence.Declare i (length names) ∷ h) exps (Emit (occurrence.Enter i names) ∷ [])
  walks_node h i l (node.Assign targets exps) e = walks_list h targets (visits exps) ∙ walks_only (list_walked h (list_of part targets)) exps
  walks_node h i l (node.CallStat call) e = refl
  walks_node h i l (node.Do block) e = refl
  walks_node h i l (node.While test block) e = refl
  walks_node h i l (node.Repeat block test) e = refl
  walks_node h i l (node.If tests blocks otherwise) e =
      walks_cases h tests blocks (maybe_task otherwise) ∙ (ap (walks part (cases_walked h (cases_of part tests blocks))) (sym (append-nil (maybe_task otherwise))) ∙ walks_maybe (cases_walked h (cases_of part tests blocks)) otherwise [])
  walks_node h i l (node.NumFor name first limit step block) e =
      walks_maybe (walked (walked (occurrence.Declare i 1 ∷ h) (part first)) (part limit)) step (Emit (occurrence.Open kind.Loop) ∷ Emit (occurrence.Enter i (name ∷ [])) ∷ Visit block ∷ Emit occurrence.Close ∷ [])
  walks_node h i l (node.GenFor names exps block) e =
      walks_list (occurrence.Declare i (length names) ∷ h) exps (Emit (occurrence.Open kind.Loop) ∷ Emit (occurrence.Enter i names) ∷ Visit block ∷ Emit occurrence.Close ∷ [])
  walks_node h i l (node.LocalFunction name function) e = refl
  walks_node h i l (node.Return exps) e = walks_only h exps
  walks_node h i l node.Break e = refl
  walks_node h i l (node.Goto label) e = refl
  walks_node h i l (node.Label label) e = refl
  walks_node h i l (node.Const value) e = refl
  walks_node h i l node.Vararg e = refl
  walks_node h i l (node.Function params vararg block) e = refl
  walks_node h i l (node.Name text) e = refl
  walks_node h i l (node.Index object key) e = refl
  walks_node h i l (node.Call function args) e = walks_only (walked h (part function)) args
  walks_node h i l (node.Method object name args) e = walks_only (walked h (part object)) args
  walks_node h i l (node.Binary op left right) e = refl
  walks_node h i l (node.Logic op left right) e = refl
  walks_node h i l (node.Unary op operand) e = refl
  walks_node h i l (node.Paren inner) e = refl
  walks_node h i l (node.Table fields) e = walks_fields h fields
