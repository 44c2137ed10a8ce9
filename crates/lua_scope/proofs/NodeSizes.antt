-- A node's tasks are less than the node, and stand before it.
use Rattle.std.specs.Prelude.{◌≡◌, ℕ, ◌+◌, ◌<◌, ◌≤◌, List, [], ◌∷◌, Option, Some, None, refl}
use Rattle.std.proofs.Common.{ap, arith}
use Rattle.lua_ast.specs.declared.node.Node.{Node}
use Rattle.lua_ast.specs.declared.node.Node.TheVariants as node
use Rattle.lua_ast.specs.declared.node.Field.{Field}
use Rattle.lua_ast.specs.declared.node.Field.TheVariants as field
use Rattle.lua_ast.specs.Tree.{Tree, Trees, none, snoc, Cases, no_case, case, Fields, no_field}
use Rattle.lua_ast.specs.Decode.{node_tree, list_after, list_of, cases_after, cases_of, with_field, fields_after, fields_of, maybe_of, PartsBelow, AllBelow, MaybeBelow, FieldsBelow}
use Rattle.lua_scope.specs.declared.occurrence.Occurrence.TheVariants as occurrence
use Rattle.lua_scope.specs.declared.occurrence.ScopeKind.TheVariants as kind
use Rattle.lua_scope.specs.declared.task.Task.TheVariants.{Visit, Emit}
use Rattle.lua_scope.specs.Tasks.{visits, maybe_task, case_tasks, field_tasks, tasks_of}
use Rattle.lua_scope.specs.Walking.{size, list_size, cases_size, maybe_size, fields_size, body_size, weights, TasksBelow}
use Rattle.lua_scope.proofs.NodeWalks.{weights_append, below_append}

module _ (part : ℕ → Tree) where
  list_weighs : (before : Trees) (is : List ℕ) → list_size before + weights part (visits is) ≡ list_size (list_after part before is)
  unfolding size
  list_weighs before [] = omega arith
  list_weighs before (i ∷ is) = omega (arith, list_weighs (snoc before (part i)) is)

  weighs_list : (is : List ℕ) → weights part (visits is) ≡ list_size (list_of part is)
  unfolding size list_of
  weighs_list is = omega (arith, list_weighs none is)

  cases_weigh : (before : Cases) (ts bs : List ℕ) → cases_size before + weights part (case_tasks ts bs) ≡ cases_size (cases_after part before ts bs)
  unfolding size
  cases_weigh before [] bs = omega arith
  cases_weigh before (t ∷ ts) [] = omega arith
  cases_weigh before (t ∷ ts) (b ∷ bs) = omega (arith, cases_weigh (case before (part t) (part b)) ts bs)

  weighs_cases : (ts bs : List ℕ) → weights part (case_tasks ts bs) ≡ cases_size (cases_of part ts bs)
  unfolding size cases_of
  weighs_cases ts bs = omega (arith, cases_weigh no_case ts bs)

  fields_weigh : (before : Fields) (fs : List Field) → fields_size before + weights part (field_tasks fs) ≡ fields_size (fields_after part before fs)
  unfolding size
  fields_weigh before [] = omega arith
  fields_weigh before (field.Item v ∷ fs) = omega (arith, fields_weigh (with_field part before (field.Item v)) fs)
  fields_weigh before (field.Named x v ∷ fs) = omega (arith, fields_weigh (with_field part before (field.Named x v)) fs)
  fields_weigh before (field.Keyed k v ∷ fs) = omega (arith, fields_weigh (with_field part before (field.Keyed k v)) fs)

  weighs_fields : (fs : List Field) → weights part (field_tasks fs) ≡ fields_size (fields_of part fs)
  unfolding size fields_of
  weighs_fields fs = omega (arith, fields_weigh no_field fs)

  weighs_maybe : (o : Option ℕ) → weights part (maybe_task o) ≡ maybe_size (maybe_of part o)
  unfolding size
  weighs_maybe None = refl
  weighs_maybe (Some i) = omega arith

  pub node_weighs : (i l : ℕ) (x : Node) → part i ≡ node_tree part i l x → weights part (tasks_of i l x) < size (node_tree part i l x)
  unfolding size
  node_weighs i l (node.Block stats) e = omega (arith, ap body_size e)
  node_weighs i l (node.Local names exps) e = omega (arith, weights_append part (visits exps) (Emit (occurrence.Enter i names) ∷ []), weighs_list exps)
  node_weighs i l (node.Assign targets exps) e = omega (arith, weights_append part (visits targets) (visits exps), weighs_list targets, weighs_list exps)
  node_weighs i l (node.CallStat call) e = omega arith
  node_weighs i l (node.Do block) e = omega arith
  node_weighs i l (node.While test block) e = omega arith
  node_weighs i l (node.Repeat block test) e = omega arith
  node_weighs i l (node.If tests blocks otherwise) e = omega (arith, weights_append part (case_tasks tests blocks) (maybe_task otherwise), weighs_cases tests blocks, weighs_maybe otherwise)
  node_weighs i l (node.NumFor name first limit step block) e =
      omega (arith, weights_append part (maybe_task step) (Emit (occurrence.Open kind.Loop) ∷ Emit (occurrence.Enter i (name ∷ [])) ∷ Visit block ∷ Emit occurrence.Close ∷ []), weighs_maybe step)
  node_weighs i l (node.GenFor names exps block) e =
      omega (arith, weights_append part (visits exps) (Emit (occurrence.Open kind.Loop) ∷ Emit (occurrence.Enter i names) ∷ Visit block ∷ Emit occurrence.Close ∷ []), weighs_list exps)
  node_weighs i l (node.LocalFunction name function) e = omega arith
  node_weighs i l (node.Return exps) e = omega (arith, weighs_list exps)
  node_weighs i l node.Break e = omega arith
  node_weighs i l (node.Goto label) e = omega arith
  node_weighs i l (node.Label label) e = omega arith
  node_weighs i l (node.Const value) e = omega arith
  node_weighs i l node.Vararg e = omega arith
  node_weighs i l (node.Function params vararg block) e = omega arith
  node_weighs i l (node.Name text) e = omega arith
  node_weighs i l (node.Index object key) e = omega arith
  node_weighs i l (node.Call function args) e = omega (arith, weighs_list args)
  node_weighs i l (node.Method object name args) e = omega (arith, weighs_list args)
  node_weighs i l (node.Binary op left right) e = omega arith
  node_weighs i l (node.Logic op left right) e = omega arith
  node_weighs i l (node.Unary op operand) e = omega arith
  node_weighs i l (node.Paren inner) e = omega arith
  node_weighs i l (node.Table fields) e = omega (arith, weighs_fields fields)

module _ (n m : ℕ) (less : n ≤ m) where
  visits_below : (is : List ℕ) → AllBelow n is → TasksBelow m (visits is)
  visits_below [] b = tt
  visits_below (i ∷ is) b = (omega (arith, b.0), visits_below is b.1)

  cases_below : (ts bs : List ℕ) → AllBelow n ts → AllBelow n bs → TasksBelow m (case_tasks ts bs)
  cases_below [] bs p q = tt
  cases_below (t ∷ ts) [] p q = tt
  cases_below (t ∷ ts) (b ∷ bs) p q = (omega (arith, p.0), (omega (arith, q.0), cases_below ts bs p.1 q.1))

  fields_below : (fs : List Field) → FieldsBelow n fs → TasksBelow m (field_tasks fs)
  fields_below [] b = tt
  fields_below (field.Item v ∷ fs) b = (omega (arith, b.0), fields_below fs b.1)
  fields_below (field.Named x v ∷ fs) b = (omega (arith, b.0), fields_below fs b.1)
  fields_below (field.Keyed k v ∷ fs) b = (omega (arith, b.0.0), (omega (arith, b.0.1), fields_below fs b.1))

  maybe_below : (o : Option ℕ) → MaybeBelow n o → TasksBelow m (maybe_task o)
  maybe_below None b = tt
  maybe_below (Some i) b = (omega (arith, b), tt)

  pub node_below : (i l : ℕ) (x : Node) → i < m → PartsBelow n x → TasksBelow m (tasks_of i l x)
  node_below i l (node.Block stats) h b = (h, (tt, tt))
  node_below i l (node.Local names exps) h b = (h, below_append m (visits exps) (Emit (occurrence.Enter i names) ∷ []) (visits_below exps b) (h, tt))
  node_below i l (node.Assign targets exps) h b = below_append m (visits targets) (visits exps) (visits_below targets b.0) (visits_below exps b.1)
  node_below i l (node.CallStat call) h b = (omega (arith, b), tt)
  node_below i l (node.Do block) h b = (omega (arith, b), tt)
  node_below i l (node.While test block) h b = (omega (arith, b.0), (tt, (omega (arith, b.1), (tt, tt))))
  node_below i l (node.Repeat block test) h b = (tt, (omega (arith, b.0), (omega (arith, b.1), (tt, (tt, tt)))))
  node_below i l (node.If tests blocks otherwise) h b =
      below_append m (case_tasks tests blocks) (maybe_task otherwise) (cases_below tests blocks b.0 b.1) (maybe_below otherwise b.2)
  node_below i l (node.NumFor name first limit step block) h b =
      (h, (omega (arith, b.0), (omega (arith, b.1), below_append m (maybe_task step) (Emit (occurrence.Open kind.Loop) ∷ Emit (occurrence.Enter i (name ∷ [])) ∷ Visit block ∷ Emit occurrence.Close ∷ []) (maybe_below step b.2) (tt, (h, (omega (arith, b.3), (tt, tt)))))))
  node_below i l (node.GenFor names exps block) h b =
      (h, below_append m (visits exps) (Emit (occurrence.Open kind.Loop) ∷ Emit (occurrence.Enter i names) ∷ Visit block ∷ Emit occurrence.Close ∷ []) (visits_below exps b.0) (tt, (h, (omega (arith, b.1), (tt, tt)))))
  node_below i l (node.LocalFunction name function) h b = (h, (h, (omega (arith, b), tt)))
  node_below i l (node.Return exps) h b = visits_below exps b
  node_below i l node.Break h b = (tt, tt)
  node_below i l (node.Goto label) h b = (tt, tt)
  node_below i l (node.Label label) h b = tt
  node_below i l (node.Const value) h b = tt
  node_below i l node.Vararg h b = (tt, tt)
  node_below i l (node.Function params vararg block) h b = (h, (h, (h, (omega (arith, b), (tt, tt)))))
  node_below i l (node.Name text) h b = (h, tt)
  node_below i l (node.Index object key) h b = (omega (arith, b.0), (omega (arith, b.1), tt))
  node_below i l (node.Call function args) h b = (omega (arith, b.0), visits_below args b.1)
  node_below i l (node.Method object name args) h b = (omega (arith, b.0), visits_below args b.1)
  node_below i l (node.Binary op left right) h b = (omega (arith, b.0), (omega (arith, b.1), tt))
  node_below i l (node.Logic op left right) h b = (omega (arith, b.0), (omega (arith, b.1), tt))
  node_below i l (node.Unary op operand) h b = (omega (arith, b), tt)
  node_below i l (node.Paren inner) h b = (omega (arith, b), tt)
  node_below i l (node.Table fields) h b = fields_below fields b
