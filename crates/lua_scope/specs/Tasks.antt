-- The walk as tasks: what a node leaves to be done, in text order.
use Rattle.std.specs.Prelude.{ℕ, true, false, List, [], ◌∷◌, ◌++◌, length, Option, Some, None}
use Rattle.lua_ast.specs.declared.node.Node.{Node}
use Rattle.lua_ast.specs.declared.node.Node.TheVariants as node
use Rattle.lua_ast.specs.declared.node.Field.{Field}
use Rattle.lua_ast.specs.declared.node.Field.TheVariants as field
use Rattle.lua_ast.specs.Tree.{Tree}
use Rattle.lua_scope.specs.declared.occurrence.Occurrence.{Occurrence}
use Rattle.lua_scope.specs.declared.occurrence.Occurrence.TheVariants as occurrence
use Rattle.lua_scope.specs.declared.occurrence.ScopeKind.TheVariants as kind
use Rattle.lua_scope.specs.declared.task.Task.{Task}
use Rattle.lua_scope.specs.declared.task.Task.TheVariants.{Visit, Body, Emit}
use Rattle.lua_scope.specs.Walk.{walked, body_walked}

-- what has been met, with a task done; `part` gives the tree of a node
abbrev pub walk : (ℕ → Tree) → List Occurrence → Task → List Occurrence
walk part seen (Visit i) = walked seen (part i)
walk part seen (Body i repeats) = body_walked repeats seen (part i)
walk part seen (Emit e) = e ∷ seen

abbrev pub walks : (ℕ → Tree) → List Occurrence → List Task → List Occurrence
walks part seen [] = seen
walks part seen (t ∷ ts) = walks part (walk part seen t) ts

abbrev pub visits : List ℕ → List Task
visits [] = []
visits (i ∷ is) = Visit i ∷ visits is

abbrev pub maybe_task : Option ℕ → List Task
maybe_task None = []
maybe_task (Some i) = Visit i ∷ []

abbrev pub case_tasks : List ℕ → List ℕ → List Task
case_tasks [] _ = []
case_tasks (_ ∷ _) [] = []
case_tasks (t ∷ ts) (b ∷ bs) = Visit t ∷ Visit b ∷ case_tasks ts bs

abbrev pub field_tasks : List Field → List Task
field_tasks [] = []
field_tasks (field.Item v ∷ fs) = Visit v ∷ field_tasks fs
field_tasks (field.Named _ v ∷ fs) = Visit v ∷ field_tasks fs
field_tasks (field.Keyed k v ∷ fs) = Visit k ∷ Visit v ∷ field_tasks fs

-- the tasks of a loop
abbrev pub loop_tasks : (number : ℕ) → Node → Option (List Task)
loop_tasks i (node.While test block) = Some (Visit test ∷ Emit (occurrence.Open kind.Loop) ∷ Visit block ∷ Emit occurrence.Close ∷ [])
loop_tasks i (node.Repeat block test) = Some (Emit (occurrence.Open kind.Loop) ∷ Body block true ∷ Visit test ∷ Emit occurrence.Close ∷ Emit occurrence.Close ∷ [])
loop_tasks i (node.NumFor name first limit step block) =
    Some (Emit (occurrence.Declare i 1) ∷ Visit first ∷ Visit limit ∷ (maybe_task step ++ Emit (occurrence.Open kind.Loop) ∷ Emit (occurrence.Enter i (name ∷ [])) ∷ Visit block ∷ Emit occurrence.Close ∷ []))
loop_tasks i (node.GenFor names exps block) =
    Some (Emit (occurrence.Declare i (length names)) ∷ (visits exps ++ Emit (occurrence.Open kind.Loop) ∷ Emit (occurrence.Enter i names) ∷ Visit block ∷ Emit occurrence.Close ∷ []))
loop_tasks i _ = None

-- the tasks of a node that is no loop: labels and literals have none
abbrev pub other_tasks : (number line : ℕ) → Node → List Task
other_tasks i l (node.Block stats) = Body i false ∷ Emit occurrence.Close ∷ []
other_tasks i l (node.Local names exps) = Emit (occurrence.Declare i (length names)) ∷ (visits exps ++ Emit (occurrence.Enter i names) ∷ [])
other_tasks i l (node.Assign targets exps) = visits targets ++ visits exps
other_tasks i l (node.CallStat call) = Visit call ∷ []
other_tasks i l (node.Do block) = Visit block ∷ []
other_tasks i l (node.If tests blocks otherwise) = case_tasks tests blocks ++ maybe_task otherwise
other_tasks i l (node.LocalFunction name function) = Emit (occurrence.Declare i 1) ∷ Emit (occurrence.Enter i (name ∷ [])) ∷ Visit function ∷ []
other_tasks i l (node.Return exps) = visits exps
other_tasks i l node.Break = Emit (occurrence.Break l) ∷ []
other_tasks i l (node.Goto label) = Emit (occurrence.Goto l label) ∷ []
other_tasks i l (node.Label label) = []
other_tasks i l (node.Const value) = []
other_tasks i l node.Vararg = Emit (occurrence.Vararg l) ∷ []
other_tasks i l (node.Function params vararg block) =
    Emit (occurrence.Open (kind.Function i vararg)) ∷ Emit (occurrence.Declare i (length params)) ∷ Emit (occurrence.Enter i params) ∷ Visit block ∷ Emit occurrence.Close ∷ []
other_tasks i l (node.Name text) = Emit (occurrence.Use i text) ∷ []
other_tasks i l (node.Index object key) = Visit object ∷ Visit key ∷ []
other_tasks i l (node.Call function args) = Visit function ∷ visits args
other_tasks i l (node.Method object name args) = Visit object ∷ visits args
other_tasks i l (node.Binary op left right) = Visit left ∷ Visit right ∷ []
other_tasks i l (node.Logic op left right) = Visit left ∷ Visit right ∷ []
other_tasks i l (node.Unary op operand) = Visit operand ∷ []
other_tasks i l (node.Paren inner) = Visit inner ∷ []
other_tasks i l (node.Table fields) = field_tasks fields
other_tasks i l _ = []

abbrev pub tasks_or : Option (List Task) → List Task → List Task
tasks_or (Some ts) others = ts
tasks_or None others = others

-- the tasks of a node
abbrev pub tasks_of : (number line : ℕ) → Node → List Task
tasks_of i l x = tasks_or (loop_tasks i x) (other_tasks i l x)
