-- A block's statements, one more.
use Rattle.std.specs.Prelude.{◌≡◌, ℕ, ◌+◌, ◌<◌, ◌≤◌, Bool, true, false, if◌then◌else◌, List, [], ◌∷◌, ◌++◌, Some, None, length, refl}
use Rattle.std.specs.List.{list_any}
use Rattle.std.proofs.Common.{ap, ◌∙◌, sym, subst, arith}
use Rattle.lua_ast.specs.declared.node.Node.{Node}
use Rattle.lua_ast.specs.declared.node.Node.TheVariants as node
use Rattle.lua_ast.specs.Tree.{Tree, Label, Trees, none, snoc}
use Rattle.lua_ast.specs.Decode.{node_tree}
use Rattle.lua_scope.specs.declared.occurrence.Occurrence.{Occurrence}
use Rattle.lua_scope.specs.declared.occurrence.Occurrence.TheVariants as occurrence
use Rattle.lua_scope.specs.declared.occurrence.Label.{Label as BlockLabel}
use Rattle.lua_scope.specs.declared.task.Task.{Task}
use Rattle.lua_scope.specs.declared.task.Task.TheVariants.{Visit, Emit}
use Rattle.lua_scope.specs.declared.block.Statements.{Statements}
use Rattle.lua_scope.specs.Labels.{has_name, labels_of, with_labels, inside_of, inside_with, locals_left, locals_at}
use Rattle.lua_scope.specs.Walk.{walked, stats_walked}
use Rattle.lua_scope.specs.Tasks.{walks}
use Rattle.lua_scope.specs.Walking.{size, list_size, weights, TasksBelow}
use Rattle.lua_scope.specs.Scanned.{Scanned, label_name, locals_in}
use Rattle.lua_scope.proofs.NodeWalks.{walks_append, weights_append, below_append}

pub scanned_none : (part : ℕ → Tree) (n : ℕ) (s : Statements) → s.labels ≡ [] → s.inside ≡ 0 → s.locals ≡ 0 → s.tasks ≡ [] → Scanned part n none s
unfolding labels_of inside_of walked size
scanned_none part n s a b c d = record {
  labels = a;
  inside = b;
  locals = c;
  walk = λ h. ap (walks part h) d;
  less = subst (λ (ts : List Task). weights part ts ≤ 0) (sym d) (omega arith);
  below = subst (λ (ts : List Task). TasksBelow n ts) (sym d) tt;
}

-- What a statement that is no label changes.
record Other (part : ℕ → Tree) (i l : ℕ) (x : Node) : Type 0 where
  labels : (before : List BlockLabel) (locals : ℕ) → with_labels before locals (node_tree part i l x) ≡ before
  inside : (inside labels : ℕ) → inside_with inside labels (node_tree part i l x) ≡ labels
  locals : locals_at (node_tree part i l x) ≡ locals_in x
  walk : (h : List Occurrence) (ts : Trees) → stats_walked h (snoc ts (node_tree part i l x)) ≡ walked (stats_walked h ts) (node_tree part i l x)

other : (part : ℕ → Tree) (i l : ℕ) (x : Node) → label_name x ≡ None → Other part i l x
unfolding walked
other part i l (node.Block stats) e = record { labels = λ before locals. refl; inside = λ inside labels. refl; locals = refl; walk = λ h ts. refl }
other part i l (node.Local names exps) e = record { labels = λ before locals. refl; inside = λ inside labels. refl; locals = refl; walk = λ h ts. refl }
other part i l (node.Assign targets exps) e = record { labels = λ before locals. refl; inside = λ inside labels. refl; locals = refl; walk = λ h ts. refl }
other part i l (node.CallStat call) e = record { labels = λ before locals. refl; inside = λ inside labels. refl; locals = refl; walk = λ h ts. refl }
other part i l (node.Do block) e = record { labels = λ before locals. refl; inside = λ inside labels. refl; locals = refl; walk = λ h ts. refl }
other part i l (node.While test block) e = record { labels = λ before locals. refl; inside = λ inside labels. refl; locals = refl; walk = λ h ts. refl }
other part i l (node.Repeat block test) e = record { labels = λ before locals. refl; inside = λ inside labels. refl; locals = refl; walk = λ h ts. refl }
other part i l (node.If tests blocks otherwise) e = record { labels = λ before locals. refl; inside = λ inside labels. refl; locals = refl; walk = λ h ts. refl }
other part i l (node.NumFor name first limit step block) e = record { labels = λ before locals. refl; inside = λ inside labels. refl; locals = refl; walk = λ h ts. refl }
other part i l (node.GenFor names exps block) e = record { labels = λ before locals. refl; inside = λ inside labels. refl; locals = refl; walk = λ h ts. refl }
other part i l (node.LocalFunction name function) e = record { labels = λ before locals. refl; inside = λ inside labels. refl; locals = refl; walk = λ h ts. refl }
other part i l (node.Return exps) e = record { labels = λ before locals. refl; inside = λ inside labels. refl; locals = refl; walk = λ h ts. refl }
other part i l node.Break e = record { labels = λ before locals. refl; inside = λ inside labels. refl; locals = refl; walk = λ h ts. refl }
other part i l (node.Goto label) e = record { labels = λ before locals. refl; inside = λ inside labels. refl; locals = refl; walk = λ h ts. refl }
other part i l (node.Label label) e = absurd cc
other part i l (node.Const value) e = record { labels = λ before locals. refl; inside = λ inside labels. refl; locals = refl; walk = λ h ts. refl }
other part i l node.Vararg e = record { labels = λ before locals. refl; inside = λ inside labels. refl; locals = refl; walk = λ h ts. refl }
other part i l (node.Function params vararg block) e = record { labels = λ before locals. refl; inside = λ inside labels. refl; locals = refl; walk = λ h ts. refl }
other part i l (node.Name text) e = record { labels = λ before locals. refl; inside = λ inside labels. refl; locals = refl; walk = λ h ts. refl }
other part i l (node.Index object key) e = record { labels = λ before locals. refl; inside = λ inside labels. refl; locals = refl; walk = λ h ts. refl }
other part i l (node.Call function args) e = record { labels = λ before locals. refl; inside = λ inside labels. refl; locals = refl; walk = λ h ts. refl }
other part i l (node.Method object name args) e = record { labels = λ before locals. refl; inside = λ inside labels. refl; locals = refl; walk = λ h ts. refl }
other part i l (node.Binary op left right) e = record { labels = λ before locals. refl; inside = λ inside labels. refl; locals = refl; walk = λ h ts. refl }
other part i l (node.Logic op left right) e = record { labels = λ before locals. refl; inside = λ inside labels. refl; locals = refl; walk = λ h ts. refl }
other part i l (node.Unary op operand) e = record { labels = λ before locals. refl; inside = λ inside labels. refl; locals = refl; walk = λ h ts. refl }
other part i l (node.Paren inner) e = record { labels = λ before locals. refl; inside = λ inside labels. refl; locals = refl; walk = λ h ts. refl }
other part i l (node.Table fields) e = record { labels = λ before locals. refl; inside = λ inside labels. refl; locals = refl; walk = λ h ts. refl }

pub scanned_other : (part : ℕ → Tree) (n : ℕ) (ts : Trees) (old new : Statements) (i l : ℕ) (x : Node)
    → label_name x ≡ None → i < n → part i ≡ node_tree part i l x → Scanned part n ts old
    → new.labels ≡ old.labels → new.inside ≡ length old.labels → new.locals ≡ old.locals + locals_in x → new.tasks ≡ old.tasks ++ Visit i ∷ []
    → Scanned part n (snoc ts (part i)) new
unfolding labels_of inside_of size
scanned_other part n ts old new i l x plain less e s a b c d =
    let o : Other part i l x = other part i l x plain
    in record {
      labels = a ∙ (s.labels ∙ (sym (o.labels (labels_of ts) (locals_left ts)) ∙ ap (with_labels (labels_of ts) (locals_left ts)) (sym e)));
      inside = b ∙ (ap (λ (ls : List BlockLabel). length ls) s.labels ∙ (sym (o.inside (inside_of ts) (length (labels_of ts))) ∙ ap (inside_with (inside_of ts) (length (labels_of ts))) (sym e)));
      locals = c ∙ (ap (λ m. m + locals_in x) s.locals ∙ (ap (λ m. locals_left ts + m) (sym o.locals) ∙ ap (λ t. locals_left ts + locals_at t) (sym e)));
      walk = λ h.
          ap (walks part h) d ∙ (walks_append part h old.tasks (Visit i ∷ []) ∙ (ap (λ g. walked g (part i)) (s.walk h)
          ∙ (ap (walked (stats_walked h ts)) e ∙ (sym (o.walk h ts) ∙ ap (λ t. stats_walked h (snoc ts t)) (sym e)))));
      less = subst (λ (us : List Task). weights part us ≤ list_size ts + size (part i)) (sym d) (omega (arith, weights_append part old.tasks (Visit i ∷ []), s.less));
      below = subst (λ (us : List Task). TasksBelow n us) (sym d) (below_append n old.tasks (Visit i ∷ []) s.below (less, tt));
    }

tasks_with : (part : ℕ → Tree) (h : List Occurrence) (l : ℕ) (before : Bool) (tasks : List Task)
    → walks part h (if before then tasks ++ Emit (occurrence.SecondLabel l) ∷ [] else tasks) ≡ (if before then occurrence.SecondLabel l ∷ walks part h tasks else walks part h tasks)
tasks_with part h l true tasks = walks_append part h tasks (Emit (occurrence.SecondLabel l) ∷ [])
tasks_with part h l false tasks = refl

less_with : (part : ℕ → Tree) (l : ℕ) (before : Bool) (tasks : List Task) → weights part (if before then tasks ++ Emit (occurrence.SecondLabel l) ∷ [] else tasks) ≤ weights part tasks + 2
less_with part l true tasks = omega (arith, weights_append part tasks (Emit (occurrence.SecondLabel l) ∷ []))
less_with part l false tasks = omega arith

below_with : (n l : ℕ) (before : Bool) (tasks : List Task) → TasksBelow n tasks → TasksBelow n (if before then tasks ++ Emit (occurrence.SecondLabel l) ∷ [] else tasks)
below_with n l true tasks b = below_append n tasks (Emit (occurrence.SecondLabel l) ∷ []) b (tt, tt)
below_with n l false tasks b = b

pub scanned_label : (part : ℕ → Tree) (n : ℕ) (ts : Trees) (old new : Statements) (i l : ℕ) (x : List ℕ)
    → Scanned part n ts old
    → new.labels ≡ old.labels ++ record { name = x; locals = old.locals } ∷ [] → new.inside ≡ old.inside → new.locals ≡ old.locals
    → new.tasks ≡ (if list_any (has_name x) old.labels then old.tasks ++ Emit (occurrence.SecondLabel l) ∷ [] else old.tasks)
    → Scanned part n (snoc ts (Label i l x)) new
unfolding labels_of inside_of size walked
scanned_label part n ts old new i l x s a b c d =
    let second : Bool = list_any (has_name x) old.labels
    in record {
      labels = a ∙ (ap (λ (ls : List BlockLabel). ls ++ record { name = x; locals = old.locals } ∷ []) s.labels ∙ ap (λ (m : ℕ). labels_of ts ++ record { name = x; locals = m } ∷ []) s.locals);
      inside = b ∙ s.inside;
      locals = c ∙ (s.locals ∙ omega arith);
      walk = λ h.
          ap (walks part h) d ∙ (tasks_with part h l second old.tasks
          ∙ (ap (λ (g : List Occurrence). (if second then occurrence.SecondLabel l ∷ g else g)) (s.walk h)
          ∙ ap (λ (ls : List BlockLabel). (if list_any (has_name x) ls then occurrence.SecondLabel l ∷ stats_walked h ts else stats_walked h ts)) s.labels));
      less = subst (λ (us : List Task). weights part us ≤ list_size ts + 2) (sym d) (omega (arith, less_with part l second old.tasks, s.less));
      below = subst (λ (us : List Task). TasksBelow n us) (sym d) (below_with n l second old.tasks s.below);
    }

label_tree : (part : ℕ → Tree) (i l : ℕ) (x : Node) (name : List ℕ) → label_name x ≡ Some name → node_tree part i l x ≡ Label i l name
label_tree part i l (node.Block stats) wanted e = absurd cc
label_tree part i l (node.Local names exps) wanted e = absurd cc
label_tree part i l (node.Assign targets exps) wanted e = absurd cc
label_tree part i l (node.CallStat call) wanted e = absurd cc
label_tree part i l (node.Do block) wanted e = absurd cc
label_tree part i l (node.While test block) wanted e = absurd cc
label_tree part i l (node.Repeat block test) wanted e = absurd cc
label_tree part i l (node.If tests blocks otherwise) wanted e = absurd cc
label_tree part i l (node.NumFor name first limit step block) wanted e = absurd cc
label_tree part i l (node.GenFor names exps block) wanted e = absurd cc
label_tree part i l (node.LocalFunction name function) wanted e = absurd cc
label_tree part i l (node.Return exps) wanted e = absurd cc
label_tree part i l node.Break wanted e = absurd cc
label_tree part i l (node.Goto label) wanted e = absurd cc
label_tree part i l (node.Label label) wanted e = let same : label ≡ wanted = cc in ap (λ (y : List ℕ). Label i l y) same
label_tree part i l (node.Const value) wanted e = absurd cc
label_tree part i l node.Vararg wanted e = absurd cc
label_tree part i l (node.Function params vararg block) wanted e = absurd cc
label_tree part i l (node.Name text) wanted e = absurd cc
label_tree part i l (node.Index object key) wanted e = absurd cc
label_tree part i l (node.Call function args) wanted e = absurd cc
label_tree part i l (node.Method object name args) wanted e = absurd cc
label_tree part i l (node.Binary op left right) wanted e = absurd cc
label_tree part i l (node.Logic op left right) wanted e = absurd cc
label_tree part i l (node.Unary op operand) wanted e = absurd cc
label_tree part i l (node.Paren inner) wanted e = absurd cc
label_tree part i l (node.Table fields) wanted e = absurd cc

pub scanned_label_node : (part : ℕ → Tree) (n : ℕ) (ts : Trees) (old new : Statements) (i l : ℕ) (x : Node) (name : List ℕ)
    → label_name x ≡ Some name → part i ≡ node_tree part i l x → Scanned part n ts old
    → new.labels ≡ old.labels ++ record { name = name; locals = old.locals } ∷ [] → new.inside ≡ old.inside → new.locals ≡ old.locals
    → new.tasks ≡ (if list_any (has_name name) old.labels then old.tasks ++ Emit (occurrence.SecondLabel l) ∷ [] else old.tasks)
    → Scanned part n (snoc ts (part i)) new
scanned_label_node part n ts old new i l x name named e s a b c d =
    subst (λ (t : Tree). Scanned part n (snoc ts t) new) (sym (e ∙ label_tree part i l x name named)) (scanned_label part n ts old new i l name s a b c d)
