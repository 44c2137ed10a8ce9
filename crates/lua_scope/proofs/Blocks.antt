-- A block by its statements.
use Rattle.std.specs.Prelude.{◌≡◌, ℕ, ◌+◌, ◌<◌, Bool, if◌then◌else◌, List, [], ◌∷◌, Some, None, length, refl}
use Rattle.std.proofs.Common.{zero, suc, get_or, ap, ◌∙◌, sym, subst, arith}
use Rattle.lua_ast.specs.declared.node.Node.{Node}
use Rattle.lua_ast.specs.declared.node.Node.TheVariants as node
use Rattle.lua_ast.specs.Tree.{Tree, Block, Local, Assign, CallStat, Do, While, Repeat, If, NumFor, GenFor, LocalFunction, Return, Break, Goto, Label, Const, Vararg, Function, Name, Index, Call, Method, Binary, Logic, Unary, Paren, Table, Missing, none}
use Rattle.lua_ast.specs.Decode.{node_tree, list_of, PartsBelow, AllBelow}
use Rattle.lua_scope.specs.declared.occurrence.Occurrence.{Occurrence}
use Rattle.lua_scope.specs.declared.occurrence.Occurrence.TheVariants as occurrence
use Rattle.lua_scope.specs.declared.occurrence.ScopeKind.TheVariants as kind
use Rattle.lua_scope.specs.declared.occurrence.Label.{Label as BlockLabel}
use Rattle.lua_scope.specs.declared.task.Task.TheVariants.{Emit}
use Rattle.lua_scope.specs.declared.block.Statements.{Statements}
use Rattle.lua_scope.specs.Labels.{labels_of}
use Rattle.lua_scope.specs.Walk.{opens, stats_walked, body_walked}
use Rattle.lua_scope.specs.Tasks.{walks}
use Rattle.lua_scope.specs.Walking.{size, list_size, body_size, weights}
use Rattle.lua_scope.specs.Scanned.{Scanned, block_stats, stats_in}

pub stats_some : (part : ℕ → Tree) (i l : ℕ) (x : Node) (wanted : List ℕ) → block_stats x ≡ Some wanted → stats_in (node_tree part i l x) ≡ list_of part wanted
stats_some part i l (node.Block stats) wanted e = let same : stats ≡ wanted = cc in ap (list_of part) same
stats_some part i l (node.Local names exps) wanted e = absurd cc
stats_some part i l (node.Assign targets exps) wanted e = absurd cc
stats_some part i l (node.CallStat call) wanted e = absurd cc
stats_some part i l (node.Do block) wanted e = absurd cc
stats_some part i l (node.While test block) wanted e = absurd cc
stats_some part i l (node.Repeat block test) wanted e = absurd cc
stats_some part i l (node.If tests blocks otherwise) wanted e = absurd cc
stats_some part i l (node.NumFor name first limit step block) wanted e = absurd cc
stats_some part i l (node.GenFor names exps block) wanted e = absurd cc
stats_some part i l (node.LocalFunction name function) wanted e = absurd cc
stats_some part i l (node.Return exps) wanted e = absurd cc
stats_some part i l node.Break wanted e = absurd cc
stats_some part i l (node.Goto label) wanted e = absurd cc
stats_some part i l (node.Label label) wanted e = absurd cc
stats_some part i l (node.Const value) wanted e = absurd cc
stats_some part i l node.Vararg wanted e = absurd cc
stats_some part i l (node.Function params vararg block) wanted e = absurd cc
stats_some part i l (node.Name text) wanted e = absurd cc
stats_some part i l (node.Index object key) wanted e = absurd cc
stats_some part i l (node.Call function args) wanted e = absurd cc
stats_some part i l (node.Method object name args) wanted e = absurd cc
stats_some part i l (node.Binary op left right) wanted e = absurd cc
stats_some part i l (node.Logic op left right) wanted e = absurd cc
stats_some part i l (node.Unary op operand) wanted e = absurd cc
stats_some part i l (node.Paren inner) wanted e = absurd cc
stats_some part i l (node.Table fields) wanted e = absurd cc

pub stats_none : (part : ℕ → Tree) (i l : ℕ) (x : Node) → block_stats x ≡ None → stats_in (node_tree part i l x) ≡ none
stats_none part i l (node.Block stats) e = absurd cc
stats_none part i l (node.Local names exps) e = refl
stats_none part i l (node.Assign targets exps) e = refl
stats_none part i l (node.CallStat call) e = refl
stats_none part i l (node.Do block) e = refl
stats_none part i l (node.While test block) e = refl
stats_none part i l (node.Repeat block test) e = refl
stats_none part i l (node.If tests blocks otherwise) e = refl
stats_none part i l (node.NumFor name first limit step block) e = refl
stats_none part i l (node.GenFor names exps block) e = refl
stats_none part i l (node.LocalFunction name function) e = refl
stats_none part i l (node.Return exps) e = refl
stats_none part i l node.Break e = refl
stats_none part i l (node.Goto label) e = refl
stats_none part i l (node.Label label) e = refl
stats_none part i l (node.Const value) e = refl
stats_none part i l node.Vararg e = refl
stats_none part i l (node.Function params vararg block) e = refl
stats_none part i l (node.Name text) e = refl
stats_none part i l (node.Index object key) e = refl
stats_none part i l (node.Call function args) e = refl
stats_none part i l (node.Method object name args) e = refl
stats_none part i l (node.Binary op left right) e = refl
stats_none part i l (node.Logic op left right) e = refl
stats_none part i l (node.Unary op operand) e = refl
stats_none part i l (node.Paren inner) e = refl
stats_none part i l (node.Table fields) e = refl

pub stats_below : (i : ℕ) (x : Node) (wanted : List ℕ) → block_stats x ≡ Some wanted → PartsBelow i x → AllBelow i wanted
stats_below i (node.Block stats) wanted e b = let same : stats ≡ wanted = cc in subst (λ (is : List ℕ). AllBelow i is) same b
stats_below i (node.Local names exps) wanted e b = absurd cc
stats_below i (node.Assign targets exps) wanted e b = absurd cc
stats_below i (node.CallStat call) wanted e b = absurd cc
stats_below i (node.Do block) wanted e b = absurd cc
stats_below i (node.While test block) wanted e b = absurd cc
stats_below i (node.Repeat block test) wanted e b = absurd cc
stats_below i (node.If tests blocks otherwise) wanted e b = absurd cc
stats_below i (node.NumFor name first limit step block) wanted e b = absurd cc
stats_below i (node.GenFor names exps block) wanted e b = absurd cc
stats_below i (node.LocalFunction name function) wanted e b = absurd cc
stats_below i (node.Return exps) wanted e b = absurd cc
stats_below i node.Break wanted e b = absurd cc
stats_below i (node.Goto label) wanted e b = absurd cc
stats_below i (node.Label label) wanted e b = absurd cc
stats_below i (node.Const value) wanted e b = absurd cc
stats_below i node.Vararg wanted e b = absurd cc
stats_below i (node.Function params vararg block) wanted e b = absurd cc
stats_below i (node.Name text) wanted e b = absurd cc
stats_below i (node.Index object key) wanted e b = absurd cc
stats_below i (node.Call function args) wanted e b = absurd cc
stats_below i (node.Method object name args) wanted e b = absurd cc
stats_below i (node.Binary op left right) wanted e b = absurd cc
stats_below i (node.Logic op left right) wanted e b = absurd cc
stats_below i (node.Unary op operand) wanted e b = absurd cc
stats_below i (node.Paren inner) wanted e b = absurd cc
stats_below i (node.Table fields) wanted e b = absurd cc

body_opens : (r : Bool) (h : List Occurrence) (t : Tree) → body_walked r h t ≡ stats_walked (opens r (stats_in t) ∷ h) (stats_in t)
unfolding body_walked
body_opens r h (Block a b c) = refl
body_opens r h (Local a b c d) = refl
body_opens r h (Assign a b c d) = refl
body_opens r h (CallStat a b c) = refl
body_opens r h (Do a b c) = refl
body_opens r h (While a b c d) = refl
body_opens r h (Repeat a b c d) = refl
body_opens r h (If a b c d) = refl
body_opens r h (NumFor a b c d e f g) = refl
body_opens r h (GenFor a b c d e) = refl
body_opens r h (LocalFunction a b c d) = refl
body_opens r h (Return a b c) = refl
body_opens r h (Break a b) = refl
body_opens r h (Goto a b c) = refl
body_opens r h (Label a b c) = refl
body_opens r h (Const a b c) = refl
body_opens r h (Vararg a b) = refl
body_opens r h (Function a b c d e) = refl
body_opens r h (Name a b c) = refl
body_opens r h (Index a b c d) = refl
body_opens r h (Call a b c d) = refl
body_opens r h (Method a b c d e) = refl
body_opens r h (Binary a b c d e) = refl
body_opens r h (Logic a b c d e) = refl
body_opens r h (Unary a b c d) = refl
body_opens r h (Paren a b c) = refl
body_opens r h (Table a b c) = refl
body_opens r h Missing = refl

body_weighs : (t : Tree) → 2 + list_size (stats_in t) ≡ body_size t
unfolding size
body_weighs (Block a b c) = refl
body_weighs (Local a b c d) = refl
body_weighs (Assign a b c d) = refl
body_weighs (CallStat a b c) = refl
body_weighs (Do a b c) = refl
body_weighs (While a b c d) = refl
body_weighs (Repeat a b c d) = refl
body_weighs (If a b c d) = refl
body_weighs (NumFor a b c d e f g) = refl
body_weighs (GenFor a b c d e) = refl
body_weighs (LocalFunction a b c d) = refl
body_weighs (Return a b c) = refl
body_weighs (Break a b) = refl
body_weighs (Goto a b c) = refl
body_weighs (Label a b c) = refl
body_weighs (Const a b c) = refl
body_weighs (Vararg a b) = refl
body_weighs (Function a b c d e) = refl
body_weighs (Name a b c) = refl
body_weighs (Index a b c d) = refl
body_weighs (Call a b c d) = refl
body_weighs (Method a b c d e) = refl
body_weighs (Binary a b c d e) = refl
body_weighs (Logic a b c d e) = refl
body_weighs (Unary a b c d) = refl
body_weighs (Paren a b c) = refl
body_weighs (Table a b c) = refl
body_weighs Missing = refl

pub body_walk : (part : ℕ → Tree) (n : ℕ) (t : Tree) (s : Statements) → Scanned part n (stats_in t) s → (r : Bool) (inside : ℕ) → inside ≡ (if r then length s.labels else s.inside)
    → (h : List Occurrence) → walks part h (Emit (occurrence.Open (kind.Block s.labels inside)) ∷ s.tasks) ≡ body_walked r h t
body_walk part n t s all r inside e h =
    all.walk (occurrence.Open (kind.Block s.labels inside) ∷ h)
    ∙ (ap (λ (ls : List BlockLabel). stats_walked (occurrence.Open (kind.Block ls inside) ∷ h) (stats_in t)) all.labels
    ∙ (ap (λ (k : ℕ). stats_walked (occurrence.Open (kind.Block (labels_of (stats_in t)) k) ∷ h) (stats_in t))
    (e ∙ (ap (λ (ls : List BlockLabel). (if r then length ls else s.inside)) all.labels ∙ ap (λ (k : ℕ). (if r then length (labels_of (stats_in t)) else k)) all.inside))
    ∙ sym (body_opens r h t)))

pub body_less : (part : ℕ → Tree) (n : ℕ) (t : Tree) (s : Statements) → Scanned part n (stats_in t) s → weights part s.tasks + 1 < body_size t
body_less part n t s all = omega (arith, all.less, body_weighs t)

pub below_at : (n : ℕ) (is : List ℕ) (k i : ℕ) → AllBelow n is → k < length is → i ≡ get_or is k i → i < n
below_at n [] k i b h e = absurd (omega arith)
below_at n (j ∷ is) zero i b h e = subst (λ (m : ℕ). m < n) (sym e) b.0
below_at n (j ∷ is) (suc k) i b h e = below_at n is k i b.1 (omega arith) e
