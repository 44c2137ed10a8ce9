-- Where a goto leads (Lua 5.2 manual, 3.3.4 and 3.5).
use Rattle.std.specs.Prelude.{◌≡◌, ◌⊎◌, ℕ, ◌+◌, ◌≤◌, ◌&&◌, ◌||◌, nat_lt, Bool, true, false, not, if◌then◌else◌, List, [], ◌∷◌, bytes_eq, Option, Some, None, slice_get}
use Rattle.lua_ast.specs.Tree.{Tree, Label, Trees, none, snoc}
use Rattle.lua_scope.specs.Labels.{locals_at, locals_left}
use Rattle.lua_scope.specs.Gotos.{Enclosing, stats_of, GotoThere, gotos_of}

abbrev pub is_label_of : List ℕ → Tree → Bool
is_label_of x (Label _ _ y) = bytes_eq y x
is_label_of x _ = false

abbrev pub label_on : List ℕ → Option Trees → Tree → Option Trees
label_on x (Some part) t = Some (snoc part t)
label_on x None t = if is_label_of x t then Some (snoc none t) else None

-- the statements of a block from the first label of this name on
abbrev pub stats_from : List ℕ → Trees → Option Trees
stats_from x none = None
stats_from x (snoc ts t) = label_on x (stats_from x ts) t

abbrev pub locals_on : List ℕ → Option Trees → ℕ → Tree → ℕ
locals_on x (Some _) before t = before
locals_on x None before t = if is_label_of x t then before else (before + locals_at t)

-- how many locals the statements before the first label of this name leave in scope
abbrev pub locals_up_to : List ℕ → Trees → ℕ
locals_up_to x none = 0
locals_up_to x (snoc ts t) = locals_on x (stats_from x ts) (locals_up_to x ts) t

-- None of these blocks has a label of this name.
pub data Nowhere (x : List ℕ) : List Enclosing → Type 0 where
  no_block : Nowhere x []
  lacking : {e : Enclosing} {es : List Enclosing} → stats_from x (stats_of e) ≡ None → Nowhere x es → Nowhere x (e ∷ es)

-- The innermost of these blocks that has a label of this name is as P says of it, and of its statements from the first such label on.
pub data Innermost (x : List ℕ) (P : Enclosing → Trees → Type 0) : List Enclosing → Type 0 where
  here : {e : Enclosing} {es : List Enclosing} (part : Trees) → stats_from x (stats_of e) ≡ Some part → P e part → Innermost x P (e ∷ es)
  further_out : {e : Enclosing} {es : List Enclosing} → stats_from x (stats_of e) ≡ None → Innermost x P es → Innermost x P (e ∷ es)

-- only labels
abbrev pub void_with : Bool → Tree → Bool
void_with void (Label _ _ _) = void
void_with void _ = false

abbrev pub is_void : Trees → Bool
is_void none = true
is_void (snoc ts t) = void_with (is_void ts) t

-- A label behind which only void statements stand lies outside the locals of its block, but for the body of a repeat, whose condition sees them.
abbrev pub lies_outside : (repeats : Bool) → (part : Trees) → Bool
lies_outside repeats part = not repeats && is_void part

-- one of these statements, up to a label of this name, declares a local
abbrev pub passes_local : List ℕ → List Tree → Bool
passes_local x [] = false
passes_local x (t ∷ ts) = if is_label_of x t then false else (nat_lt 0 (locals_at t) || passes_local x ts)

-- The locals of the block that are in scope at the label are the first of those at the goto, or the label lies outside them.
abbrev pub Reaches : List ℕ → Enclosing → Trees → Type 0
Reaches x e part = (locals_up_to x (stats_of e) ≤ locals_left e.before) ⊎ (lies_outside e.repeats part ≡ true)

-- The label stands behind the goto, within the locals of its block, and between the two a local is declared.
pub record JumpsOver (x : List ℕ) (e : Enclosing) (part : Trees) : Type 0 where
  pub within : lies_outside e.repeats part ≡ false
  pub behind : stats_from x e.before ≡ None
  pub between : passes_local x e.after ≡ true

abbrev pub Lands : GotoThere → Type 0
Lands g = Innermost g.label (Reaches g.label) g.around

abbrev pub LacksLabel : GotoThere → Type 0
LacksLabel g = Nowhere g.label g.around

abbrev pub EntersLocal : GotoThere → Type 0
EntersLocal g = Innermost g.label (JumpsOver g.label) g.around

-- The text has such a goto on this line.
pub record HasGoto (t : Tree) (l : ℕ) (P : GotoThere → Type 0) : Type 0 where
  pub place : ℕ
  pub goto : GotoThere
  pub there : slice_get (gotos_of t) place ≡ Some goto
  pub line : goto.line ≡ l
  pub is : P goto
