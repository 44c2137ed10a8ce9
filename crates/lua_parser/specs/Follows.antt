-- Where an expression is over, and what goes on then.
use Rattle.std.specs.Prelude.{◌≡◌, ℕ, List, ◌∷◌, length, Result, Ok, Err, ◌<◌, Option, None, true, false}
use Rattle.lua_parser.specs.declared.follow.Folded.{Folded}
use Rattle.lua_parser.specs.declared.follow.Folded.TheVariants as folded
use Rattle.lua_parser.specs.declared.follow.Followed.{Followed}
use Rattle.lua_parser.specs.declared.follow.Followed.TheVariants as followed
use Rattle.lua_parser_state.specs.Shown.{Held, attributes, tree_in, stack_in, frame_in, FrameBelow}
use Rattle.lua_parser_state.specs.Order.{frame_on, state_on, Stands}
use Rattle.lua_ast.specs.declared.node.LinedNode.{LinedNode}
use Rattle.lua_ast.specs.Tree.{Tree}
use Rattle.lua_grammar.specs.Signs.{Terminal, Attributes}
use Rattle.lua_grammar.specs.Pushdown as pushdown
use Rattle.lua_parser_state.specs.declared.refusal.Refusal.{Refusal}
use Rattle.lua_parser_state.specs.Gave.{Gave, Refuses}

-- What was begun goes on so, where the expression t is over.
abbrev pub Folds : List pushdown.Frame → Tree → Folded → Held → Type 0
Folds k t (folded.Operation o) h = ((m : Terminal) (i : Attributes) → pushdown.rest k t m i ≡ pushdown.follow (stack_in h) o.limit (tree_in h.nodes o.node) m i) × (o.node < length h.nodes)
Folds k t (folded.Inside f) h = ((m : Terminal) (i : Attributes) → pushdown.rest k t m i ≡ pushdown.close (frame_in h.nodes f) t (stack_in h) m i) × FrameBelow (length h.nodes) f
Folds k t folded.Nothing h = (m : Terminal) (i : Attributes) → pushdown.rest k t m i ≡ None

-- What isn't over has the nodes that there were.
abbrev pub IsKept : Folded → List LinedNode → List LinedNode → Type 0
IsKept (folded.Inside f) before after = after ≡ before
IsKept _ before after = Unit {0}

-- An operation that is over leaves fewer frames.
abbrev pub IsFewer : Folded → ℕ → ℕ → Type 0
IsFewer (folded.Operation o) before after = after < before
IsFewer _ before after = Unit {0}

-- The answer is that of a step behind an expression, or the expression is over and the same step is to be taken behind a larger one, inside fewer frames.
abbrev pub Follows : (counted free : Option pushdown.State) → Terminal → (line : ℕ) → List ℕ → ℕ → Result Followed Refusal → Held → Type 0
Follows c f m l s count (Ok (followed.Goes o)) h = Gave c f (Ok o) h
Follows c f m l s count (Ok (followed.Over o)) h =
    (c ≡ pushdown.follow (stack_in h) o.limit (tree_in h.nodes o.node) m (attributes true l s)) × (f ≡ pushdown.follow (stack_in h) o.limit (tree_in h.nodes o.node) m (attributes false l s)) × (o.node < length h.nodes) × (length h.frames < count)
Follows c f m l s count (Err e) h = Refuses c f e

-- What was in hand, the expression in front, is in hand where it is over. Inside something else it stays in front of it.
abbrev pub FoldsInOrder : (had : ℕ) → Held → Folded → Held → Type 0
FoldsInOrder had before (folded.Operation o) after = Stands (λ below. had ∷ below) before → Stands (λ below. o.node ∷ below) after
FoldsInOrder had before (folded.Inside f) after = Stands (λ below. had ∷ below) before → Stands (λ below. had ∷ frame_on f below) after
FoldsInOrder had before folded.Nothing after = Unit {0}

abbrev pub FollowsInOrder : {E : Type 0} → (had : ℕ) → Held → Result Followed E → Held → Type 0
FollowsInOrder had before (Ok (followed.Goes s)) after = Stands (λ below. had ∷ below) before → Stands (λ below. state_on s below) after
FollowsInOrder had before (Ok (followed.Over o)) after = Stands (λ below. had ∷ below) before → Stands (λ below. o.node ∷ below) after
FollowsInOrder had before (Err e) after = Unit {0}
