-- What goes on with an expression.
use Rattle.std.specs.Prelude.{◌≡◌, ℕ, ◌&&◌, nat_le, cond, List, ◌∷◌, Option, Some, None}
use Rattle.lua_ast.specs.Tree.{Tree}
use Rattle.lua_grammar.specs.Signs.{Terminal, Attributes}
use Rattle.lua_grammar.specs.Operators.{Operator, level, left_of, right_of}
use Rattle.lua_grammar.specs.Pushdown as pushdown
use Rattle.lua_expressions.specs.declared.suffix.Suffix.{Suffix}
use Rattle.lua_expressions.specs.declared.suffix.Suffix.TheVariants as suffix
use Rattle.lua_parser_state.specs.Shown.{operator_in}

-- The operator, if it goes on with an expression of this level.
abbrev pub chosen : (limit had : ℕ) → Option Operator → Option Operator
chosen p n None = None
chosen p n (Some op) = cond (nat_le p (level op) && nat_le (left_of op) n) (Some op) None

-- The state in which the expression t goes on.
abbrev pub extended : ℕ → Tree → List pushdown.Frame → Terminal → Attributes → Suffix → Option pushdown.State
extended p t k m i suffix.Field = Some (pushdown.NameNext (pushdown.ForField p t) k)
extended p t k m i suffix.Method = Some (pushdown.NameNext (pushdown.ForMethod p t) k)
extended p t k m i suffix.Index = pushdown.opened k i (pushdown.Need 0 (pushdown.InIndex p t ∷ k))
extended p t k m i suffix.Arguments = pushdown.args_begin p (pushdown.called t) k m i
extended p t k m i (suffix.Operator op) = pushdown.opened k i (pushdown.Need (right_of (operator_in op)) (pushdown.InBinary p (operator_in op) t ∷ k))

-- The token goes on with the expression in this way, or doesn't.
abbrev pub IsSuffix : ℕ → Tree → Terminal → Option Suffix → Type 0
IsSuffix p t m None = (k : List pushdown.Frame) (i : Attributes) (o : Option pushdown.State) → pushdown.suffix p t k m i o ≡ o
IsSuffix p t m (Some s) = (k : List pushdown.Frame) (i : Attributes) (o : Option pushdown.State) → pushdown.suffix p t k m i o ≡ extended p t k m i s
