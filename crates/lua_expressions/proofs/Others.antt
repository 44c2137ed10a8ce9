-- An operator that goes on with an expression.
use Rattle.std.specs.Prelude.{Some, None, true, false, cond, nat_le, ◌&&◌, ◌≡◌, ℕ, Bool, List, ◌∷◌, Option}
use Rattle.std.proofs.Common.{ap, subst}
use Rattle.lua_ast.specs.Tree as tree
use Rattle.lua_grammar.specs.Operators.{Operator, operator_of, level, left_of, right_of}
use Rattle.lua_parser_state.specs.declared.frame.Operation.{Operation}
use Rattle.lua_expressions.specs.Suffixes.{chosen}
use Rattle.lua_lexer.specs.declared.token.TokenKind.{TokenKind}
use Rattle.lua_lexer.specs.declared.token.TokenKind.TheVariants as kind
use Rattle.lua_grammar.specs.Signs.{Attributes, token}
use Rattle.lua_grammar.specs.Pushdown as pushdown
use Rattle.lua_parser_state.specs.Shown.{operator_in}

module _ (p n : ℕ) (t : tree.Tree) (k : List pushdown.Frame) (i : Attributes) (otherwise : Option pushdown.State) (op : Operation) where
  pub by_test : (b : Bool) (q : Operator) → Some (operator_in op) ≡ cond b (Some q) None → cond b (pushdown.opened k i (pushdown.Need (right_of q) (pushdown.InBinary p q t ∷ k))) otherwise ≡ pushdown.opened k i (pushdown.Need (right_of (operator_in op)) (pushdown.InBinary p (operator_in op) t ∷ k))
  by_test true q e = let same : q ≡ operator_in op = cc in ap (λ (r : Operator). pushdown.opened k i (pushdown.Need (right_of r) (pushdown.InBinary p r t ∷ k))) same
  by_test false q e = absurd cc

  pub by_operator : n ≡ pushdown.level_of t → (o : Option Operator) → Some (operator_in op) ≡ chosen p n o → pushdown.operator p t k i o otherwise ≡ pushdown.opened k i (pushdown.Need (right_of (operator_in op)) (pushdown.InBinary p (operator_in op) t ∷ k))
  by_operator h None e = absurd cc
  by_operator h (Some q) e = by_test (pushdown.takes p t q) q (subst (λ (m : ℕ). Some (operator_in op) ≡ cond (nat_le p (level q) && nat_le (left_of q) m) (Some q) None) h e)

  pub operator_taken : n ≡ pushdown.level_of t → (x : TokenKind) → Some (operator_in op) ≡ chosen p n (operator_of (token x)) → pushdown.suffix p t k (token x) i otherwise ≡ pushdown.opened k i (pushdown.Need (right_of (operator_in op)) (pushdown.InBinary p (operator_in op) t ∷ k))
  operator_taken h kind.Dot e = absurd cc
  operator_taken h kind.Colon e = absurd cc
  operator_taken h kind.OpenBracket e = absurd cc
  operator_taken h kind.OpenParen e = absurd cc
  operator_taken h kind.OpenBrace e = absurd cc
  operator_taken h kind.Text e = absurd cc
  operator_taken h x e = by_operator h (operator_of (token x)) e
