-- What is no case of its own.
use Rattle.std.specs.Prelude.{◌≡◌, ℕ, Bool, List, refl}
use Rattle.lua_ast.specs.Tree as tree
use Rattle.lua_lexer.specs.declared.token.TokenKind.{TokenKind}
use Rattle.lua_lexer.specs.declared.token.TokenKind.TheVariants as kind
use Rattle.lua_grammar.specs.Signs.{Terminal, Attributes, token}
use Rattle.lua_grammar.specs.Pushdown as pushdown
use Rattle.lua_grammar.specs.Kinds as kinds
use Rattle.lua_parser_state.specs.Shown.{attributes}
use Rattle.lua_statements.specs.Statements.{next_block}
use Rattle.lua_parser_state.proofs.Ends.{end_at}

pub next_block_other : (b : pushdown.Begun) (k : List pushdown.Frame) (x : TokenKind) (i : Attributes) → (x ≡ kind.Do → ⊥) → (x ≡ kind.While → ⊥) → (x ≡ kind.Repeat → ⊥) → (x ≡ kind.If → ⊥) → next_block b k (token x) i ≡ pushdown.end_block k (pushdown.block_of b) (token x) i
next_block_other b k kind.Do i h0 h1 h2 h3 = absurd (h0 refl)
next_block_other b k kind.While i h0 h1 h2 h3 = absurd (h1 refl)
next_block_other b k kind.Repeat i h0 h1 h2 h3 = absurd (h2 refl)
next_block_other b k kind.If i h0 h1 h2 h3 = absurd (h3 refl)
next_block_other b k _ i h0 h1 h2 h3 = refl

pub next_other : (b : pushdown.Begun) (k : List pushdown.Frame) (x : TokenKind) (i : Attributes) → (x ≡ kind.Semicolon → ⊥) → (x ≡ kind.Name → ⊥) → (x ≡ kind.OpenParen → ⊥) → (x ≡ kind.DoubleColon → ⊥) → (x ≡ kind.Break → ⊥) → (x ≡ kind.Goto → ⊥) → (x ≡ kind.For → ⊥) → (x ≡ kind.Function → ⊥) → (x ≡ kind.Local → ⊥) → (x ≡ kind.Return → ⊥) → pushdown.next b k (token x) i ≡ next_block b k (token x) i
next_other b k kind.Semicolon i h0 h1 h2 h3 h4 h5 h6 h7 h8 h9 = absurd (h0 refl)
next_other b k kind.Name i h0 h1 h2 h3 h4 h5 h6 h7 h8 h9 = absurd (h1 refl)
next_other b k kind.OpenParen i h0 h1 h2 h3 h4 h5 h6 h7 h8 h9 = absurd (h2 refl)
next_other b k kind.DoubleColon i h0 h1 h2 h3 h4 h5 h6 h7 h8 h9 = absurd (h3 refl)
next_other b k kind.Break i h0 h1 h2 h3 h4 h5 h6 h7 h8 h9 = absurd (h4 refl)
next_other b k kind.Goto i h0 h1 h2 h3 h4 h5 h6 h7 h8 h9 = absurd (h5 refl)
next_other b k kind.For i h0 h1 h2 h3 h4 h5 h6 h7 h8 h9 = absurd (h6 refl)
next_other b k kind.Function i h0 h1 h2 h3 h4 h5 h6 h7 h8 h9 = absurd (h7 refl)
next_other b k kind.Local i h0 h1 h2 h3 h4 h5 h6 h7 h8 h9 = absurd (h8 refl)
next_other b k kind.Return i h0 h1 h2 h3 h4 h5 h6 h7 h8 h9 = absurd (h9 refl)
next_other b k _ i h0 h1 h2 h3 h4 h5 h6 h7 h8 h9 = refl

pub local_names_other : (l : ℕ) (ns : List (List ℕ)) (b : pushdown.Begun) (k : List pushdown.Frame) (x : TokenKind) (i : Attributes) → (x ≡ kind.Comma → ⊥) → (x ≡ kind.Assign → ⊥) → pushdown.local_names l ns b k (token x) i ≡ pushdown.next (pushdown.add b (tree.Local 0 l ns tree.none)) k (token x) i
local_names_other l ns b k kind.Comma i h0 h1 = absurd (h0 refl)
local_names_other l ns b k kind.Assign i h0 h1 = absurd (h1 refl)
local_names_other l ns b k _ i h0 h1 = refl

pub close_local_other : (l : ℕ) (ns : List (List ℕ)) (es : tree.Trees) (b : pushdown.Begun) (t : tree.Tree) (k : List pushdown.Frame) (x : TokenKind) (i : Attributes) → (x ≡ kind.Comma → ⊥) → pushdown.close (pushdown.InLocal l ns es b) t k (token x) i ≡ pushdown.next (pushdown.add b (tree.Local 0 l ns (tree.snoc es t))) k (token x) i
close_local_other l ns es b t k kind.Comma i h0 = absurd (h0 refl)
close_local_other l ns es b t k _ i h0 = refl

pub close_assign_other : (l : ℕ) (us es : tree.Trees) (b : pushdown.Begun) (t : tree.Tree) (k : List pushdown.Frame) (x : TokenKind) (i : Attributes) → (x ≡ kind.Comma → ⊥) → pushdown.close (pushdown.InAssign l us es b) t k (token x) i ≡ pushdown.next (pushdown.add b (tree.Assign 0 l us (tree.snoc es t))) k (token x) i
close_assign_other l us es b t k kind.Comma i h0 = absurd (h0 refl)
close_assign_other l us es b t k _ i h0 = refl

pub close_return_at : (c : Bool) (d : ℕ) (es : tree.Trees) (b : pushdown.Begun) (t : tree.Tree) (k : List pushdown.Frame) (m : Terminal) (l n : ℕ) (s z : List ℕ) →
    pushdown.close (pushdown.InReturn d es b) t k m (attributes c l s) ≡ pushdown.close (pushdown.InReturn d es b) t k m (attributes c n z)
close_return_at c d es b t k kinds.Comma l n s z = refl
close_return_at c d es b t k kinds.Semicolon l n s z = refl
close_return_at c d es b t k m l n s z = end_at c k (pushdown.block_of (pushdown.add b (tree.Return 0 d (tree.snoc es t)))) m l n s z
