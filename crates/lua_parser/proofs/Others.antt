-- What is no case of its own.
use Rattle.std.specs.Prelude.{None, ◌≡◌, ℕ, List, ◌∷◌, refl}
use Rattle.lua_ast.specs.Tree as tree
use Rattle.lua_lexer.specs.declared.token.TokenKind.{TokenKind}
use Rattle.lua_lexer.specs.declared.token.TokenKind.TheVariants as kind
use Rattle.lua_grammar.specs.Signs.{Terminal, Attributes, token}
use Rattle.lua_grammar.specs.Pushdown as pushdown
use Rattle.lua_ast.specs.declared.node.LinedNode.{LinedNode}
use Rattle.lua_parser_state.specs.declared.frame.OpenBlock.{OpenBlock}
use Rattle.lua_parser_state.specs.declared.frame.OpenBlock.TheVariants as block
use Rattle.lua_parser_state.specs.Shown.{block_in}

pub field_name_other : (u : pushdown.Purpose) (l : ℕ) (fs : tree.Fields) (own : ℕ) (n : List ℕ) (k : List pushdown.Frame) (x : TokenKind) (i : Attributes) → (x ≡ kind.Assign → ⊥) →
    pushdown.field_name u l fs own n k (token x) i ≡ pushdown.follow (pushdown.InItem u l fs ∷ k) 0 (tree.Name 0 own n) (token x) i
field_name_other u l fs own n k kind.Assign i h = absurd (h refl)
field_name_other u l fs own n k _ i h = refl

pub close_in_block : (ns : List LinedNode) (g : OpenBlock) (t : tree.Tree) (k : List pushdown.Frame) (m : Terminal) (i : Attributes) → pushdown.close (block_in ns g) t k m i ≡ None
close_in_block ns (block.Do l b) t k m i = refl
close_in_block ns (block.While l u b) t k m i = refl
close_in_block ns (block.Repeat l b) t k m i = refl
close_in_block ns (block.Then l us bs u b) t k m i = refl
close_in_block ns (block.Else l us bs b) t k m i = refl
close_in_block ns (block.NumericFor f) t k m i = refl
close_in_block ns (block.GenericFor f) t k m i = refl
close_in_block ns (block.Function h params more) t k m i = refl
