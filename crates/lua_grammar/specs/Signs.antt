-- What the grammar reads: the tokens of a text, one after another, and then its end.
use Rattle.std.specs.Prelude.{ℕ, Bool, List, [], ◌∷◌}
use Rattle.lua_lexer.specs.declared.token.TokenKind.{TokenKind}

-- A terminal symbol of the grammar: a token of some kind, or the end of the text.
pub data Terminal : Type 0 where
  token : TokenKind → Terminal
  end : Terminal

-- The attributes of a terminal: its line and its bytes. Where it is counted, at most 200 levels may be open once it is read.
pub record Attributes : Type 0 where
  pub counted : Bool
  pub line : ℕ
  pub slice : List ℕ

pub data Sign : Type 0 where
  sign : (terminal : Terminal) (attributes : Attributes) → Sign

-- The line of the first token.
abbrev pub line_at : List Sign → ℕ
line_at [] = 0
line_at (sign m i ∷ x) = i.line
