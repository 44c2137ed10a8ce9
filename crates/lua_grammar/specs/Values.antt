-- The constants that tokens stand for: a numeral or a text has the value of its bytes.
use Rattle.std.specs.Prelude.{ℕ, List, pos}
use Rattle.lua_ast.specs.declared.node.Literal.{Literal}
use Rattle.lua_ast.specs.declared.node.Literal.TheVariants as literal
use Rattle.lua_lexer.specs.Numerals.{numeral_value}
use Rattle.lua_lexer.specs.Values.{text_value}

-- A numeral.
unfoldable pub numeral_of : List ℕ → Literal
numeral_of slice = literal.Int (pos (numeral_value slice))

-- A text in quotes or in long brackets.
unfoldable pub text_of : List ℕ → Literal
text_of slice = literal.Text (text_value slice)

-- A name as a key.
abbrev pub name_of : List ℕ → Literal
name_of slice = literal.Text slice
