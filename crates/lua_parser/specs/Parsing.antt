-- What a parser says of the tokens of a text.
use Rattle.std.specs.Prelude.{◌≡◌, ℕ, ◌≤◌, List, length, slice_get, Some, Result, Ok, Err}
use Rattle.lua_lexer.specs.declared.token.Token.{Token}
use Rattle.lua_lexer.specs.Lexes.{slice_of}
use Rattle.lua_ast.specs.Tree.{Tree}
use Rattle.lua_ast.specs.Decode.{ChunkNodes, tree, no_number}
use Rattle.lua_grammar.specs.Parses.{IsUnexpected, IsTooDeep, IsUnfinished, Reading, parsed, unexpected, too_deep, unfinished}
use Rattle.lua_parser.specs.declared.parse_error.ParseError.{ParseError}
use Rattle.lua_parser.specs.declared.parse_error.ParseError.TheVariants as error
use Rattle.lua_parser_state.specs.declared.refusal.Refusal.{Refusal}
use Rattle.lua_parser_state.specs.declared.refusal.Refusal.TheVariants as refusal
use Rattle.lua_parser_state.specs.Gave.{IsSmall}

-- The tree of a chunk, without the numbers of its nodes.
abbrev pub tree_of : ChunkNodes → Tree
tree_of c = tree no_number c.nodes c.root

-- The answer is a chunk with this tree, or memory was wanting.
abbrev pub HasTree : Tree → Result ChunkNodes ParseError → Type 0
HasTree t (Ok c) = tree_of c ≡ t
HasTree t (Err error.NoMemory) = Unit {0}
HasTree t (Err e) = ⊥

-- The refusal is the one that the tokens deserve, or memory was wanting, of which nothing is said.
abbrev pub IsRefusal : List ℕ → List Token → ParseError → Type 0
IsRefusal text ts error.NoMemory = Unit {0}
IsRefusal text ts (error.Unexpected at) = (n : ℕ) × (t : Token) × (slice_get ts n ≡ Some t) × (t.start ≡ at) × IsUnexpected text ts n
IsRefusal text ts (error.TooDeep at) = (n : ℕ) × (t : Token) × (slice_get ts n ≡ Some t) × (t.start ≡ at) × IsTooDeep text ts n
IsRefusal text ts (error.EndOfText len) = (len ≡ length text) × IsUnfinished text ts

-- The answer of a parser that comes to this reading.
abbrev pub HasReading : List ℕ → List Token → Reading → Result ChunkNodes ParseError → Type 0
HasReading text ts r (Ok c) = r ≡ parsed (tree_of c)
HasReading text ts r (Err error.NoMemory) = Unit {0}
HasReading text ts r (Err (error.Unexpected at)) = (n : ℕ) × (t : Token) × (slice_get ts n ≡ Some t) × (t.start ≡ at) × (r ≡ unexpected n)
HasReading text ts r (Err (error.TooDeep at)) = (n : ℕ) × (t : Token) × (slice_get ts n ≡ Some t) × (t.start ≡ at) × (r ≡ too_deep n)
HasReading text ts r (Err (error.EndOfText len)) = (len ≡ length text) × (r ≡ unfinished)

-- A token lies within the text, and as a numeral it is not too large.
pub record IsFit (text : List ℕ) (t : Token) : Type 0 where
  pub ordered : t.start ≤ t.end
  pub within : t.end ≤ length text
  pub small : IsSmall t.kind (slice_of text t)

abbrev pub AreFit : List ℕ → List Token → Type 0
AreFit text ts = (i : ℕ) (t : Token) → slice_get ts i ≡ Some t → IsFit text t

abbrev pub refusal_at : Refusal → ℕ → ParseError
refusal_at refusal.NoMemory at = error.NoMemory
refusal_at refusal.Unexpected at = error.Unexpected at
refusal_at refusal.TooDeep at = error.TooDeep at
