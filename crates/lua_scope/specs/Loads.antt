-- Which texts load, and how the others are refused: by length, tokens, grammar (Lua 5.2 manual, section 9) and scope rules.
use Rattle.std.specs.Prelude.{◌≡◌, ◌≢◌, ◌<◌, ◌≤◌, ℕ, List, [], length, Some, None}
use Rattle.lua_lexer.specs.declared.token.Token.{Token}
use Rattle.lua_lexer.specs.declared.lex_error.LexError.{LexError}
use Rattle.lua_lexer.specs.declared.lex_error.LexError.TheVariants as lex_error
use Rattle.lua_lexer.specs.Lexes.{Lexes, LexFails}
use Rattle.lua_ast.specs.Tree.{Tree}
use Rattle.lua_ast.specs.Decode.{ChunkNodes}
use Rattle.lua_grammar.specs.Parses.{Parses}
use Rattle.lua_parser.specs.declared.parse_error.ParseError.{ParseError}
use Rattle.lua_parser.specs.declared.parse_error.ParseError.TheVariants as parse_error
use Rattle.lua_parser.specs.Parsing.{IsRefusal}
use Rattle.lua_scope.specs.declared.load_error.LoadError.{LoadError}
use Rattle.lua_scope.specs.declared.load_error.LoadError.TheVariants as error
use Rattle.lua_scope.specs.Walk.{walked}
use Rattle.lua_scope.specs.Refusals.{first_refusal}

-- The greatest number of bytes of a text.
abbrev pub most_text : ℕ
most_text = 1048576

-- The text has tokens, and they have this tree.
pub record HasTokensOf (text : List ℕ) (t : Tree) : Type 0 where
  pub tokens : List Token
  pub lexes : Lexes text tokens
  pub parses : Parses text tokens t

-- The text loads, and this is its tree.
pub record LoadsAs (text : List ℕ) (t : Tree) : Type 0 where
  pub short : length text ≤ most_text
  pub is_text : HasTokensOf text t
  pub clear : first_refusal (walked [] t) ≡ None

abbrev pub Loads : List ℕ → Type 0
Loads text = (t : Tree) × LoadsAs text t

-- The refusals of the layers below, as those of a text.
abbrev pub of_lex : LexError → LoadError
of_lex lex_error.NoMemory = error.NoMemory
of_lex e = error.Lex e

abbrev pub of_parse : ParseError → LoadError
of_parse parse_error.NoMemory = error.NoMemory
of_parse e = error.Parse e

-- The text does not load, and this is its first refusal.
pub data LoadFails (text : List ℕ) (e : LoadError) : Type 0 where
  too_long : e ≡ error.TextTooLong (length text) → most_text < length text → LoadFails text e
  no_tokens : (f : LexError) → e ≡ error.Lex f → length text ≤ most_text → LexFails text f → LoadFails text e
  no_text : (f : ParseError) (ts : List Token) → e ≡ error.Parse f → length text ≤ most_text → Lexes text ts → f ≢ parse_error.NoMemory → IsRefusal text ts f → LoadFails text e
  breaks_a_rule : (t : Tree) → length text ≤ most_text → HasTokensOf text t → first_refusal (walked [] t) ≡ Some e → LoadFails text e

-- The error is the first refusal of the text, or memory was wanting, of which nothing is said.
abbrev pub IsLoadFailure : List ℕ → LoadError → Type 0
IsLoadFailure text error.NoMemory = Unit {0}
IsLoadFailure text e = LoadFails text e

-- What contracts see of a text that loads: its bytes and its nodes.
pub record Program : Type 0 where
  pub text : List ℕ
  pub chunk : ChunkNodes
