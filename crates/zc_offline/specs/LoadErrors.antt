-- The text of a channel program that does not load. Its form is this project's own.
use Rattle.std.specs.Prelude.{ℕ, ◌++◌, List, codes}
use Rattle.std.specs.Fmt.{decimal}
use Rattle.lua_lexer.specs.declared.lex_error.LexError.{LexError}
use Rattle.lua_lexer.specs.declared.lex_error.LexError.TheVariants as lexical
use Rattle.lua_parser.specs.declared.parse_error.ParseError.{ParseError}
use Rattle.lua_parser.specs.declared.parse_error.ParseError.TheVariants as grammatical
use Rattle.lua_scope.specs.declared.load_error.LoadError.{LoadError}
use Rattle.lua_scope.specs.declared.load_error.LoadError.TheVariants as refusal

-- ---- the kind of the innermost refusal

abbrev pub lex_kind : LexError → List ℕ
lex_kind lexical.NoMemory = codes "NoMemory"
lex_kind (lexical.BadByte at) = codes "BadByte"
lex_kind (lexical.OpenString at) = codes "OpenString"
lex_kind (lexical.OpenComment at) = codes "OpenComment"
lex_kind (lexical.BadEscape at) = codes "BadEscape"
lex_kind (lexical.NotWhole at) = codes "NotWhole"
lex_kind (lexical.TooBig at) = codes "TooBig"

abbrev pub parse_kind : ParseError → List ℕ
parse_kind (grammatical.Unexpected at) = codes "Unexpected"
parse_kind (grammatical.TooDeep at) = codes "TooDeep"
parse_kind (grammatical.EndOfText bytes) = codes "EndOfText"
parse_kind grammatical.NoMemory = codes "NoMemory"

abbrev pub load_kind : LoadError → List ℕ
load_kind (refusal.TextTooLong bytes) = codes "TextTooLong"
load_kind (refusal.Lex e) = lex_kind e
load_kind (refusal.Parse e) = parse_kind e
load_kind (refusal.NoLabel line) = codes "NoLabel"
load_kind (refusal.TwoLabels line) = codes "TwoLabels"
load_kind (refusal.JumpsIntoLocal line) = codes "JumpsIntoLocal"
load_kind (refusal.BreakOutside line) = codes "BreakOutside"
load_kind (refusal.VarargOutside line) = codes "VarargOutside"
load_kind refusal.NoMemory = codes "NoMemory"

-- ---- its number: a count of bytes, a place, a line, or the length of a text that ends too early. Want of memory is no
-- refusal of a text, and has none.

abbrev pub lex_number : LexError → ℕ
lex_number lexical.NoMemory = 0
lex_number (lexical.BadByte at) = at
lex_number (lexical.OpenString at) = at
lex_number (lexical.OpenComment at) = at
lex_number (lexical.BadEscape at) = at
lex_number (lexical.NotWhole at) = at
lex_number (lexical.TooBig at) = at

abbrev pub parse_number : ParseError → ℕ
parse_number (grammatical.Unexpected at) = at
parse_number (grammatical.TooDeep at) = at
parse_number (grammatical.EndOfText bytes) = bytes
parse_number grammatical.NoMemory = 0

abbrev pub load_number : LoadError → ℕ
load_number (refusal.TextTooLong bytes) = bytes
load_number (refusal.Lex e) = lex_number e
load_number (refusal.Parse e) = parse_number e
load_number (refusal.NoLabel line) = line
load_number (refusal.TwoLabels line) = line
load_number (refusal.JumpsIntoLocal line) = line
load_number (refusal.BreakOutside line) = line
load_number (refusal.VarargOutside line) = line
load_number refusal.NoMemory = 0

-- what is told of a text that is refused so
abbrev pub load_error_text : LoadError → List ℕ
load_error_text e = codes "the text does not load: " ++ load_kind e ++ codes " at " ++ decimal (load_number e)
