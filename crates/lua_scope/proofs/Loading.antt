-- The scope rules of a chunk are those of its tree without numbers.
use Rattle.std.proofs.Common.{◌≡◌, ◌≤◌, ℕ, List, [], length, Option, Some, refl, sym, ap, ◌∙◌}
use Rattle.lua_lexer.specs.declared.lex_error.LexError.{LexError}
use Rattle.lua_lexer.specs.declared.lex_error.LexError.TheVariants as lex_error
use Rattle.lua_lexer.specs.Lexes.{Lexes}
use Rattle.lua_lexer.specs.Lexes.{IsRefusal as IsLexRefusal}
use Rattle.lua_ast.specs.Tree.{Tree}
use Rattle.lua_ast.specs.Decode.{ChunkNodes, tree, own_number}
use Rattle.lua_ast.proofs.LabelsOnly.{tree_without}
use Rattle.lua_parser.specs.Parsing.{tree_of}
use Rattle.lua_scope.specs.Loads.{most_text, HasTokensOf, no_tokens, no_text, breaks_a_rule, of_lex, of_parse, IsLoadFailure}
use Rattle.lua_scope.specs.declared.load_error.LoadError.{LoadError}
use Rattle.lua_scope.specs.declared.load_error.LoadError.TheVariants as error
use Rattle.lua_scope.specs.Resolved.{IsFirstRefusal}
use Rattle.lua_lexer.specs.declared.token.Token.{Token}
use Rattle.lua_parser.specs.declared.parse_error.ParseError.{ParseError}
use Rattle.lua_parser.specs.declared.parse_error.ParseError.TheVariants as parse_error
use Rattle.lua_parser.specs.Parsing.{IsRefusal}
use Rattle.lua_scope.specs.Walk.{walked}
use Rattle.lua_scope.specs.Refusals.{first_refusal}
use Rattle.lua_scope.specs.OfChunk.{occurrences_of}
use Rattle.lua_scope.proofs.PlainRefusals.{numbers_refuse_nothing}

pub same_refusals : (c : ChunkNodes) → first_refusal (walked [] (tree_of c)) ≡ first_refusal (occurrences_of c)
same_refusals c = ap (λ (t : Tree). first_refusal (walked [] t)) (sym (tree_without own_number c.nodes c.root)) ∙ numbers_refuse_nothing (tree own_number c.nodes c.root)

-- What the layers below refuse does not load.
pub lex_fails : (text : List ℕ) (e : LexError) → length text ≤ most_text → IsLexRefusal text e → IsLoadFailure text (of_lex e)
lex_fails text lex_error.NoMemory short is = tt
lex_fails text (lex_error.BadByte at) short is = no_tokens (lex_error.BadByte at) refl short is
lex_fails text (lex_error.OpenString at) short is = no_tokens (lex_error.OpenString at) refl short is
lex_fails text (lex_error.OpenComment at) short is = no_tokens (lex_error.OpenComment at) refl short is
lex_fails text (lex_error.BadEscape at) short is = no_tokens (lex_error.BadEscape at) refl short is
lex_fails text (lex_error.NotWhole at) short is = no_tokens (lex_error.NotWhole at) refl short is
lex_fails text (lex_error.TooBig at) short is = no_tokens (lex_error.TooBig at) refl short is

pub parse_fails : (text : List ℕ) (ts : List Token) (e : ParseError) → length text ≤ most_text → Lexes text ts → IsRefusal text ts e → IsLoadFailure text (of_parse e)
parse_fails text ts parse_error.NoMemory short lexes is = tt
parse_fails text ts (parse_error.Unexpected at) short lexes is = no_text (parse_error.Unexpected at) ts refl short lexes (λ e. cc) is
parse_fails text ts (parse_error.TooDeep at) short lexes is = no_text (parse_error.TooDeep at) ts refl short lexes (λ e. cc) is
parse_fails text ts (parse_error.EndOfText len) short lexes is = no_text (parse_error.EndOfText len) ts refl short lexes (λ e. cc) is

-- A text that breaks a scope rule does not load.
pub rule_fails : (text : List ℕ) (e : LoadError) (t : Tree) → length text ≤ most_text → HasTokensOf text t → IsFirstRefusal (first_refusal (walked [] t)) e → IsLoadFailure text e
rule_fails text error.NoMemory t short is refused = tt
rule_fails text (error.TextTooLong n) t short is refused = breaks_a_rule t short is refused
rule_fails text (error.Lex f) t short is refused = breaks_a_rule t short is refused
rule_fails text (error.Parse f) t short is refused = breaks_a_rule t short is refused
rule_fails text (error.NoLabel l) t short is refused = breaks_a_rule t short is refused
rule_fails text (error.TwoLabels l) t short is refused = breaks_a_rule t short is refused
rule_fails text (error.JumpsIntoLocal l) t short is refused = breaks_a_rule t short is refused
rule_fails text (error.BreakOutside l) t short is refused = breaks_a_rule t short is refused
rule_fails text (error.VarargOutside l) t short is refused = breaks_a_rule t short is refused

-- What is refused first is not want of memory's doing.
pub first_is_refused : (first : Option LoadError) (e : LoadError) → first ≡ Some e → IsFirstRefusal first e
first_is_refused first error.NoMemory is = tt
first_is_refused first (error.TextTooLong n) is = is
first_is_refused first (error.Lex f) is = is
first_is_refused first (error.Parse f) is = is
first_is_refused first (error.NoLabel l) is = is
first_is_refused first (error.TwoLabels l) is = is
first_is_refused first (error.JumpsIntoLocal l) is = is
first_is_refused first (error.BreakOutside l) is = is
first_is_refused first (error.VarargOutside l) is = is
