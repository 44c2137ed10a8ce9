-- Every text loads or has a refusal. What the lexer and the grammar say of their answers is a parameter.
use Rattle.std.proofs.Common.{◌≡◌, ◌≢◌, ◌⊎◌, inl, inr, ℕ, zero, suc, ◌<◌, ◌≤◌, List, [], ◌∷◌, length, Option, Some, None, refl, slice_get, arith}
use Rattle.std.proofs.lemmas.Bool.Decides.{leb_tells}
use Rattle.lua_lexer.specs.declared.token.Token.{Token}
use Rattle.lua_lexer.specs.declared.lex_error.LexError.{LexError}
use Rattle.lua_lexer.specs.Lexes.{Lexes, LexFails}
use Rattle.lua_ast.specs.Tree.{Tree}
use Rattle.lua_grammar.specs.Parses.{Parses, Reading, parsed, unexpected, too_deep, unfinished, Reads}
use Rattle.lua_parser.specs.declared.parse_error.ParseError.{ParseError}
use Rattle.lua_parser.specs.declared.parse_error.ParseError.TheVariants as parse_error
use Rattle.lua_parser.specs.Parsing.{IsRefusal}
use Rattle.lua_scope.specs.declared.load_error.LoadError.{LoadError}
use Rattle.lua_scope.specs.declared.load_error.LoadError.TheVariants as error
use Rattle.lua_scope.specs.Walk.{walked}
use Rattle.lua_scope.specs.Refusals.{first_refusal}
use Rattle.lua_scope.specs.Loads.{most_text, HasTokensOf, Loads, LoadFails, too_long, no_tokens, no_text, breaks_a_rule}

-- What the layers below are known for.
abbrev pub Lexed : List ℕ → Type 0
Lexed text = ((ts : List Token) × Lexes text ts) ⊎ ((e : LexError) × LexFails text e)

abbrev pub SomeReading : Type 0
SomeReading = (text : List ℕ) (ts : List Token) → (r : Reading) × Reads text ts r

abbrev pub Answered : List ℕ → Type 0
Answered text = Loads text ⊎ ((e : LoadError) × LoadFails text e)

-- Tokens have a tree or a refusal.
abbrev pub Read : List ℕ → List Token → Type 0
Read text ts = ((t : Tree) × Parses text ts t) ⊎ ((f : ParseError) × (f ≢ parse_error.NoMemory) × IsRefusal text ts f)

token-there : (ts : List Token) (n : ℕ) → n < length ts → (t : Token) × (slice_get ts n ≡ Some t)
token-there [] n within = absurd (omega arith)
token-there (t ∷ ts) zero within = (t, refl)
token-there (t ∷ ts) (suc n) within = token-there ts n (omega arith)

-- A token that is refused is there, so its byte can be told.
read : (text : List ℕ) (ts : List Token) (r : Reading) → Reads text ts r → Read text ts
read text ts (parsed t) is = inl (t, is)
read text ts (unexpected n) is =
    let there : (t : Token) × (slice_get ts n ≡ Some t) = token-there ts n is.refused.within in
    inr (parse_error.Unexpected there.0.start, (λ e. cc), (n, there.0, there.1, refl, is))
read text ts (too_deep n) is =
    let there : (t : Token) × (slice_get ts n ≡ Some t) = token-there ts n is.refused.within in
    inr (parse_error.TooDeep there.0.start, (λ e. cc), (n, there.0, there.1, refl, is))
read text ts unfinished is = inr (parse_error.EndOfText (length text), (λ e. cc), (refl, is))

by-rules : (text : List ℕ) (t : Tree) → length text ≤ most_text → HasTokensOf text t → (first : Option LoadError) → first_refusal (walked [] t) ≡ first → Answered text
by-rules text t short is None clear = inl (t, record { short = short; is_text = is; clear = clear })
by-rules text t short is (Some e) refused = inr (e, breaks_a_rule t short is refused)

by-grammar : (text : List ℕ) (ts : List Token) → length text ≤ most_text → Lexes text ts → Read text ts → Answered text
by-grammar text ts short lexes (inl p) = by-rules text p.0 short (record { tokens = ts; lexes = lexes; parses = p.1 }) (first_refusal (walked [] p.0)) refl
by-grammar text ts short lexes (inr f) = inr (error.Parse f.0, no_text f.0 ts refl short lexes f.1 f.2)

by-tokens : SomeReading → (text : List ℕ) → length text ≤ most_text → Lexed text → Answered text
by-tokens some text short (inl l) = by-grammar text l.0 short l.1 (read text l.0 (some text l.0).0 (some text l.0).1)
by-tokens some text short (inr f) = inr (error.Lex f.0, no_tokens f.0 refl short f.1)

pub every-text : ((text : List ℕ) → Lexed text) → SomeReading → (text : List ℕ) → Answered text
every-text lexed some text = elim (leb_tells (length text) most_text) [
  | inl short ↦ by-tokens some text short.1 (lexed text)
  | inr long ↦ inr (error.TextTooLong (length text), too_long refl long.1)
]
