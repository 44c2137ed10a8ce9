-- A text loads as one tree or has one refusal. What the lexer and the grammar say of their answers is a parameter.
use Rattle.std.proofs.Common.{◌≡◌, ◌≢◌, ℕ, ◌≤◌, List, [], length, Some, None, refl, sym, ap, subst, ◌∙◌, slice_get, arith}
use Rattle.lua_lexer.specs.declared.token.Token.{Token}
use Rattle.lua_lexer.specs.declared.lex_error.LexError.{LexError}
use Rattle.lua_lexer.specs.Lexes.{Lexes, LexFails}
use Rattle.lua_ast.specs.Tree.{Tree}
use Rattle.lua_grammar.specs.Parses.{Parses, Reading, parsed, unexpected, too_deep, unfinished, Reads}
use Rattle.lua_parser.specs.declared.parse_error.ParseError.{ParseError}
use Rattle.lua_parser.specs.declared.parse_error.ParseError.TheVariants as parse_error
use Rattle.lua_parser.specs.Parsing.{IsRefusal}
use Rattle.lua_scope.specs.declared.load_error.LoadError.{LoadError}
use Rattle.lua_scope.specs.declared.load_error.LoadError.TheVariants as error
use Rattle.lua_scope.specs.Walk.{walked}
use Rattle.lua_scope.specs.Refusals.{first_refusal}
use Rattle.lua_scope.specs.Loads.{most_text, HasTokensOf, LoadsAs, LoadFails, too_long, no_tokens, no_text, breaks_a_rule}

-- What the layers below are known for.
abbrev pub OneTokens : Type 0
OneTokens = (text : List ℕ) (ts us : List Token) → Lexes text ts → Lexes text us → ts ≡ us

abbrev pub OneLexError : Type 0
OneLexError = (text : List ℕ) (d e : LexError) → LexFails text d → LexFails text e → d ≡ e

abbrev pub LexesOrFails : Type 0
LexesOrFails = (text : List ℕ) (ts : List Token) (e : LexError) → Lexes text ts → LexFails text e → ⊥

abbrev pub OneReading : Type 0
OneReading = (text : List ℕ) (ts : List Token) (r s : Reading) → Reads text ts r → Reads text ts s → r ≡ s

some-same : {A : Type 0} (x y : A) → Some x ≡ Some y → x ≡ y
some-same x y e = cc

-- Tokens with a tree have no refusal.
parsed-or-refused : OneReading → (text : List ℕ) (ts : List Token) (t : Tree) (f : ParseError) → Parses text ts t → f ≢ parse_error.NoMemory → IsRefusal text ts f → ⊥
parsed-or-refused one text ts t parse_error.NoMemory p other is = other refl
parsed-or-refused one text ts t (parse_error.Unexpected at) p other is = let e : parsed t ≡ unexpected is.0 = one text ts (parsed t) (unexpected is.0) p is.4 in cc
parsed-or-refused one text ts t (parse_error.TooDeep at) p other is = let e : parsed t ≡ too_deep is.0 = one text ts (parsed t) (too_deep is.0) p is.4 in cc
parsed-or-refused one text ts t (parse_error.EndOfText len) p other is = let e : parsed t ≡ unfinished = one text ts (parsed t) unfinished p is.1 in cc

-- One token stands at a place.
same-start : (ts : List Token) (m n : ℕ) (s t : Token) (a b : ℕ) → m ≡ n → slice_get ts m ≡ Some s → slice_get ts n ≡ Some t → s.start ≡ a → t.start ≡ b → a ≡ b
same-start ts m n s t a b e d f p q = let same : s ≡ t = some-same s t (sym d ∙ ap (slice_get ts) e ∙ f) in sym p ∙ ap (λ (x : Token). x.start) same ∙ q

unexpected-same : (m n : ℕ) → unexpected m ≡ unexpected n → m ≡ n
unexpected-same m n e = cc

deep-same : (m n : ℕ) → too_deep m ≡ too_deep n → m ≡ n
deep-same m n e = cc

-- Tokens have one refusal.
one-refusal : OneReading → (text : List ℕ) (ts : List Token) (f g : ParseError) → f ≢ parse_error.NoMemory → g ≢ parse_error.NoMemory → IsRefusal text ts f → IsRefusal text ts g → f ≡ g
one-refusal one text ts parse_error.NoMemory g other also is it = absurd (other refl)
one-refusal one text ts (parse_error.Unexpected a) parse_error.NoMemory other also is it = absurd (also refl)
one-refusal one text ts (parse_error.Unexpected a) (parse_error.Unexpected b) other also is it = ap parse_error.Unexpected (same-start ts is.0 it.0 is.1 it.1 a b (unexpected-same is.0 it.0 (one text ts (unexpected is.0) (unexpected it.0) is.4 it.4)) is.2 it.2 is.3 it.3)
one-refusal one text ts (parse_error.Unexpected a) (parse_error.TooDeep b) other also is it = absurd (let e : unexpected is.0 ≡ too_deep it.0 = one text ts (unexpected is.0) (too_deep it.0) is.4 it.4 in cc)
one-refusal one text ts (parse_error.Unexpected a) (parse_error.EndOfText b) other also is it = absurd (let e : unexpected is.0 ≡ unfinished = one text ts (unexpected is.0) unfinished is.4 it.1 in cc)
one-refusal one text ts (parse_error.TooDeep a) parse_error.NoMemory other also is it = absurd (also refl)
one-refusal one text ts (parse_error.TooDeep a) (parse_error.Unexpected b) other also is it = absurd (let e : too_deep is.0 ≡ unexpected it.0 = one text ts (too_deep is.0) (unexpected it.0) is.4 it.4 in cc)
one-refusal one text ts (parse_error.TooDeep a) (parse_error.TooDeep b) other also is it = ap parse_error.TooDeep (same-start ts is.0 it.0 is.1 it.1 a b (deep-same is.0 it.0 (one text ts (too_deep is.0) (too_deep it.0) is.4 it.4)) is.2 it.2 is.3 it.3)
one-refusal one text ts (parse_error.TooDeep a) (parse_error.EndOfText b) other also is it = absurd (let e : too_deep is.0 ≡ unfinished = one text ts (too_deep is.0) unfinished is.4 it.1 in cc)
one-refusal one text ts (parse_error.EndOfText a) parse_error.NoMemory other also is it = absurd (also refl)
one-refusal one text ts (parse_error.EndOfText a) (parse_error.Unexpected b) other also is it = absurd (let e : unfinished ≡ unexpected it.0 = one text ts unfinished (unexpected it.0) is.1 it.4 in cc)
one-refusal one text ts (parse_error.EndOfText a) (parse_error.TooDeep b) other also is it = absurd (let e : unfinished ≡ too_deep it.0 = one text ts unfinished (too_deep it.0) is.1 it.4 in cc)
one-refusal one text ts (parse_error.EndOfText a) (parse_error.EndOfText b) other also is it = ap parse_error.EndOfText (is.0 ∙ sym it.0)

parsed-same : (s t : Tree) → parsed s ≡ parsed t → s ≡ t
parsed-same s t e = cc

-- A text has one tree.
pub one-tree : OneTokens → OneReading → (text : List ℕ) (s t : Tree) → HasTokensOf text s → HasTokensOf text t → s ≡ t
one-tree tokens one text s t a b =
    let other : Parses text a.tokens t = subst (λ (ts : List Token). Parses text ts t) (tokens text b.tokens a.tokens b.lexes a.lexes) b.parses in
    parsed-same s t (one text a.tokens (parsed s) (parsed t) a.parses other)

refused-text : OneTokens → OneReading → (text : List ℕ) (t : Tree) (ts : List Token) (f : ParseError) → HasTokensOf text t → Lexes text ts → f ≢ parse_error.NoMemory → IsRefusal text ts f → ⊥
refused-text tokens one text t ts f a lexes other is =
    parsed-or-refused one text ts t f (subst (λ (us : List Token). Parses text us t) (tokens text a.tokens ts a.lexes lexes) a.parses) other is

-- What loads has no refusal.
pub loads-or-fails : OneTokens → LexesOrFails → OneReading → (text : List ℕ) (t : Tree) (e : LoadError) → LoadsAs text t → LoadFails text e → ⊥
loads-or-fails tokens apart one text t e a (too_long is long) = let short : length text ≤ most_text = a.short in omega arith
loads-or-fails tokens apart one text t e a (no_tokens f is short fails) = apart text a.is_text.tokens f a.is_text.lexes fails
loads-or-fails tokens apart one text t e a (no_text f ts is short lexes other refused) = refused-text tokens one text t ts f a.is_text lexes other refused
loads-or-fails tokens apart one text t e a (breaks_a_rule u short b refused) =
    let same : first_refusal (walked [] t) ≡ Some e = ap (λ (x : Tree). first_refusal (walked [] x)) (one-tree tokens one text t u a.is_text b) ∙ refused in
    let clear : first_refusal (walked [] t) ≡ None = a.clear in cc

-- A text has one refusal.
pub one-error : OneTokens → OneLexError → LexesOrFails → OneReading → (text : List ℕ) (d e : LoadError) → LoadFails text d → LoadFails text e → d ≡ e
one-error tokens lex apart one text d e (too_long is long) (too_long it also) = is ∙ sym it
one-error tokens lex apart one text d e (too_long is long) (no_tokens f it short fails) = absurd (omega arith)
one-error tokens lex apart one text d e (too_long is long) (no_text f ts it short lexes other refused) = absurd (omega arith)
one-error tokens lex apart one text d e (too_long is long) (breaks_a_rule t short a refused) = absurd (omega arith)
one-error tokens lex apart one text d e (no_tokens f is short fails) (too_long it long) = absurd (omega arith)
one-error tokens lex apart one text d e (no_tokens f is short fails) (no_tokens g it brief also) = is ∙ ap error.Lex (lex text f g fails also) ∙ sym it
one-error tokens lex apart one text d e (no_tokens f is short fails) (no_text g ts it brief lexes other refused) = absurd (apart text ts f lexes fails)
one-error tokens lex apart one text d e (no_tokens f is short fails) (breaks_a_rule t brief a refused) = absurd (apart text a.tokens f a.lexes fails)
one-error tokens lex apart one text d e (no_text f ts is short lexes other refused) (too_long it long) = absurd (omega arith)
one-error tokens lex apart one text d e (no_text f ts is short lexes other refused) (no_tokens g it brief fails) = absurd (apart text ts g lexes fails)
one-error tokens lex apart one text d e (no_text f ts is short lexes other refused) (no_text g us it brief too also too_refused) =
    is ∙ ap error.Parse (one-refusal one text ts f g other also refused (subst (λ (xs : List Token). IsRefusal text xs g) (tokens text us ts too lexes) too_refused)) ∙ sym it
one-error tokens lex apart one text d e (no_text f ts is short lexes other refused) (breaks_a_rule t brief a also) = absurd (refused-text tokens one text t ts f a lexes other refused)
one-error tokens lex apart one text d e (breaks_a_rule t short a refused) (too_long it long) = absurd (omega arith)
one-error tokens lex apart one text d e (breaks_a_rule t short a refused) (no_tokens g it brief fails) = absurd (apart text a.tokens g a.lexes fails)
one-error tokens lex apart one text d e (breaks_a_rule t short a refused) (no_text g ts it brief lexes other also) = absurd (refused-text tokens one text t ts g a lexes other also)
one-error tokens lex apart one text d e (breaks_a_rule t short a refused) (breaks_a_rule u brief b also) =
    let same : Some d ≡ Some e = sym refused ∙ ap (λ (x : Tree). first_refusal (walked [] x)) (one-tree tokens one text t u a b) ∙ also in
    some-same d e same
