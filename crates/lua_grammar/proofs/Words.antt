-- Texts as lists of words, for the examples.
use Rattle.std.specs.Prelude.{suc, ◌≡◌, ℕ, ◌+◌, List, [], ◌∷◌, ◌++◌, Option, Some, None, length}
use Rattle.std.proofs.Common.{subst}
use Rattle.lua_lexer.specs.declared.token.TokenKind.{TokenKind}
use Rattle.lua_lexer.specs.declared.token.Token.{Token}
use Rattle.lua_lexer.specs.declared.token.TokenKind.TheVariants as token_kind
use Rattle.lua_grammar.specs.Parses.{Reading, Reads}
use Rattle.lua_grammar.specs.Deciding.{reading}
use Rattle.lua_grammar.proofs.Decides.{reads}
use Rattle.lua_lexer.specs.Spelling.{spelling as spelled}

-- A word of a text: a keyword or symbol, a name, a numeral, a text in quotes. The end of a line is none.
pub data Word : Type 0 where
  plain : TokenKind → Word
  a_name : List ℕ → Word
  a_number : List ℕ → Word
  a_text : List ℕ → Word
  new_line : Word

abbrev pub or_nothing : Option (List ℕ) → List ℕ
or_nothing None = []
or_nothing (Some s) = s

abbrev pub spelling : Word → List ℕ
spelling (plain k) = or_nothing (spelled k)
spelling (a_name s) = s
spelling (a_number s) = s
spelling (a_text s) = 34 ∷ s ++ 34 ∷ []
spelling new_line = 10 ∷ []

-- The words with a blank behind each.
abbrev pub text_of_words : List Word → List ℕ
text_of_words [] = []
text_of_words (w ∷ ws) = spelling w ++ 32 ∷ text_of_words ws

abbrev pub token_of : TokenKind → (start line : ℕ) → List ℕ → Token
token_of k n l s = record { kind = k; start = n; end = n + length s; line = l }

-- The tokens of the words from a place and a line on.
abbrev pub tokens_from : (start line : ℕ) → List Word → List Token
tokens_from n l [] = []
tokens_from n l (plain k ∷ ws) = token_of k n l (or_nothing (spelled k)) ∷ tokens_from (n + length (or_nothing (spelled k)) + 1) l ws
tokens_from n l (a_name s ∷ ws) = token_of token_kind.Name n l s ∷ tokens_from (n + length s + 1) l ws
tokens_from n l (a_number s ∷ ws) = token_of token_kind.Numeral n l s ∷ tokens_from (n + length s + 1) l ws
tokens_from n l (a_text s ∷ ws) = token_of token_kind.Text n l (34 ∷ s ++ 34 ∷ []) ∷ tokens_from (n + length s + 3) l ws
tokens_from n l (new_line ∷ ws) = tokens_from (n + 2) (suc l) ws

abbrev pub tokens : List Word → List Token
tokens ws = tokens_from 0 1 ws

-- What the words are read as.
pub record ReadsAs (ws : List Word) (r : Reading) : Type 0 where
  pub holds : Reads (text_of_words ws) (tokens ws) r

pub read_as : {ws : List Word} {r : Reading} → reading (text_of_words ws) (tokens ws) ≡ r → ReadsAs ws r
read_as {ws = ws} e = record { holds = subst (Reads (text_of_words ws) (tokens ws)) e (reads (text_of_words ws) (tokens ws)) }
