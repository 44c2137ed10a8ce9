-- What a text's tokens are: a text of the grammar with its tree, the beginning of one, or neither.
use Rattle.std.specs.Prelude.{◌≡◌, ℕ, suc, ◌<◌, Bool, true, false, List, [], ◌∷◌, ◌++◌, Some, take, length, slice_get}
use Rattle.lua_lexer.specs.declared.token.Token.{Token}
use Rattle.lua_lexer.specs.Lexes.{slice_of}
use Rattle.lua_ast.specs.Tree.{Tree}
use Rattle.lua_grammar.specs.Signs.{Terminal, token, end, Attributes, Sign, sign}
use Rattle.lua_grammar.specs.Grammar.{Block}

-- What a token of the text says, where its levels count or don't.
abbrev pub attributes_of : Bool → List ℕ → Token → Attributes
attributes_of c text t = record { counted = c; line = t.line; slice = slice_of text t }

-- A token of the text, whose levels count.
abbrev pub counted : List ℕ → Token → Sign
counted text t = sign (token t.kind) (attributes_of true text t)

-- The same token, where its levels don't count.
abbrev pub uncounted : List ℕ → Token → Sign
uncounted text t = sign (token t.kind) (attributes_of false text t)

abbrev pub signs : List ℕ → List Token → List Sign
signs text [] = []
signs text (t ∷ ts) = counted text t ∷ signs text ts

-- The end of a text. Its line is that of a block without tokens, where the text has none.
abbrev pub end_sign : Sign
end_sign = sign end (record { counted = true; line = 1; slice = [] })

-- A whole text with its end.
abbrev pub Whole : List Sign → Tree → Type 0
Whole x t = (i : Attributes) × Block 0 x (sign end i ∷ []) t

-- The tokens are a text of the grammar, and this is its tree.
abbrev pub Parses : List ℕ → List Token → Tree → Type 0
Parses text ts t = Whole (signs text ts ++ end_sign ∷ []) t

-- Tokens of these kinds, and the end, of which no level counts.
abbrev pub free : Attributes
free = record { counted = false; line = 1; slice = [] }

abbrev pub frees : List Terminal → List Sign
frees [] = []
frees (m ∷ ms) = sign m free ∷ frees ms

-- Some signs more make a whole text of them.
abbrev pub Starts : List Sign → Type 0
Starts x = (more : List Sign) × (t : Tree) × Whole (x ++ more) t

-- The same signs, of which no level counts.
abbrev pub loose : List Sign → List Sign
loose [] = []
loose (sign m i ∷ x) = sign m (record { counted = false; line = i.line; slice = i.slice }) ∷ loose x

-- The tokens begin a text of the grammar, and have at most 200 levels open at once themselves.
abbrev pub Begins : List ℕ → List Token → Type 0
Begins text ts = Starts (signs text ts)

-- The token at this place is the first after which they no longer begin one.
pub record IsRefused (text : List ℕ) (ts : List Token) (at : ℕ) : Type 0 where
  pub before : Begins text (take at ts)
  pub within : at < length ts
  pub after : Begins text (take (suc at) ts) → ⊥

-- But for the levels, the grammar has this token after those before it.
abbrev pub IsAllowed : List ℕ → List Token → ℕ → Type 0
IsAllowed text ts at = (t : Token) × (slice_get ts at ≡ Some t) × Starts (signs text (take at ts) ++ uncounted text t ∷ [])

-- The token at this place is the first that no text of the grammar has after those before it.
pub record IsUnexpected (text : List ℕ) (ts : List Token) (at : ℕ) : Type 0 where
  pub refused : IsRefused text ts at
  pub disallowed : IsAllowed text ts at → ⊥

-- The token at this place is the first that opens a 201st level, and the grammar has it there.
pub record IsTooDeep (text : List ℕ) (ts : List Token) (at : ℕ) : Type 0 where
  pub refused : IsRefused text ts at
  pub allowed : IsAllowed text ts at

-- The tokens begin a text of the grammar, and are none.
pub record IsUnfinished (text : List ℕ) (ts : List Token) : Type 0 where
  pub begins : Begins text ts
  pub unfinished : (t : Tree) → Parses text ts t → ⊥

-- What there is to say of a list of tokens.
pub data Reading : Type 0 where
  parsed : (t : Tree) → Reading
  unexpected : (at : ℕ) → Reading
  too_deep : (at : ℕ) → Reading
  unfinished : Reading

abbrev pub Reads : List ℕ → List Token → Reading → Type 0
Reads text ts (parsed t) = Parses text ts t
Reads text ts (unexpected at) = IsUnexpected text ts at
Reads text ts (too_deep at) = IsTooDeep text ts at
Reads text ts unfinished = IsUnfinished text ts
